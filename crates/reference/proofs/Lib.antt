-- Laws that this crate's proofs and the crates above cite.
pub mod Testing
pub mod Judging
pub mod Stops
pub mod Last
pub mod Reading
pub mod Cut
pub mod Checking
