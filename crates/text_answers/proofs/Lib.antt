-- Laws that this crate's proofs and the crates above cite.
pub mod Asking
mod Checking
pub mod Single
