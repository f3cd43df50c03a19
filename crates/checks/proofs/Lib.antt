-- Laws that this crate's proofs and the crates above cite.
pub mod Changing
pub mod Deciding
pub mod Judging
pub mod Whole
