-- Laws that this crate's proofs and the crates above cite.
pub mod Rows
pub mod Carrying
pub mod Coding
pub mod Whole
pub mod Answering
