-- Laws that this crate's proofs and the crates above cite.
pub mod Answers
pub mod Positions
pub mod Edits
pub mod References
