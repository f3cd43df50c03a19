-- Laws that this crate's proofs and the crates above cite.
pub mod Planning
pub mod Deciding
