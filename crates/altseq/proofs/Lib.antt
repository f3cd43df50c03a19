-- Laws that this crate's proofs and the crates above cite.
pub mod Coding
pub mod Reusing
pub mod Making
pub mod Carrying
pub mod Answering
pub mod Whole
pub mod Transcribing
pub mod Promised
pub mod Agreeing
