-- Laws that this crate's proofs cite.
mod Kept
pub mod Same
