-- Laws of mixes, which the functions' proofs cite.
pub mod Mixes
