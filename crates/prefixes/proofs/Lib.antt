-- Laws of equal first bytes, which the functions' proofs cite.
pub mod Prefixes
