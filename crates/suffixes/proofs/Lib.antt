-- Laws of equal last bytes, which the functions' proofs cite.
pub mod Suffixes
