-- Laws of the plain codon reader, which the functions' proofs cite.
pub mod Expanded
pub mod Agreement
pub mod Pairs
