-- Laws of codons by index, which the functions' proofs and the crates above cite.
pub mod Six
pub mod Residues
pub mod Places
pub mod Entries
pub mod Strict
