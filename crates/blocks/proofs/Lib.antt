-- Laws of codons read in blocks, which the functions' proofs and the crates above cite.
pub mod Blocked
