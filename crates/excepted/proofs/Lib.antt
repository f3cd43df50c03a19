-- Laws of exceptions over residues, which the functions' proofs and the crates above cite.
pub mod Putting
