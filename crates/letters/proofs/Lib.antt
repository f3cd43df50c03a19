-- Laws of letters, which the functions' proofs and the crates above cite.
pub mod Listed
pub mod Loops
pub mod Sets
pub mod Partners
pub mod Single
