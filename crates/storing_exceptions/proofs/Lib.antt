-- Laws of rows, which the functions' proofs and the crate above cite.
pub mod Rows
