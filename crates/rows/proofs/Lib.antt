-- Laws of rows, which the functions' proofs cite.
pub mod Rowed
pub mod Single
