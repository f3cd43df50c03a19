-- Laws of tables, which the functions' proofs and the crates above cite.
pub mod Plain
pub mod Single
