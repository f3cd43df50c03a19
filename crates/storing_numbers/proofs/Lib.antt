-- Laws of fields, which the functions' proofs and the crates above cite.
pub mod Fields
