-- Laws of fields by their places, which the functions' proofs and the crate above cite.
pub mod Places
