-- Laws of verbs, which the functions' proofs and the crate above cite.
pub mod Verbs
