-- Laws of numbers, which the functions' proofs cite.
pub mod Numbers
