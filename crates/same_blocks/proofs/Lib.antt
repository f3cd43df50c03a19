-- Laws of blocks and eights, which the functions' proofs and the crates above cite.
pub mod Blocks
pub mod Eights
