-- Laws of packed letters.
pub mod Codons
pub mod Rests
pub mod Pairs
pub mod Blocks
pub mod Readings
pub mod Turning
