-- Laws of packed letters, half byte by half byte.
pub mod Halves
pub mod Checks
pub mod Sizes
