-- Laws of pieces.
pub mod Reusing
