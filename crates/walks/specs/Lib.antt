-- Walks over codons to the first stop, over the definitions of `rules`.
pub mod Walks
