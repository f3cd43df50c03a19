-- Exceptions over residues, over the definitions of `rules`.
pub mod Exceptions
