-- Codons of byte strings, over the definitions of `rules`.
pub mod Places
pub mod Looked
