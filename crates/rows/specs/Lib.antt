-- Codons by the numbers of their letters, over the definitions of `rules`.
pub mod Rows
