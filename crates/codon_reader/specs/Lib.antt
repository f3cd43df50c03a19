-- What the plain codon reader expands and joins, over the definitions of `rules`.
pub mod Expansion
pub mod Pairs
