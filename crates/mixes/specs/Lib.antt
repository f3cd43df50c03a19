-- What residues make together, over the definitions of `rules`.
pub mod Mixes
