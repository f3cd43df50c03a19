-- What tables of residues hold, over the definitions of `rules`.
pub mod Tables
