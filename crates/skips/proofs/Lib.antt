pub mod Residues
pub mod Walking
