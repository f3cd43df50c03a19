-- Laws of residue names.
pub mod Laws
