-- Laws of the reverse complement.
pub mod Laws
