-- What the crate's tables hold, over the definitions of `rules`.
pub mod Sets
