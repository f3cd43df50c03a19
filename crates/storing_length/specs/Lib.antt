-- The length of the stored form, over the definitions of `rules`.
pub mod Length
