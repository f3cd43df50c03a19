-- Fields of the stored form, over the definitions of `rules`.
pub mod Fields
