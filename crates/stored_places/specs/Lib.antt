-- Refusals by the places of contents, over the definitions of `rules`.
pub mod Refusal
