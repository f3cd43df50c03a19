-- The numbers that a host is told, over the definitions of `rules`.
pub mod Told
