-- Definitions that the contracts of the crate's functions cite.
pub mod Joined
