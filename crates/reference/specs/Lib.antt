-- What only this crate's contracts, and those above it, want said.
pub mod Bounds
pub mod Known
