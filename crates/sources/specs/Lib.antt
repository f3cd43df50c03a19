-- What only this crate's contracts, and those above it, want said.
pub mod Sources
