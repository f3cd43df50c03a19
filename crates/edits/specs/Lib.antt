-- What only this crate's contracts, and those above it, want said.
pub mod Plans
pub mod Decisions
