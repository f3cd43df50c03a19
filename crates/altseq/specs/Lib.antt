-- What only this crate's contracts, and those above it, want said.
pub mod Carried
pub mod Decided
pub mod Transcribing
