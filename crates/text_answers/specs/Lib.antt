-- What only this crate's contracts, and those above it, want said.
pub mod Rooms
pub mod Stage
pub mod Lines
