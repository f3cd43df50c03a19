-- What only this crate's contracts want said.
pub mod Host
pub mod Keeping
pub mod Kept
