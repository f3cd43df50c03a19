-- What only this crate's contracts want said.
pub mod Listing
pub mod Uncompared
