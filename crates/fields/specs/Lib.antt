-- What only contracts over fields want said.
pub mod Places
pub mod Refusals
