-- What the contracts here want said.
pub mod Exceptions
