-- What only contracts of reading settings want said.
pub mod Places
