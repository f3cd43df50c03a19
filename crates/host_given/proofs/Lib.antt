-- What the crate above cites.
pub mod Given
