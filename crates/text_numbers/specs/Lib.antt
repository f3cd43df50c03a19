-- What only contracts of parsers want said.
pub mod Views
