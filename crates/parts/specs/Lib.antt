-- What only contracts over letters in parts want said.
pub mod Parts
