-- What the contracts of the stop cut want said.
pub mod Cuts
