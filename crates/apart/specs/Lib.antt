-- What the contracts here, and those above, want said.
pub mod Apart
