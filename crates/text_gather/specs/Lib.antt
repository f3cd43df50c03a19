-- What further bytes of the input make of a run.
pub mod Steps
