-- What is held and found in stored fields.
pub mod Held
pub mod Reading
