-- Laws of settings: by the places of their fields, and by the parts that they are written in.
pub mod Reading
pub mod Writing
mod Told
