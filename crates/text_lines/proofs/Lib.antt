-- Laws that this crate's proofs and the crates above cite.
pub mod Whole
pub mod Single
pub mod Room
pub mod Turns
mod Editing
mod Beginning
pub mod Last
pub mod Rooms
