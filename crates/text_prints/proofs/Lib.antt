-- Laws that this crate's proofs and the crates above cite.
pub mod Puts
pub mod Digits
pub mod Sizes
mod Shown
