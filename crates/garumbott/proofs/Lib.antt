-- Laws that this crate's proofs cite.
pub mod Excepted
pub mod Within
pub mod Compared
pub mod Keeping
pub mod Promised
