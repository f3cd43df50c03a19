-- Laws of letters in parts.
pub mod Places
pub mod Judged
pub mod Passing
