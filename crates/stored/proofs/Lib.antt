-- Laws of stored references.
pub mod Judged
pub mod Joined
pub mod Answered
pub mod Promised
