-- Laws of walks to the first stop.
pub mod Walks
pub mod PlainWalks
