-- Laws of a line gathered from pieces, and of what is put out.
pub mod Kept
pub mod Pieces
pub mod Feeds
pub mod Gathering
pub mod Puts
