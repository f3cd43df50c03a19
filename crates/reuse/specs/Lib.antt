-- What an edit's plan leaves of R, and A in pieces.
pub mod Reusing
