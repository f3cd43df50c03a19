pub mod Letters
pub mod Judged
pub mod Shared
