-- Laws of a reference's fields.
pub mod Form
pub mod Held
pub mod Reading
