-- What a line of the file stdin gives, and what is printed of a buffer.
pub mod Fields
pub mod Letters
pub mod Given
pub mod Printed
