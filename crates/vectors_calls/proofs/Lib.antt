-- Laws of the definitions that the functions go by.
pub mod Lines
pub mod Rows
