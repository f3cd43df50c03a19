-- Laws of the definitions that the functions go by.
pub mod Rows
