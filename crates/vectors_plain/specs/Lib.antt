-- What the program's rows are made of.
pub mod Rows
