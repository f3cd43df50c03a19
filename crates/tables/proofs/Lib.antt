-- Laws of the tables, which the function's proof cites.
pub mod Ruled
