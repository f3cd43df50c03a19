-- Laws of translation by loops.
pub mod Answers
pub mod Left
pub mod Parts
