-- Laws of the form, field by field.
pub mod Forms
pub mod Lengths
pub mod Answering
