-- Several bytes as one number.
pub mod Packed
