-- What only this program's contracts want said.
pub mod Turns
