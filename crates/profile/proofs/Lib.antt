-- Laws of the profile's tests.
pub mod Judging
