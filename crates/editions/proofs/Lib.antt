pub mod Comparing
mod Told
