-- Laws of the answer under the profile.
pub mod Answering
