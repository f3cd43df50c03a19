-- What a host's numbers stand for, over the definitions of `rules`.
pub mod Given
