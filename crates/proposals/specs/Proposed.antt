-- A proposed record of a number and two lent byte strings, for those who name this crate alone.
pub use Rattle.replays.specs.Proposed.{proposed}
