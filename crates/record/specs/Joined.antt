-- A in three parts, and a record whose inserted residues are counted from behind the first, for those who name this crate alone.
pub use Rattle.joined.specs.Joined.{Joins}
unfoldable pub use Rattle.joined.specs.Joined.{joined}
unfoldable pub use Rattle.record_over.specs.Seen.{change_from, seen_from, inserted_of}
