-- What a caller has looked at before letters are read. Assumes nothing: these are definitions.
use Rattle.std.specs.Prelude.{ℕ, ◌<◌, ◌≤◌, ◌≡◌, Bool, true, List, length}
use Rattle.rules.specs.declared.Exceptions.{Exceptions}
use Rattle.rules.specs.Translation.{residue_count, fold_to_letters}
use Rattle.places.specs.Places.{fold_to_bases}

-- letters that were looked at, a table, and exceptions that were judged
pub record Reads (table : ℕ) (plain : Bool) (s : List ℕ) (e : Exceptions) : Type 0 where
  pub code : table < 3
  pub letters : fold_to_letters s ≡ true
  pub bases : plain ≡ true → fold_to_bases s ≡ true
  pub few : e.count ≤ 16

-- the same, with room for the residues
pub record Walks (table : ℕ) (plain : Bool) (s : List ℕ) (e : Exceptions) (out : List ℕ) : Type 0 where
  pub reads : Reads table plain s e
  pub room : residue_count (length s) ≤ length out
