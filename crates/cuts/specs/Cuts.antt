-- The stop cut of what goes in.
use Rattle.std.specs.Prelude.{ℕ, ◌<◌, ◌≡◌, Bool, true, List, length}
use Rattle.rules.specs.Bytes.{all}
use Rattle.rules.specs.Letters.{is_letter}
use Rattle.rules.specs.Altered.{has_stop, cut_at_stop}
use Rattle.letters.specs.Sets.{is_base}
use Rattle.cuts.specs.declared.Cut.{Cut}

-- the stop cut behind so many letters N: whether a `*` appears, and how many of the bytes stay
unfoldable pub cut_of : ℕ → ℕ → List ℕ → Cut
cut_of table n put = record { found = has_stop table n put; kept = length (cut_at_stop table n put) }

-- letters to cut, which are plain only if each is one base
pub record Cuts (table : ℕ) (plain : Bool) (put : List ℕ) : Type 0 where
  pub code : table < 3
  pub letters : all is_letter put ≡ true
  pub bases : plain ≡ true → all is_base put ≡ true
