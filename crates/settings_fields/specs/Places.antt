-- The fields of settings by their places in the caller's bytes.
use Rattle.std.specs.Prelude.{ℕ, ◌+◌, Some, None, List, [], ◌∷◌, ◌++◌, Bool, false, ◌&&◌, eqb, leb, length, take, drop, get_or, if◌then◌else◌}
use Rattle.std.specs.Prelude.{Option as Optional}
use Rattle.std.proofs.Math.Option.{Option, none, some}
use Rattle.rules.specs.declared.Settings.{Settings}
use Rattle.rules.specs.Refusal.{limits}
use Rattle.rules.specs.Settings.{has_longest, version_of}
use Rattle.rules.specs.Stored.{two_bytes, Field, ended, cut, whole, field}

-- a whole field of that tag and length
unfoldable pub is_of : ℕ × ℕ → Field → Bool
is_of f ended = false
is_of f (cut tag) = false
is_of f (whole tag content rest) = eqb tag f.0 && eqb (length content) f.1

unfoldable pub is_at : List ℕ → ℕ → ℕ × ℕ → Bool
is_at s at f = is_of f (field (drop at s))

-- such fields, one behind the other from a place on, and nothing behind them
unfoldable pub are_at : List (ℕ × ℕ) → ℕ → List ℕ → Bool
are_at [] at s = leb (length s) at
are_at (f ∷ fs) at s = is_at s at f && are_at fs (at + 3 + f.1) s

-- their contents in a row
unfoldable pub contents_at : List (ℕ × ℕ) → ℕ → List ℕ → List ℕ
contents_at [] at s = []
contents_at (f ∷ fs) at s = take f.1 (drop (at + 3) s) ++ contents_at fs (at + 3 + f.1) s

-- the sections' value, or none, as code answers it
abbrev pub answered : Option ℕ → Optional ℕ
answered none = None
answered (some v) = Some v

unfoldable pub version_in : List ℕ → Optional ℕ
version_in s = answered (version_of (field s))

-- the settings, by their places in a store of a version
unfoldable pub settings_at : ℕ → List ℕ → Settings
settings_at v s =
    record {
      version = v;
      table = get_or s 7 0;
      profile = get_or s 11 0;
      width = get_or s 15 0;
      longest = if has_longest v then two_bytes (get_or s 19 0) (get_or s 20 0) else limits.most;
    }
