-- Laws of bytes that are put out where there is room for them.
-- Assumes nothing.
use Rattle.std.specs.Prelude.{if◌then◌else◌}
use mathlib.Core.Path.{◌≡◌, refl, sym}
use mathlib.Core.Bool.{Bool, true, false}
use mathlib.Core.List.{List, []}
use Prim.Native.Nat.{ℕ, ◌≤◌, ◌<◌}
use native.Mathlib.Omega.{arith}
use lib.Dec.{leb}
use lib.ListN.{length}
use borrow.Author.Tests.{le-leb, lt-leb, leb-true, leb-false}
use Rattle.rules.specs.Bytes.{Result, given, refused, over}
use Rattle.rules.specs.Answer.{written_of, bytes_of}
use Rattle.text_gather.specs.Steps.{within}

module _ (s : List ℕ) (room : ℕ) where
  pub within-fits : length s ≤ room → within s room ≡ given s
  unfolding within
  within-fits h = rw (le-leb (length s) room h)

  pub within-not : room < length s → within s room ≡ refused 15
  unfolding within
  within-not h = rw (lt-leb (length s) room h)

  -- what is put out has room, and is all
  pub put-bytes : (n : ℕ) → given n ≡ written_of (within s room) → (n ≡ length s) × (n ≤ room) × (bytes_of (within s room) ≡ s)
  unfolding within written_of bytes_of
  put-bytes n is = by (leb (length s) room) refl (sym is)
    where
      by : (t : Bool) → leb (length s) room ≡ t → written_of (if t then given s else refused 15) ≡ given n → (n ≡ length s) × (n ≤ room) × (bytes_of (if t then given s else refused 15) ≡ s)
      by true e q = let same : n ≡ length s = cc in (same, omega (arith, leb-true (length s) room e), refl)
      by false e q = cc

  pub put-none : (n : ℕ) → refused n ≡ written_of (within s room) → (room < length s) × (bytes_of (within s room) ≡ [])
  unfolding within written_of bytes_of
  put-none n is = by (leb (length s) room) refl (sym is)
    where
      by : (t : Bool) → leb (length s) room ≡ t → written_of (if t then given s else refused 15) ≡ refused n → (room < length s) × (bytes_of (if t then given s else refused 15) ≡ [])
      by true e q = cc
      by false e q = (leb-false (length s) room e, refl)

pub over_none : (s out : List ℕ) → s ≡ [] → over s out ≡ out
unfolding over
over_none s out e = rw e

-- bytes known as others
pub put_as : (s a : List ℕ) (r : Result ℕ) (out out' : List ℕ) → s ≡ a → r ≡ written_of (within s (length out)) → out' ≡ over (bytes_of (within s (length out))) out
    → (r ≡ written_of (within a (length out))) × (out' ≡ over (bytes_of (within a (length out))) out)
put_as s a r out out' is says holds = rw (← is) (says, holds)
