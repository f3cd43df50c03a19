-- Laws of an answer that fills one lent buffer: what a refusal says and leaves, and what is said and left where bytes are given.
-- Assumes nothing.
use mathlib.Core.Path.{◌≡◌, refl, ap}
use mathlib.Core.List.{List}
use Prim.Native.Nat.{ℕ}
use lib.ListN.{length}
use Rattle.rules.specs.Bytes.{Result, given, refused, over}
use Rattle.rules.specs.Answer.{written_of, bytes_of}

pub refuses : (q : Result (List ℕ)) (n : ℕ) (old : List ℕ) → q ≡ refused n → (refused n ≡ written_of q) × (old ≡ over (bytes_of q) old)
unfolding written_of bytes_of over
refuses q n old e = rw e (refl, refl)

pub gives : (q : Result (List ℕ)) (s : List ℕ) (n : ℕ) (out old : List ℕ) → q ≡ given s → n ≡ length s → out ≡ over s old → (given n ≡ written_of q) × (out ≡ over (bytes_of q) old)
unfolding written_of bytes_of
gives q s n out old e k h = rw e (ap given k, h)
