-- What a table holds fixes each of its entries, so the promise of each function that loads one admits a single answer.
-- Assumes nothing.
use mathlib.Core.Path.{◌≡◌, sym, ◌∙◌}
use mathlib.Core.List.{List}
use Prim.Native.Nat.{ℕ}
use native.Mathlib.Omega.{arith}
use lib.ListN.{length}
use lib.Seq.{ext_get_or}
use Rattle.letters.specs.Sets.{HoldsSets, HoldsComplements}

pub sets_once : (read : ℕ → ℕ) (xs ys : List ℕ) → length xs ≡ 256 → length ys ≡ 256 → HoldsSets read xs → HoldsSets read ys → xs ≡ ys
sets_once read xs ys n m h k = ext_get_or 0 xs ys (n ∙ sym m) (λ i l. h.entry i (omega arith) ∙ sym (k.entry i (omega arith)))

pub complements_once : (xs ys : List ℕ) → length xs ≡ 32 → length ys ≡ 32 → HoldsComplements xs → HoldsComplements ys → xs ≡ ys
complements_once xs ys n m h k = ext_get_or 0 xs ys (n ∙ sym m) (λ i l. h.entry i (omega arith) ∙ sym (k.entry i (omega arith)))
