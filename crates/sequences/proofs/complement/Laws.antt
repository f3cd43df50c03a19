-- Laws of the reverse complement: a turn of the loop that writes it, and the answer by the tests.
-- Assumes nothing.
use mathlib.Core.Path.{◌≡◌, sym, ◌∙◌}
use mathlib.Core.Bool.{true, false}
use mathlib.Core.List.{List, ◌∷◌}
use Prim.Native.Nat.{ℕ, suc, ◌+◌, ◌-◌, ◌≤◌, ◌<◌}
use native.Mathlib.Omega.{arith}
use lib.ListN.{length, take, get_or, set}
use lib.Seq.{take-length}
use borrow.Author.Tests.{lt-ltb, le-ltb}
use Rattle.rules.specs.Bytes.{all, over, first_number, given, refused, unless}
use Rattle.rules.specs.Letters.{is_letter}
use Rattle.rules.specs.Complement.{complement, reverse_complement, complemented}
use Rattle.rules.proofs.Complement.{complement-last}
use Rattle.rules.proofs.Over.{over_from, from_start, from_end, from_turn}

module _ (s d : List ℕ) where
  pub put-start : over_from 0 (reverse_complement (take (length s - 0) s)) d ≡ over (reverse_complement s) d
  put-start =
      let e : length s - 0 ≡ length s = omega arith in
      rw (e, take-length) (from_start (reverse_complement s) d)

  module _ (i : ℕ) (e : List ℕ) where
    pub put-letter : (x : ℕ) → i < length s → length s ≤ length d → x ≡ complement (get_or s (length s - 1 - i) 0) → over_from i (reverse_complement (take (length s - i) s)) d ≡ e → over_from (i + 1) (reverse_complement (take (length s - (i + 1)) s)) (set d i x) ≡ e
    put-letter x h room c inv =
        let m = length s - 1 - i in
        let here : length s - i ≡ suc m = omega arith in
        let next : length s - (i + 1) ≡ m = omega arith in
        let is : reverse_complement (take (length s - i) s) ≡ x ∷ reverse_complement (take m s) = rw (here, c) (complement-last s m (omega arith)) in
        rw next (from_turn i x (reverse_complement (take (length s - i) s)) (reverse_complement (take m s)) d e (omega arith) is inv)

    pub put_last : length s ≤ i → over_from i (reverse_complement (take (length s - i) s)) d ≡ e → d ≡ e
    unfolding reverse_complement
    put_last h inv =
        let z : length s - i ≡ 0 = omega arith in
        sym (from_end i d) ∙ (rw z at inv)

-- the answer, by the tests
module _ (s : List ℕ) (room : ℕ) where
  pub complement-short : room < length s → complemented s room ≡ refused 15
  unfolding complemented first_number unless
  complement-short h = rw (lt-ltb room (length s) h)

  pub complement-other : length s ≤ room → all is_letter s ≡ false → complemented s room ≡ refused 2
  unfolding complemented first_number unless
  complement-other h e = rw (le-ltb room (length s) h, e)

  pub complement-given : length s ≤ room → all is_letter s ≡ true → complemented s room ≡ given (reverse_complement s)
  unfolding complemented first_number unless
  complement-given h e = rw (le-ltb room (length s) h, e)
