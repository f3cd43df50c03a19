-- Laws of a part of a list.
-- Assumes nothing.
use mathlib.Core.Path.{◌≡◌, ◌∙◌}
use mathlib.Core.Bool.{true}
use mathlib.Core.List.{List, ◌++◌}
use Prim.Native.Nat.{ℕ, ◌+◌, ◌-◌, ◌≤◌}
use native.Mathlib.Omega.{arith}
use lib.ListN.{length, take, drop, length-drop}
use lib.Seq.{length-take-le, take-take, take-add, drop-drop, take_at}
use Rattle.rules.specs.Bytes.{all}
use Rattle.rules.specs.Letters.{is_letter}
use Rattle.rules.specs.Complement.{reverse_complement}
use Rattle.rules.specs.Altered.{part}
use Rattle.rules.proofs.Tests.{all_take, all_drop}
use Rattle.rules.proofs.Complement.{length-complement, complement-append}

pub length_part : (start end : ℕ) (s : List ℕ) → end ≤ length s → length (part start end s) ≡ end - start
unfolding part
length_part start end s h = length-take-le (end - start) (drop start s) (rw length-drop (omega arith))

pub letters-part : (start end : ℕ) (s : List ℕ) → all is_letter s ≡ true → all is_letter (part start end s) ≡ true
unfolding part
letters-part start end s h = all_take is_letter (end - start) (drop start s) (all_drop is_letter start s h)

-- two parts in a row
pub part_split : (start mid end : ℕ) (s : List ℕ) → start ≤ mid → mid ≤ end → part start end s ≡ part start mid s ++ part mid end s
unfolding part
part_split start mid end s h k =
    let whole : end - start ≡ (mid - start) + (end - mid) = omega arith in
    let back : start + (mid - start) ≡ mid = omega arith in
    rw (whole, take-add (mid - start) (end - mid) (drop start s), drop-drop (mid - start) start s, back)

-- the first n of a part
pub take_part : (n start end : ℕ) (s : List ℕ) → start + n ≤ end → take n (part start end s) ≡ part start (start + n) s
unfolding part
take_part n start end s h =
    let few : start + n - start ≡ n = omega arith in
    rw few (take-take n (end - start) (drop start s) (omega arith))

-- the first n of its reverse complement are of its last n
pub take-complement : (n start end : ℕ) (s : List ℕ) → start + n ≤ end → end ≤ length s → take n (reverse_complement (part start end s)) ≡ reverse_complement (part (end - n) end s)
take-complement n start end s h k =
    let mid = end - n in
    let few : length (reverse_complement (part mid end s)) ≡ n = length-complement (part mid end s) ∙ length_part mid end s k ∙ omega arith in
    rw (part_split start mid end s (omega arith) (omega arith), complement-append)
    (take_at (reverse_complement (part mid end s)) (reverse_complement (part start mid s)) n few)
