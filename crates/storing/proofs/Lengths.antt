-- The length of the form by the reference's numbers.
-- Assumes nothing.
use Rattle.std.specs.Prelude.{if◌then◌else◌}
use mathlib.Core.Path.{◌≡◌, refl, sym, ap, ◌∙◌}
use mathlib.Core.Bool.{Bool, true, false}
use mathlib.Core.List.{List, [], ◌∷◌, ◌++◌}
use Prim.Native.Nat.{ℕ, ◌+◌, ◌-◌, ◌*◌, ◌≤◌, ◌<◌, min}
use native.Mathlib.Decide.{dec_lt}
use native.Mathlib.Omega.{arith}
use lib.Dec.{eqb, ltb}
use lib.ListN.{length, take, drop, length-append, length-take, length-drop}
use borrow.Author.Tests.{lt-ltb, le-ltb, eq-eqb, ne_eqb}
use Rattle.rules.specs.Bytes.{each}
use Rattle.rules.specs.Reference as rules
use Rattle.rules.specs.Reference.{Reference, at_stop}
use Rattle.rules.specs.Storing.{in_two, in_four, exception_bytes, is_long, tagged, held_by, stored_form}
use Rattle.storing_numbers.specs.Fields.{one_field}
use Rattle.storing_numbers.proofs.Fields.{field_none, field_some, length-field}
use Rattle.storing_exceptions.proofs.Rows.{length-bytes}
use Rattle.storing_length.specs.Length.{form_length}
use Rattle.storing.proofs.Forms.{form_each}

-- what a field takes, by the length of its content
unfoldable taken : ℕ → ℕ
taken n = if ltb 0 n then (3 + n) else 0

takes : (tag : ℕ) (c : List ℕ) → length (one_field (tagged tag c)) ≡ taken (length c)
unfolding taken
takes tag [] = ap length (field_none tag [] refl)
takes tag (x ∷ c) = ap length (field_some tag (x ∷ c) (omega arith)) ∙ length-field (tagged tag (x ∷ c)) ∙ sym (rw (lt-ltb 0 (length (x ∷ c)) (omega arith)))

taken_none : (n : ℕ) → n ≡ 0 → taken n ≡ 0
unfolding taken
taken_none n e = rw e

taken_some : (n : ℕ) → 1 ≤ n → taken n ≡ 3 + n
unfolding taken
taken_some n h = rw (lt-ltb 0 n h)

module _ (n : ℕ) (s : List ℕ) (k : 1 ≤ n) (h : 1 ≤ length s) where
  -- letters in three fields
  letters-take : taken (length (take n s)) + taken (length (take n (drop n s))) + taken (length (drop (n + n) s))
      ≡ length s + 3 + (if ltb n (length s) then 3 else 0) + (if ltb (n + n) (length s) then 3 else 0)
  letters-take = by (dec_lt n (length s)) (dec_lt (n + n) (length s))
    where
      one : length (take n s) ≡ min n (length s)
      one = length-take n s

      two : length (take n (drop n s)) ≡ min n (length (drop n s))
      two = length-take n (drop n s)

      three : length (drop (n + n) s) ≡ length s - (n + n)
      three = length-drop (n + n) s

      left : length (drop n s) ≡ length s - n
      left = length-drop n s

      by : Dec (n < length s) → Dec (n + n < length s) → taken (length (take n s)) + taken (length (take n (drop n s))) + taken (length (drop (n + n) s))
          ≡ length s + 3 + (if ltb n (length s) then 3 else 0) + (if ltb (n + n) (length s) then 3 else 0)
      by (no a) (no b) =
          rw (le-ltb n (length s) (omega arith), le-ltb (n + n) (length s) (omega arith))
          (omega (arith, taken_some (length (take n s)) (omega (arith, one)), taken_none (length (take n (drop n s))) (omega (arith, two, left)), taken_none (length (drop (n + n) s)) (omega (arith, three)), one))
      by (yes a) (no b) =
          rw (lt-ltb n (length s) a, le-ltb (n + n) (length s) (omega arith))
          (omega (arith, taken_some (length (take n s)) (omega (arith, one)), taken_some (length (take n (drop n s))) (omega (arith, two, left)), taken_none (length (drop (n + n) s)) (omega (arith, three)), one, two, left))
      by (yes a) (yes b) =
          rw (lt-ltb n (length s) a, lt-ltb (n + n) (length s) b)
          (omega (arith, taken_some (length (take n s)) (omega (arith, one)), taken_some (length (take n (drop n s))) (omega (arith, two, left)), taken_some (length (drop (n + n) s)) (omega (arith, three)), one, two, three, left))
      by (no a) (yes b) = absurd (omega arith)

bounds_take : (b : Bool) (cs ce : ℕ) → taken (length (if b then [] else (in_two cs ++ in_two ce))) + taken (length (if b then (in_four cs ++ in_four ce) else [])) ≡ 7 + (if b then 4 else 0)
unfolding in_two in_four taken
bounds_take true cs ce = refl
bounds_take false cs ce = refl

end_takes : (end : ℕ) → taken (length (if eqb end at_stop then [] else (end ∷ []))) ≡ (if ltb 0 end then 4 else 0)
unfolding taken
end_takes end = by (dec_lt 0 end)
  where
    by : Dec (0 < end) → taken (length (if eqb end at_stop then [] else (end ∷ []))) ≡ (if ltb 0 end then 4 else 0)
    by (yes h) = rw (lt-ltb 0 end h, ne_eqb end 0 (λ e. omega arith))
    by (no h) = rw (le-ltb 0 end (omega arith), eq-eqb end 0 (omega arith))

exceptions_take : (n m : ℕ) → n ≡ m * 3 → taken n ≡ (if ltb 0 m then (3 + 3 * m) else 0)
exceptions_take n m e = by (dec_lt 0 m)
  where
    by : Dec (0 < m) → taken n ≡ (if ltb 0 m then (3 + 3 * m) else 0)
    by (yes h) = rw (lt-ltb 0 m h) (omega (arith, taken_some n (omega arith)))
    by (no h) = rw (le-ltb 0 m (omega arith)) (taken_none n (omega arith))

-- eight fields in a row
eight_take : (c₁ c₂ c₃ c₄ c₅ c₆ c₇ c₈ : List ℕ) → length (each one_field (tagged 1 c₁ ∷ tagged 2 c₂ ∷ tagged 3 c₃ ∷ tagged 4 c₄ ∷ tagged 5 c₅ ∷ tagged 6 c₆ ∷ tagged 7 c₇ ∷ tagged 8 c₈ ∷ []))
    ≡ taken (length c₁) + (taken (length c₂) + (taken (length c₃) + (taken (length c₄) + (taken (length c₅) + (taken (length c₆) + (taken (length c₇) + taken (length c₈)))))))
unfolding each
eight_take c₁ c₂ c₃ c₄ c₅ c₆ c₇ c₈ = simp (length-append, takes) (omega arith)

pub form_length_lem : (r : Reference) → 1 ≤ length r.letters → length (stored_form r) ≡ form_length (length r.letters) (length r.exceptions) r.end
unfolding held_by form_length is_long rules.size
form_length_lem r h =
    ap length (sym (form_each r))
    ∙ eight_take _ _ _ _ _ _ _ _
    ∙ omega (arith, letters-take 65535 r.letters (omega arith) h, bounds_take (ltb 16384 (length r.letters)) r.cs r.ce, end_takes r.end, exceptions_take (length (each exception_bytes r.exceptions)) (length r.exceptions) (length-bytes r.exceptions), taken_some (length (r.table ∷ [])) (omega arith))
