-- What each answer of the writer rests on.
-- Assumes nothing.
use mathlib.Core.Path.{◌≡◌, refl, sym, ap, ◌∙◌}
use mathlib.Core.Bool.{Bool}
use mathlib.Core.List.{List}
use Prim.Native.Nat.{ℕ, zero, suc, ◌≤◌, ◌<◌}
use native.Mathlib.Omega.{arith}
use lib.ListN.{length}
use Rattle.rules.specs.declared.Cds.{Cds}
use Rattle.rules.specs.declared.Exceptions.{Exceptions}
use Rattle.rules.specs.Bytes.{given, refused, over}
use Rattle.rules.specs.Reference.{Reference}
use Rattle.rules.specs.Refusal.{limits, reference_refusal}
use Rattle.rules.specs.Storing.{stored_form, written_reference}
use Rattle.rules.specs.Answer.{written_of, bytes_of}
use Rattle.rules.specs.Views.{reference_of}
use Rattle.rules.proofs.Translation.{length_exceptions}
use Rattle.rules.proofs.Fills as fills
use Rattle.rules.proofs.Writing as writing
use Rattle.reference.specs.Known.{judged_of}
use Rattle.reference.proofs.Judging.{was-refused, was-given}
use Rattle.storing_length.specs.Length.{form_length}
use Rattle.storing.specs.Forming.{Clear}
use Rattle.storing.proofs.Forms.{numbers}
use Rattle.storing.proofs.Lengths.{form_length_lem}

module _ (s : List ℕ) (c : Cds) (e : Exceptions) where
  abbrev r : Reference
  r = reference_of s c e

  -- the length that the code works out
  pub coded-length : Clear s c e → length (stored_form r) ≡ form_length (length s) e.count c.end
  coded-length h = form_length_lem r (numbers s c e h).some ∙ ap (λ (n : ℕ). form_length (length s) n c.end) (length_exceptions e)

  pub is-clear : (plain : Bool) → given plain ≡ judged_of limits.longest s c e → Clear s c e
  unfolding judged_of
  is-clear plain h = (was-given _ _ _ h).0

  -- 1 to 5, 6 or 28
  pub answers-refused : (n : ℕ) (old : List ℕ) → refused n ≡ judged_of limits.longest s c e
      → (refused n ≡ written_of (written_reference limits.longest r (length old))) × (old ≡ over (bytes_of (written_reference limits.longest r (length old))) old)
  unfolding judged_of
  answers-refused n old h =
      let told = was-refused _ _ _ h in
      fills.refuses (written_reference limits.longest r (length old)) n old (by n told.0 told.1)
    where
      by : (n : ℕ) → reference_refusal limits.longest r ≡ n → (n ≡ 0 → ⊥) → written_reference limits.longest r (length old) ≡ refused n
      by zero h some = absurd (some refl)
      by (suc n) h some = writing.refuses limits.longest r (length old) n h

  module _ (clear : Clear s c e) (n m : ℕ) (sized : n ≡ length s) (is : m ≡ form_length n e.count c.end) (old : List ℕ) where
    same : m ≡ length (stored_form r)
    same = is ∙ ap (λ (n : ℕ). form_length n e.count c.end) sized ∙ sym (coded-length clear)

    -- 24
    pub answers-short : length old < m
        → (refused 24 ≡ written_of (written_reference limits.longest r (length old))) × (old ≡ over (bytes_of (written_reference limits.longest r (length old))) old)
    answers-short h =
        fills.refuses (written_reference limits.longest r (length old)) 24 old (writing.too_short limits.longest r (length old) clear (omega (arith, same)))

    pub has_room : m ≤ length old → length (stored_form r) ≤ length old
    has_room h = omega (arith, same)

    -- the form
    pub answers-written : m ≤ length old → (n : ℕ) (out : List ℕ) → n ≡ length (stored_form r) → out ≡ over (stored_form r) old
        → (given n ≡ written_of (written_reference limits.longest r (length old))) × (out ≡ over (bytes_of (written_reference limits.longest r (length old))) old)
    answers-written h n out k q =
        fills.gives (written_reference limits.longest r (length old)) (stored_form r) n out old (writing.writes limits.longest r (length old) clear (has_room h)) k q
