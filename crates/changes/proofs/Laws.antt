-- Laws of the record's definitions, with what the calls answer as variables.
-- Assumes nothing.
use Rattle.std.specs.Prelude.{if◌then◌else◌}
use mathlib.Core.Path.{◌≡◌, refl, sym, ◌∙◌}
use mathlib.Core.Bool.{Bool, true, false, ◌&&◌}
use mathlib.Core.List.{List, [], ◌∷◌}
use Prim.Native.Nat.{ℕ, ◌+◌, ◌-◌, ◌≤◌, ◌<◌}
use native.Mathlib.Omega.{arith}
use lib.Dec.{eqb, ltb}
use lib.ListN.{length, get_or, take, drop}
use borrow.Author.Tests.{lt-ltb, le-ltb, ltb-true}
use Rattle.rules.specs.declared.Class.{Class}
use Rattle.rules.specs.declared.Class.TheVariants.{StartLost, Extension, StopGained, Frameshift, Substitution, Deletion, Duplication, Insertion, Delins}
use Rattle.rules.specs.declared.Change.{Change}
use Rattle.rules.specs.declared.Record.TheVariants.{NoProtein, Silent, Changed}
use Rattle.rules.specs.Bytes.{byte, same, is_none}
use Rattle.rules.specs.Trims.{common_prefix}
use Rattle.rules.specs.Record.{ending, is_copy, class_by_counts, class_by, class_of, first_copied, change_at, change_of, record_from}
use Rattle.rules.proofs.Trims.{same_whole}

-- the parts that `check_if_ins_is_dup` compares
pub is_copy_lem : (r a : List ℕ) (number n : ℕ) → n < number → same (take (number - 1 - (number - 1 - n)) (drop (number - 1 - n) r)) (take (number - 1 + n - (number - 1)) (drop (number - 1) a)) ≡ is_copy number n r a
unfolding is_copy
is_copy_lem r a number n h =
    let before : number - 1 - (number - 1 - n) ≡ n = omega arith in
    let there : number - 1 + n - (number - 1) ≡ n = omega arith in
    rw (lt-ltb n number h, before, there)

pub no_copy : (r a : List ℕ) (number n : ℕ) → number ≤ n → false ≡ is_copy number n r a
unfolding is_copy
no_copy r a number n h = rw (le-ltb n number h)

-- the class by its tests, those of a copy apart: a duplication has passed its first, n < number
by_tests : (t₁ t₂ t₃ t₄ t₅ t₆ t₇ room alike : Bool) → (if t₁ then StartLost else if t₂ then Extension else if t₃ then StopGained else if t₄ then Frameshift else if t₅ then Substitution else if t₆ then Deletion else if t₇ && (room && alike) then Duplication else if t₇ then Insertion else Delins) ≡ Duplication → room ≡ true
by_tests true t₂ t₃ t₄ t₅ t₆ t₇ room alike h = cc
by_tests false true t₃ t₄ t₅ t₆ t₇ room alike h = cc
by_tests false false true t₄ t₅ t₆ t₇ room alike h = cc
by_tests false false false true t₅ t₆ t₇ room alike h = cc
by_tests false false false false true t₆ t₇ room alike h = cc
by_tests false false false false false true t₇ room alike h = cc
by_tests false false false false false false true true alike h = refl
by_tests false false false false false false true false alike h = cc
by_tests false false false false false false false room alike h = cc

-- the n residues that a duplication copies stand before its number
pub copied_if : (number d n x y : ℕ) (flag copy alike : Bool) (k : Class) → copy ≡ (ltb n number && alike) → k ≡ class_by number d n x y flag copy → k ≡ Duplication → n < number
unfolding class_by class_by_counts
copied_if number d n x y flag copy alike k e f g =
    ltb-true n number
    (by_tests
    (eqb number 1)
    (ltb 0 d && eqb x (byte "*"))
    (eqb y (byte "*"))
    flag
    (eqb n 1 && eqb d 1)
    (eqb n 0)
    (eqb d 0)
    (ltb n number)
    alike
    (sym (rw e at f) ∙ g))

pub copied_before : (number d n x y : ℕ) (flag copy : Bool) (k : Class) (r a : List ℕ) → copy ≡ is_copy number n r a → k ≡ class_by number d n x y flag copy → k ≡ Duplication → n < number
unfolding is_copy
copied_before number d n x y flag copy k r a = copied_if number d n x y flag copy (same (take n (drop (number - 1 - n) r)) (take n (drop (number - 1) a))) k

pub is_change : (flag : Bool) (s n : ℕ) (r a : List ℕ) (copy : Bool) (x y : ℕ) (k : Class) (f : ℕ)
    → copy ≡ is_copy (s + 1) (length a - s - n) r a
    → x ≡ get_or r s 0
    → y ≡ get_or a s 0
    → k ≡ class_by (s + 1) (length r - s - n) (length a - s - n) x y flag copy
    → f ≡ first_copied k (s + 1) (length a - s - n)
    → ◌≡◌ {A = Change} (record { class = k; number = s + 1; deleted = record { at = s; len = length r - s - n }; inserted = record { at = s; len = length a - s - n }; first = f }) (change_at flag s n r a)
unfolding change_at class_of
is_change flag s n r a copy x y k f e₁ e₂ e₃ e₄ e₅ = rw (e₅, e₄, e₁, e₂, e₃)

-- the three records, s being what `common_prefix_len` answers
none : (a : List ℕ) → length a ≡ 0 → is_none a ≡ true
none [] h = refl
none (x ∷ a) h = absurd (omega arith)

some : (a : List ℕ) → (length a ≡ 0 → ⊥) → is_none a ≡ false
some [] h = absurd (h refl)
some (x ∷ a) h = refl

module _ (flag : Bool) (number : ℕ) (r a : List ℕ) where
  pub is-empty : length a ≡ 0 → NoProtein ≡ record_from flag number r a
  unfolding record_from
  is-empty h = rw (none a h)

  pub is-silent : (s x : ℕ) → (length a ≡ 0 → ⊥) → s ≡ common_prefix r a → (eqb s (length r) && eqb s (length a)) ≡ true → x ≡ get_or r (number - 1) 0 → Silent number x ≡ record_from flag number r a
  unfolding record_from
  is-silent s x h e t f = rw (some a h, same_whole r a, ← e, t, f)

  pub is-changed : (s n : ℕ) (c : Change) → (length a ≡ 0 → ⊥) → s ≡ common_prefix r a → (eqb s (length r) && eqb s (length a)) ≡ false → n ≡ ending flag s r a → c ≡ change_at flag s n r a → Changed c ≡ record_from flag number r a
  unfolding record_from change_of
  is-changed s n c h e t f g = rw (some a h, same_whole r a, ← e, t, g, f)
