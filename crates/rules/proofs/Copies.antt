-- What the test for a copy decides in a record: the class and the first residue, and nothing else.
-- Assumes nothing.
use Rattle.std.specs.Prelude.{if◌then◌else◌}
use mathlib.Core.Path.{◌≡◌, refl}
use mathlib.Core.Bool.{Bool, true, false, ◌&&◌}
use mathlib.Core.List.{List}
use Prim.Native.Nat.{ℕ, ◌+◌, ◌-◌}
use native.Mathlib.Omega.{arith}
use lib.Dec.{eqb, ltb}
use lib.ListN.{length, take, drop, get_or}
use borrow.Author.Tests.{lt-ltb, ltb-true, ltb-false}
use Rattle.rules.specs.declared.Class.{Class}
use Rattle.rules.specs.declared.Class.TheVariants.{StartLost, Extension, StopGained, Frameshift, Substitution, Deletion, Duplication, Insertion, Delins}
use Rattle.rules.specs.declared.Part.{Part}
use Rattle.rules.specs.declared.Change.{Change}
use Rattle.rules.specs.declared.Record.{Record}
use Rattle.rules.specs.declared.Record.TheVariants.{Unknown, NoProtein, Silent, Changed}
use Rattle.rules.specs.Bytes.{byte, same, is_none}
use Rattle.rules.specs.Trims.{common_prefix}
use Rattle.rules.specs.Record.{ending, is_copy, class_by, class_by_counts, class_of, first_copied, change_at, change_of, record_from}

-- of a number, n inserted, R and A
abbrev pub Test : Type 0
Test = ℕ → ℕ → List ℕ → List ℕ → Bool

-- document 01's, which misses a copy that begins at residue 1
abbrev pub is_later_copy : Test
is_later_copy number n R A =
    ltb (n + 1) number && same (take n (drop (number - 1 - n) R)) (take n (drop (number - 1) A))

-- `change_at` and `record_from`, by a test for a copy
abbrev pub change_by : Test → Bool → ℕ → ℕ → List ℕ → List ℕ → Change
change_by test flag s n R A =
    let d = length R - s - n in
    let i = length A - s - n in
    let class = class_by (s + 1) d i (get_or R s 0) (get_or A s 0) flag (test (s + 1) i R A) in
    record {
      class = class;
      number = s + 1;
      deleted = record { at = s; len = d };
      inserted = record { at = s; len = i };
      first = first_copied class (s + 1) i;
    }

abbrev pub record_by : Test → Bool → ℕ → List ℕ → List ℕ → Record
record_by test flag number R A =
    if is_none A then NoProtein
    else if same R A then Silent number (get_or R (number - 1) 0)
    else Changed (change_by test flag (common_prefix R A) (ending flag (common_prefix R A) R A) R A)

-- a record without what the test decides
abbrev pub untold : Change → Change
untold c = record { class = Insertion; number = c.number; deleted = c.deleted; inserted = c.inserted; first = 0 }

abbrev pub without_class : Record → Record
without_class Unknown = Unknown
without_class NoProtein = NoProtein
without_class (Silent n x) = Silent n x
without_class (Changed c) = Changed (untold c)

-- the record is the one by its test
pub record_by_lem : (flag : Bool) (number : ℕ) (R A : List ℕ) → record_from flag number R A ≡ record_by is_copy flag number R A
unfolding record_from change_of change_at class_of
record_by_lem flag number R A = refl

-- by any two tests: the same record, with the same number and parts, but for class and first residue
differs_there : (none equal : Bool) (n x : ℕ) (c d : Change) → untold c ≡ untold d → without_class (if none then NoProtein else if equal then Silent n x else Changed c) ≡ without_class (if none then NoProtein else if equal then Silent n x else Changed d)
differs_there true equal n x c d h = refl
differs_there false true n x c d h = refl
differs_there false false n x c d h = rw h

module _ (flag : Bool) (number : ℕ) (R A : List ℕ) where
  pub same-but-class : (t u : Test) → without_class (record_by t flag number R A) ≡ without_class (record_by u flag number R A)
  same-but-class t u =
      let s = common_prefix R A in
      let n = ending flag s R A in
      differs_there (is_none A) (same R A) number (get_or R (number - 1) 0) (change_by t flag s n R A) (change_by u flag s n R A) refl

  -- document 01's test and E5's
  pub before-and-after : without_class (record_by is_later_copy flag number R A) ≡ without_class (record_from flag number R A)
  before-and-after = rw (record_by_lem flag number R A, same-but-class is_later_copy is_copy)

-- Where the two tests give another change, it was an insertion and is a duplication with 1 as its first residue.
pub record FromOne (c d : Change) : Type 0 where
  pub was : c.class ≡ Insertion
  pub is : d.class ≡ Duplication
  pub first : d.first ≡ 1

abbrev of_class : Part → Part → ℕ → ℕ → Class → Change
of_class deleted inserted number n k =
    record { class = k; number = number; deleted = deleted; inserted = inserted; first = first_copied k number n }

abbrev class_if : Bool → Bool → Bool → Bool → Bool → Bool → Bool → Bool → Class
class_if t₁ t₂ t₃ t₄ t₅ t₆ t₇ copy =
    if t₁ then StartLost
    else if t₂ then Extension
    else if t₃ then StopGained
    else if t₄ then Frameshift
    else if t₅ then Substitution
    else if t₆ then Deletion
    else if t₇ && copy then Duplication
    else if t₇ then Insertion
    else Delins

module _ (p q : Part) (number n : ℕ) where
  by_tests : (t₁ t₂ t₃ t₄ t₅ t₆ t₇ later room alike : Bool) → (later ≡ true → room ≡ true) → (later ≡ false → room ≡ true → number ≡ n + 1)
      → (of_class p q number n (class_if t₁ t₂ t₃ t₄ t₅ t₆ t₇ (later && alike)) ≡ of_class p q number n (class_if t₁ t₂ t₃ t₄ t₅ t₆ t₇ (room && alike)) → ⊥)
      → FromOne (of_class p q number n (class_if t₁ t₂ t₃ t₄ t₅ t₆ t₇ (later && alike))) (of_class p q number n (class_if t₁ t₂ t₃ t₄ t₅ t₆ t₇ (room && alike)))
  unfolding first_copied
  by_tests true t₂ t₃ t₄ t₅ t₆ t₇ later room alike f g h = absurd (h refl)
  by_tests false true t₃ t₄ t₅ t₆ t₇ later room alike f g h = absurd (h refl)
  by_tests false false true t₄ t₅ t₆ t₇ later room alike f g h = absurd (h refl)
  by_tests false false false true t₅ t₆ t₇ later room alike f g h = absurd (h refl)
  by_tests false false false false true t₆ t₇ later room alike f g h = absurd (h refl)
  by_tests false false false false false true t₇ later room alike f g h = absurd (h refl)
  by_tests false false false false false false false later room alike f g h = absurd (h refl)
  by_tests false false false false false false true true true alike f g h = absurd (h refl)
  by_tests false false false false false false true true false alike f g h = let t = f refl in let z : ◌≡◌ {A = ℕ} 0 1 = cc in absurd (omega arith)
  by_tests false false false false false false true false false alike f g h = absurd (h refl)
  by_tests false false false false false false true false true false f g h = absurd (h refl)
  by_tests false false false false false false true false true true f g h =
      let last : number ≡ n + 1 = g refl refl in
      record { was = refl; is = refl; first = omega arith }

module _ (flag : Bool) (s n : ℕ) (R A : List ℕ) where
  pub from_one : (change_by is_later_copy flag s n R A ≡ change_by is_copy flag s n R A → ⊥) → FromOne (change_by is_later_copy flag s n R A) (change_by is_copy flag s n R A)
  unfolding is_copy class_by class_by_counts
  from_one =
      let d = length R - s - n in
      let i = length A - s - n in
      by_tests (record { at = s; len = d }) (record { at = s; len = i }) (s + 1) i
      (eqb (s + 1) 1)
      (ltb 0 d && eqb (get_or R s 0) (byte "*"))
      (eqb (get_or A s 0) (byte "*"))
      flag
      (eqb i 1 && eqb d 1)
      (eqb i 0)
      (eqb d 0)
      (ltb (i + 1) (s + 1))
      (ltb i (s + 1))
      (same (take i (drop (s + 1 - 1 - i) R)) (take i (drop (s + 1 - 1) A)))
      (λ later. lt-ltb i (s + 1) (omega (arith, ltb-true (i + 1) (s + 1) later)))
      (λ later room. omega (arith, ltb-false (i + 1) (s + 1) later, ltb-true i (s + 1) room))
