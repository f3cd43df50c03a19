-- Laws of writing: the store in the parts that it is written in, and what each test leaves.
-- Assumes nothing.
use Rattle.std.specs.Prelude.{if◌then◌else◌}
use mathlib.Core.Path.{◌≡◌, refl, ap}
use mathlib.Core.Bool.{Bool, true, false, ◌&&◌, ◌||◌}
use mathlib.Core.List.{List, ◌++◌}
use Prim.Native.Nat.{ℕ, ◌+◌, ◌-◌, ◌≤◌, ◌<◌}
use native.Mathlib.Omega.{arith}
use lib.Dec.{eqb, leb}
use lib.ListN.{length, take, drop, length-drop}
use borrow.Author.Tests.{leb-true, eqb-true, lt-ltb, le-ltb}
use Rattle.rules.specs.declared.Settings.{Settings}
use Rattle.rules.specs.Bytes.{Result, given, refused, each, first_number, unless, over}
use Rattle.rules.specs.Codons.{is_table}
use Rattle.rules.specs.Storing.{in_two, field_bytes, fields_bytes}
use Rattle.rules.specs.Settings.{is_version, has_longest, is_longest, are_settings, settings_fields, store_of, settings_tests, written_settings}
use Rattle.rules.specs.Answer.{written_of, bytes_of}
use Rattle.rules.proofs.Tests.{and_left, and_right}
use Rattle.rules.proofs.Over.{tail-is}
use Rattle.settings.specs.Writing.{first_four, Writes}

module _ (x : Settings) where
  pub four : has_longest x.version ≡ false → store_of x ≡ first_four x
  unfolding store_of settings_fields fields_bytes each field_bytes in_two first_four
  four h = rw h

  pub five : has_longest x.version ≡ true → store_of x ≡ first_four x ++ field_bytes (record { tag = 5; content = in_two x.longest })
  unfolding store_of settings_fields fields_bytes each field_bytes in_two first_four
  five h = rw h

  pub length-four : length (first_four x) ≡ 16
  unfolding first_four field_bytes in_two
  length-four = refl

  pub size : length (store_of x) ≡ (if has_longest x.version then 21 else 16)
  unfolding field_bytes in_two first_four
  size = by (has_longest x.version) refl
    where
      by : (b : Bool) → has_longest x.version ≡ b → length (store_of x) ≡ (if b then 21 else 16)
      by true h = rw (five h)
      by false h = rw (four h)

  pub at_least : 16 ≤ length (store_of x)
  at_least = rw size (by (has_longest x.version))
    where
      by : (b : Bool) → 16 ≤ (if b then 21 else 16)
      by true = omega arith
      by false = omega arith

  one-or-three : (n : ℕ) → (eqb n 1 || eqb n 3) ≡ true → n ≤ 3
  one-or-three n h = by (eqb n 1) refl h
    where
      by : (b : Bool) → eqb n 1 ≡ b → (b || eqb n 3) ≡ true → n ≤ 3
      by true e h = omega (arith, eqb-true n 1 e)
      by false e h = omega (arith, eqb-true n 3 h)

  pub fits : is_version x.version ≡ true → are_settings x ≡ true → Writes x
  unfolding is_version are_settings is_table is_longest
  fits v h =
      let table = leb x.table 2 in
      let profile = leb x.profile 1 in
      let width = eqb x.width 1 || eqb x.width 3 in
      let longest = leb 1 x.longest && leb x.longest 4096 in
      let four = and_left (table && profile && width && longest) (has_longest x.version || eqb x.longest 4096) h in
      let three = and_left (table && profile && width) longest four in
      let two = and_left (table && profile) width three in
      record {
        version = omega (arith, leb-true x.version 2 (and_right (leb 1 x.version) (leb x.version 2) v));
        table = omega (arith, leb-true x.table 2 (and_left table profile two));
        profile = omega (arith, leb-true x.profile 1 (and_right table profile two));
        width = omega (arith, one-or-three x.width (and_right (table && profile) width three));
        longest = omega (arith, leb-true x.longest 4096 (and_right (leb 1 x.longest) (leb x.longest 4096) (and_right (table && profile && width) longest four)));
      }

-- what a buffer has left behind its first bytes
pub room-behind : (d : List ℕ) (n k : ℕ) → n + k ≤ length d → k ≤ length (take (length d - n) (drop n d))
room-behind d n k h = rw (tail-is n d, length-drop n d) (omega arith)

-- what is answered, and what the buffer holds
abbrev pub Answered : Settings → Result ℕ → List ℕ → List ℕ → Type 0
Answered x w old new = (w ≡ written_of (written_settings x (length old))) × (new ≡ over (bytes_of (written_settings x (length old))) old)

module _ (x : Settings) (old : List ℕ) where
  pub unknown : is_version x.version ≡ false → Answered x (refused 60) old old
  unfolding written_settings settings_tests first_number unless written_of bytes_of over
  unknown v = rw v (refl, refl)

  module _ (v : is_version x.version ≡ true) where
    pub out_of_range : are_settings x ≡ false → Answered x (refused 62) old old
    unfolding written_settings settings_tests first_number unless written_of bytes_of over
    out_of_range h = rw (v, h) (refl, refl)

    module _ (h : are_settings x ≡ true) where
      pub too_short : length old < length (store_of x) → Answered x (refused 63) old old
      unfolding written_settings settings_tests first_number unless written_of bytes_of over
      too_short l = rw (v, h, lt-ltb (length old) (length (store_of x)) l) (refl, refl)

      pub stored : length (store_of x) ≤ length old → (n : ℕ) (new : List ℕ) → n ≡ length (store_of x) → new ≡ over (store_of x) old → Answered x (given n) old new
      unfolding written_settings settings_tests first_number unless written_of bytes_of
      stored l n new e i = rw (v, h, le-ltb (length old) (length (store_of x)) l) (ap given e, i)
