-- What each record tells of the two proteins that it is made from.
-- Assumes nothing.
use Rattle.std.specs.Prelude.{if◌then◌else◌}
use mathlib.Core.Path.{◌≡◌, refl, sym, ap, ◌∙◌}
use mathlib.Core.Bool.{Bool, true, false}
use mathlib.Core.List.{List}
use Prim.Native.Nat.{ℕ, ◌-◌}
use native.Mathlib.Omega.{arith}
use lib.ListN.{get_or}
use Rattle.rules.specs.declared.Change.{Change}
use Rattle.rules.specs.declared.Record.{Record}
use Rattle.rules.specs.declared.Record.TheVariants.{Unknown, NoProtein, Silent, Changed}
use Rattle.rules.specs.Bytes.{same, is_none}
use Rattle.rules.specs.Reference.{Reference, reference_protein}
use Rattle.rules.specs.Edit.{Asked}
use Rattle.rules.specs.Altered.{frameshift}
use Rattle.rules.specs.Protein.{altered_protein}
use Rattle.rules.specs.Record.{is_unknown, silent_number, change_of, record_from, record_of}
use Rattle.rules.proofs.Trims.{same_self, same-is}

-- the proteins differ, A isn't empty, and the change is theirs
pub record IsChange (flag : Bool) (R A : List ℕ) (c : Change) : Type 0 where
  pub there : is_none A ≡ false
  pub differs : same R A ≡ false
  pub is : c ≡ change_of flag R A

-- a record's three cases, by its two tests
abbrev record_by : Bool → Bool → ℕ → ℕ → Change → Record
record_by none equal n x d = if none then NoProtein else if equal then Silent n x else Changed d

by_changed : (none equal : Bool) (n x : ℕ) (c d : Change) → record_by none equal n x d ≡ Changed c → (none ≡ false) × (equal ≡ false) × (c ≡ d)
by_changed true equal n x c d h = let z : ◌≡◌ {A = ℕ} 0 1 = cc in absurd (omega arith)
by_changed false true n x c d h = let z : ◌≡◌ {A = ℕ} 0 1 = cc in absurd (omega arith)
by_changed false false n x c d h = (refl, refl, cc)

by_silent : (none equal : Bool) (n x m y : ℕ) (d : Change) → record_by none equal n x d ≡ Silent m y → (none ≡ false) × (equal ≡ true) × (m ≡ n) × (y ≡ x)
by_silent true equal n x m y d h = let z : ◌≡◌ {A = ℕ} 0 1 = cc in absurd (omega arith)
by_silent false true n x m y d h = (refl, refl, cc, cc)
by_silent false false n x m y d h = let z : ◌≡◌ {A = ℕ} 0 1 = cc in absurd (omega arith)

by-unknown : (none equal : Bool) (n x : ℕ) (d : Change) → record_by none equal n x d ≡ Unknown → ⊥
by-unknown true equal n x d h = let z : ◌≡◌ {A = ℕ} 0 1 = cc in omega arith
by-unknown false true n x d h = let z : ◌≡◌ {A = ℕ} 0 1 = cc in omega arith
by-unknown false false n x d h = let z : ◌≡◌ {A = ℕ} 0 1 = cc in omega arith

module _ (flag : Bool) (n : ℕ) (R A : List ℕ) where
  from-changed : (c : Change) → record_from flag n R A ≡ Changed c → IsChange flag R A c
  unfolding record_from
  from-changed c h =
      let told = by_changed (is_none A) (same R A) n (get_or R (n - 1) 0) c (change_of flag R A) h in
      record { there = told.0; differs = told.1; is = told.2 }

  from-known : record_from flag n R A ≡ Unknown → ⊥
  unfolding record_from
  from-known h = by-unknown (is_none A) (same R A) n (get_or R (n - 1) 0) (change_of flag R A) h

-- the record of a reference and an edit, where it isn't Unknown
abbrev pub known_record : Reference → Asked → Record
known_record r e = record_from (frameshift r e) (silent_number r e) (reference_protein r) (altered_protein r e)

known_changed : (u : Bool) (x : Record) (c : Change) → (if u then Unknown else x) ≡ Changed c → x ≡ Changed c
known_changed true x c h = cc
known_changed false x c h = h

is_known : (u : Bool) (x : Record) → (x ≡ Unknown → ⊥) → (if u then Unknown else x) ≡ Unknown → u ≡ true
is_known true x never h = refl
is_known false x never h = absurd (never h)

module _ (r : Reference) (e : Asked) where
  pub record-known : is_unknown r e ≡ false → record_of r e ≡ known_record r e
  unfolding record_of
  record-known h = rw h

  pub record-unknown : is_unknown r e ≡ true → record_of r e ≡ Unknown
  unfolding record_of
  record-unknown h = rw h

  pub unknown-of : record_of r e ≡ Unknown → is_unknown r e ≡ true
  unfolding record_of
  unknown-of = is_known (is_unknown r e) (known_record r e) (from-known (frameshift r e) (silent_number r e) (reference_protein r) (altered_protein r e))

  pub changed-of : (c : Change) → record_of r e ≡ Changed c → IsChange (frameshift r e) (reference_protein r) (altered_protein r e) c
  unfolding record_of
  changed-of c h =
      from-changed (frameshift r e) (silent_number r e) (reference_protein r) (altered_protein r e) c
      (known_changed (is_unknown r e) (known_record r e) c h)

-- A silent record: the edit isn't Unknown, A isn't empty, R and A are the same, and the number and the residue are as the rules say.
pub record IsSilent (r : Reference) (e : Asked) (n x : ℕ) : Type 0 where
  pub known : is_unknown r e ≡ false
  pub there : is_none (altered_protein r e) ≡ false
  pub equal : reference_protein r ≡ altered_protein r e
  pub number : n ≡ silent_number r e
  pub residue : x ≡ get_or (reference_protein r) (silent_number r e - 1) 0

known_silent : (u : Bool) (x : Record) (n y : ℕ) → (if u then Unknown else x) ≡ Silent n y → (u ≡ false) × (x ≡ Silent n y)
known_silent true x n y h = let z : ◌≡◌ {A = ℕ} 0 1 = cc in absurd (omega arith)
known_silent false x n y h = (refl, h)

-- Silent exactly if R and A are the same: where the record is Silent they are, and where they are it is.
module _ (r : Reference) (e : Asked) (n x : ℕ) where
  pub silent-only : record_of r e ≡ Silent n x → IsSilent r e n x
  unfolding record_of record_from
  silent-only h =
      let known = known_silent (is_unknown r e) (known_record r e) n x h in
      let R = reference_protein r in
      let A = altered_protein r e in
      let told = by_silent (is_none A) (same R A) (silent_number r e) (get_or R (silent_number r e - 1) 0) n x (change_of (frameshift r e) R A) known.1 in
      record { known = known.0; there = told.0; equal = same-is R A told.1; number = told.2; residue = told.3 }

  pub silent-if : IsSilent r e n x → record_of r e ≡ Silent n x
  unfolding record_of record_from
  silent-if s =
      let R = reference_protein r in
      let equal : same R (altered_protein r e) ≡ true = ap (same R) (sym s.equal) ∙ same_self R in
      rw (s.known, s.there, equal, s.number, s.residue)
