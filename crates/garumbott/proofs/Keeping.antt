-- What a host is told of a stored reference, case by case. Assumes nothing.
use mathlib.Core.Path.{◌≡◌, sym, ap, ◌∙◌}
use mathlib.Core.List.{List}
use Prim.Native.Nat.{ℕ, ◌+◌, ◌≤◌}
use Rattle.rules.specs.Bytes.{Result, given, refused}
use Rattle.rules.specs.Reference.{size}
use Rattle.rules.specs.Refusal.{limits}
use Rattle.rules.specs.Stored.{read_reference}
use Rattle.stored_fields.specs.declared.field_places.StoredAt.{StoredAt}
use Rattle.stored_fields.specs.Reading.{placed_reference, told_reference, Reads}
use Rattle.stored.proofs.Joined.{size-at, read_fits}
use Rattle.garumbott.specs.Keeping.{refused_numbers, placed_numbers, numbers_by, stored_numbers}

module _ (room : ℕ) (s : List ℕ) (x : Result StoredAt) (reads : Reads s (read_reference limits.longest room s) x) where
  pub told-refused : (n : ℕ) → x ≡ refused n → refused_numbers n ≡ stored_numbers room s
  unfolding stored_numbers numbers_by told_reference
  told-refused n h =
      let is : refused n ≡ read_reference limits.longest room s = ap (told_reference s) (sym h) ∙ reads.says in
      rw (← is)

  module _ (p : StoredAt) (h : x ≡ given p) where
    is-given : given (placed_reference s p) ≡ read_reference limits.longest room s
    unfolding told_reference
    is-given = ap (told_reference s) (sym h) ∙ reads.says

    pub told-placed : placed_numbers p ≡ stored_numbers room s
    unfolding stored_numbers numbers_by size
    told-placed =
        let stands = reads.stands p h in
        rw (← is-given, ← stands.letters, ← stands.exceptions, stands.joined, size-at s p stands)

    -- L is small
    pub placed-fits : p.letters.len + (p.second.len + p.third.len) ≤ limits.longest
    placed-fits = read_fits s p (reads.stands p h) limits.longest room (sym is-given)
