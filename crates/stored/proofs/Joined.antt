-- Laws of joining: 29 by the code's tests, and what the buffer holds.
-- Assumes nothing.
use Rattle.std.specs.Prelude.{if◌then◌else◌}
use mathlib.Core.Path.{◌≡◌, refl, sym, ap, ◌∙◌}
use mathlib.Core.Bool.{Bool, true, false, ◌&&◌}
use mathlib.Core.List.{List, ◌++◌}
use Prim.Native.Nat.{ℕ, zero, suc, ◌+◌, ◌≤◌, ◌<◌}
use native.Mathlib.Omega.{arith}
use lib.Dec.{ltb}
use lib.ListN.{length, length-append}
use borrow.Author.Tests.{lt-ltb, le-ltb}
use Rattle.rules.specs.Bytes.{over, Result, given, refused, unless}
use Rattle.rules.specs.Record.{part_of}
use Rattle.rules.specs.Reference.{Reference, size}
use Rattle.rules.specs.Refusal.{reference_refusal}
use Rattle.rules.specs.declared.Refusal.{Refusal}
use Rattle.rules.specs.Refusals.{refusal_number}
use Rattle.rules.specs.Stored.{reference_form, fields, assembled_in, checked, stored_reference, is_joined, fitted, read_reference, joined_by}
use Rattle.rules.proofs.Reference.{accepted}
use Rattle.reference.proofs.Judging.{told-refused}
use Rattle.fields.proofs.Places.{length_of_part}
use Rattle.stored_fields.specs.declared.field_places.StoredAt.{StoredAt}
use Rattle.stored_fields.specs.Reading.{is_there, letters_at, placed_reference, Placed}

module _ (s : List ℕ) (p : StoredAt) (in_place : Placed s p) where
  pub rest-length : length (part_of p.second s ++ part_of p.third s) ≡ p.second.len + p.third.len
  rest-length = length-append (part_of p.second s) (part_of p.third s) ∙ rw (length_of_part s p.second in_place.second-within, length_of_part s p.third in_place.third-within)

  -- L
  pub size-at : length (letters_at s p) ≡ p.letters.len + (p.second.len + p.third.len)
  size-at =
      length-append (part_of p.letters s) (part_of p.second s ++ part_of p.third s)
      ∙ rw (rest-length, length_of_part s p.letters in_place.letters-within)

  -- of a reference that isn't refused
  pub fits-longest : (longest : ℕ) → reference_refusal longest (placed_reference s p) ≡ 0 → (1 ≤ p.letters.len + (p.second.len + p.third.len)) × (p.letters.len + (p.second.len + p.third.len) ≤ longest)
  unfolding size
  fits-longest longest h =
      let x = accepted longest (placed_reference s p) h in
      (omega (arith, x.some, size-at), omega (arith, x.fits, size-at))

  module _ (room : ℕ) (old : List ℕ) where
    -- they stay where they are
    pub stays : is_there p.second ≡ false
        → (unless 0 (placed_reference s p) ≡ fitted room (is_there p.second) (given (placed_reference s p))) × (old ≡ over (joined_by (is_there p.second) (fitted room (is_there p.second) (given (placed_reference s p)))) old)
    unfolding unless fitted joined_by over
    stays h = rw h (refl, refl)

    module _ (joined : is_there p.second ≡ true) where
      pub no_room : room < p.letters.len + (p.second.len + p.third.len)
          → (unless 29 (placed_reference s p) ≡ fitted room (is_there p.second) (given (placed_reference s p))) × (old ≡ over (joined_by (is_there p.second) (fitted room (is_there p.second) (given (placed_reference s p)))) old)
      unfolding unless fitted joined_by over size
      no_room h = rw (joined, lt-ltb room (length (letters_at s p)) (omega (arith, h, size-at))) (refl, refl)

      pub has_room : p.letters.len + (p.second.len + p.third.len) ≤ room → (new : List ℕ) → new ≡ over (letters_at s p) old
          → (unless 0 (placed_reference s p) ≡ fitted room (is_there p.second) (given (placed_reference s p))) × (new ≡ over (joined_by (is_there p.second) (fitted room (is_there p.second) (given (placed_reference s p)))) old)
      unfolding unless fitted joined_by size
      has_room h new e = rw (joined, le-ltb room (length (letters_at s p)) (omega (arith, h, size-at))) (refl, e)

  -- without a buffer
  pub never-joined : (longest : ℕ) → 0 ≡ reference_refusal longest (placed_reference s p) → fitted 0 true (checked longest (given (placed_reference s p))) ≡ refused 29
  unfolding checked unless fitted size
  never-joined longest is =
      let some = (fits-longest longest (sym is)).0 in
      rw (← is, lt-ltb 0 (length (letters_at s p)) (omega (arith, some, size-at)))

  pub refused-joined : (longest : ℕ) (r : Refusal) → refusal_number r ≡ reference_refusal longest (placed_reference s p) → fitted 0 true (checked longest (given (placed_reference s p))) ≡ refused (refusal_number r)
  unfolding checked fitted
  refused-joined longest r is = ap (fitted 0 true) (sym (told-refused r _ (placed_reference s p) is))

  -- of a reference that is read
  pub read_fits : (longest room : ℕ) → read_reference longest room s ≡ given (placed_reference s p) → p.letters.len + (p.second.len + p.third.len) ≤ longest
  unfolding read_reference fitted stored_reference checked unless
  read_fits longest room h = by (assembled_in (fields reference_form s)) h
    where
      joined : Bool
      joined = is_joined (fields reference_form s)

      same : (a b : Reference) → ◌≡◌ {A = Result Reference} (given a) (given b) → a ≡ b
      same a b h = cc

      test : (r : Reference) → reference_refusal longest r ≡ 0 → (t : Bool) → (if t then refused 29 else given r) ≡ given (placed_reference s p) → p.letters.len + (p.second.len + p.third.len) ≤ longest
      test r e true h = let z : ◌≡◌ {A = ℕ} 0 1 = cc in absurd (omega arith)
      test r e false h = (fits-longest longest (ap (reference_refusal longest) (sym (same r (placed_reference s p) h)) ∙ e)).1

      inner : (r : Reference) (n : ℕ) → reference_refusal longest r ≡ n → fitted room joined (unless n r) ≡ given (placed_reference s p) → p.letters.len + (p.second.len + p.third.len) ≤ longest
      inner r zero e h = test r e (joined && ltb room (size r)) h
      inner r (suc n) e h = let z : ◌≡◌ {A = ℕ} 0 1 = cc in absurd (omega arith)

      by : (y : Result Reference) → fitted room joined (checked longest y) ≡ given (placed_reference s p) → p.letters.len + (p.second.len + p.third.len) ≤ longest
      by (refused n) h = let z : ◌≡◌ {A = ℕ} 0 1 = cc in absurd (omega arith)
      by (given r) h = inner r (reference_refusal longest r) refl h
