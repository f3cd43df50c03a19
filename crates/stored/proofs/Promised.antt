-- What the promise of `read_stored` tells of every byte string: what it accepts is the reference stored there, what document 01 accepts isn't
-- refused, and there is a single answer. All hold of any answer that meets it.
-- Assumes nothing.
use mathlib.Core.Path.{◌≡◌, refl, sym, ap, ◌∙◌}
use mathlib.Core.List.{List}
use Prim.Native.Nat.{ℕ}
use native.Mathlib.Omega.{arith}
use Rattle.rules.specs.Bytes.{Result, given, refused}
use Rattle.rules.specs.Reference.{Reference}
use Rattle.rules.specs.Stored.{read_reference}
use Rattle.stored_fields.specs.declared.field_places.StoredAt.{StoredAt}
use Rattle.stored_fields.specs.Reading.{placed_reference, told_reference, Reads}
use Rattle.stored_fields.proofs.Reading.{single}

-- the answer isn't a refusal, and tells of this reference
pub record Accepts (s : List ℕ) (r : Result StoredAt) (x : Reference) : Type 0 where
  pub place : StoredAt
  pub is : r ≡ given place
  pub tells : placed_reference s place ≡ x

module _ (longest room : ℕ) (s : List ℕ) (r : Result StoredAt) (h : Reads s (read_reference longest room s) r) where
  pub accepted : (p : StoredAt) → r ≡ given p → read_reference longest room s ≡ given (placed_reference s p)
  unfolding told_reference
  accepted p e = sym h.says ∙ ap (told_reference s) e

  pub not-refused : (x : Reference) → read_reference longest room s ≡ given x → Accepts s r x
  unfolding told_reference
  not-refused x e = by r (h.says ∙ e)
    where
      by : (r : Result StoredAt) → told_reference s r ≡ given x → Accepts s r x
      by (refused n) q = let z : ◌≡◌ {A = ℕ} 0 1 = cc in absurd (omega arith)
      by (given p) q = record { place = p; is = refl; tells = cc }

pub single_answer : (longest room : ℕ) (s : List ℕ) (r q : Result StoredAt) → Reads s (read_reference longest room s) r → Reads s (read_reference longest room s) q → r ≡ q
single_answer longest room s r q h k = single s (read_reference longest room s) r q h k
