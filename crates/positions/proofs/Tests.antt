-- Laws of what an edit that isn't refused leaves. Assumes nothing.
use mathlib.Core.Path.{◌≡◌, refl}
use mathlib.Core.Bool.{true, false, ◌&&◌, ◌||◌}
use mathlib.Core.List.{List, [], ◌∷◌}
use Prim.Native.Nat.{ℕ, ◌≤◌, max, zero-le}
use native.Mathlib.Omega.{arith}
use borrow.Author.Tests.{leb-true, ne_eqb}
use lib.Dec.{eqb, leb}
use lib.ListN.{length}
use Rattle.rules.specs.declared.Kind.{Kind}
use Rattle.rules.specs.declared.Kind.TheVariants.{Substitution, Deletion, Delins, Insertion, Duplication, Inversion, Identity, Other}
use Rattle.rules.specs.Bytes.{is_none, all, first_number}
use Rattle.rules.specs.Letters.{is_letter}
use Rattle.rules.specs.Reference.{Reference}
use Rattle.rules.specs.Position.{is_outside}
use Rattle.rules.specs.Edit.{Asked, is, kind_of, ends_past, is_misplaced, are_new_bases, fit_bases, edit_tests}
use Rattle.rules.proofs.Tests.{and_left, and_right, or_left, or_right}
use Rattle.rules.proofs.Refusing.{Allowed, allowed}
use Rattle.rules.proofs.Span.{Indexes, indexes_of}
use Rattle.reference.specs.Bounds.{Sound}

-- 7 doesn't apply
pub both_inside : (r : Reference) (e : Asked) → is_misplaced r e ≡ false → (is_outside r.cs r.ce e.edit.start ≡ false) × (is_outside r.cs r.ce e.edit.end ≡ false)
unfolding is_misplaced
both_inside r e h =
    let start = is_outside r.cs r.ce e.edit.start in
    let end = is_outside r.cs r.ce e.edit.end in
    let both = or_left (start || end) (is Duplication (kind_of e) && ends_past r e) h in
    (or_left start end both, or_right start end both)

-- how many new bases there are
pub none-given : (s : List ℕ) → eqb (length s) 0 ≡ is_none s
none-given [] = refl
none-given (x ∷ s) = ne_eqb (length (x ∷ s)) 0 (λ e. omega arith)

-- new bases that a kind takes, whichever it is
pub record Fitting (most : ℕ) (s : List ℕ) : Type 0 where
  pub few : length s ≤ max most 1
  pub letters : all is_letter s ≡ true

some_fit : (n most : ℕ) (s : List ℕ) → n ≤ max most 1 → are_new_bases n s ≡ true → Fitting most s
unfolding are_new_bases
some_fit n most s k h =
    let counted = leb 1 (length s) && leb (length s) n in
    let fits = leb-true (length s) n (and_right (leb 1 (length s)) (leb (length s) n) (and_left counted (all is_letter s) h)) in
    record { few = omega (arith, fits); letters = and_right counted (all is_letter s) h }

none_fit : (most : ℕ) (s : List ℕ) → is_none s ≡ true → Fitting most s
unfolding all
none_fit most [] h = record { few = zero-le; letters = refl }
none_fit most (x ∷ s) h = let z : ◌≡◌ {A = ℕ} 0 1 = cc in absurd (omega arith)

pub fitting : (most : ℕ) (k : Kind) (s : List ℕ) → fit_bases most k s ≡ true → Fitting most s
unfolding fit_bases
fitting most Substitution s h = some_fit 1 most s (omega arith) h
fitting most Deletion s h = none_fit most s h
fitting most Delins s h = some_fit most most s (omega arith) h
fitting most Insertion s h = some_fit most most s (omega arith) h
fitting most Duplication s h = none_fit most s h
fitting most Inversion s h = none_fit most s h
fitting most Identity s h = none_fit most s h
fitting most Other s h = let z : ◌≡◌ {A = ℕ} 0 1 = cc in absurd (omega arith)

-- none of 7 to 10 applies to an edit of a checked reference
module _ (r : Reference) (known : Sound r) (most : ℕ) (e : Asked) (none : first_number (edit_tests most r e) ≡ 0) where
  pub edit-allowed : Allowed most r e
  edit-allowed = allowed most r e none

  pub edit-indexes : Indexes r e
  edit-indexes = indexes_of most r e known.bounds edit-allowed

  pub edit-fitting : Fitting most e.new
  edit-fitting = fitting most (kind_of e) e.new edit-allowed.bases
