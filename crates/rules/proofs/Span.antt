-- The span of an edit that isn't refused: where its places, its indexes and its swap lie.
-- Assumes nothing.
use mathlib.Core.Path.{◌≡◌, refl, sym, ap, ◌∙◌}
use mathlib.Core.Bool.{Bool, true, false, ◌&&◌, ◌||◌}
use mathlib.Core.List.{List}
use Prim.Native.Nat.{ℕ, ◌+◌, ◌-◌, ◌≤◌, ◌<◌, min, max}
use native.Mathlib.Omega.{arith}
use lib.Dec.{eqb, ltb}
use borrow.Author.Tests.{ltb-false, eqb-false}
use Rattle.rules.specs.declared.Kind.{Kind}
use Rattle.rules.specs.declared.Kind.TheVariants.{Substitution, Deletion, Delins, Insertion, Duplication, Inversion, Identity, Other}
use Rattle.rules.specs.declared.Position.{Position}
use Rattle.rules.specs.declared.Position.TheVariants.{Plus, Minus, Star}
use Rattle.rules.specs.Reference.{Reference, size}
use Rattle.rules.specs.Position.{place, is_outside, index, is_before, is_behind}
use Rattle.rules.specs.Edit.{Asked, kind_of, start_place, end_place, start_index, end_index}
use Rattle.rules.specs.Altered.{Swap, swap_by, swap}
use Rattle.rules.specs.declared.Limits.{Limits}
use Rattle.rules.specs.Refusal.{refusal}
use Rattle.rules.proofs.Tests.{or_left, or_right}
use Rattle.rules.proofs.Reference.{Bounds}
use Rattle.rules.proofs.Refusing.{Allowed, reference-accepted, edit-allowed}

never : false ≡ true → ⊥
never h = let z : ◌≡◌ {A = ℕ} 0 1 = cc in omega arith

-- a number that isn't 0 and not above another
pub within : (p most : ℕ) → (eqb p 0 || ltb most p) ≡ false → (1 ≤ p) × (p ≤ most)
within p most h =
    let some : p ≡ 0 → ⊥ = eqb-false p 0 (or_left (eqb p 0) (ltb most p) h) in
    let fits : p ≤ most = ltb-false most p (or_right (eqb p 0) (ltb most p) h) in
    (omega arith, fits)

-- where a position's place is, and its index: the place, brought into cs-1..L
pub record Placed (cs ce L : ℕ) (p : Position) : Type 0 where
  pub before : is_before p ≡ true → place cs ce p < cs - 1
  pub not-before : is_before p ≡ false → cs - 1 ≤ place cs ce p
  pub behind : is_behind p ≡ true → ce ≤ place cs ce p
  pub not_behind : is_behind p ≡ false → place cs ce p < ce
  pub index_is : index cs ce L p ≡ max (cs - 1) (min (place cs ce p) L)

module _ (cs ce L : ℕ) (first : 1 ≤ cs) (rising : cs ≤ ce) (inside : ce ≤ L) where
  placed : (p : Position) → is_outside cs ce p ≡ false → Placed cs ce L p
  unfolding place is_outside index is_before is_behind
  placed (Plus p) h =
      let w = within p (ce + 1 - cs) h in
      record {
        before = λ k. absurd (never k);
        not-before = λ k. omega (arith, w.0);
        behind = λ k. absurd (never k);
        not_behind = λ k. omega (arith, w.0, w.1);
        index_is = omega (arith, w.0, w.1);
      }
  placed (Minus p) h =
      let w = within p (cs - 1) h in
      record {
        before = λ k. omega (arith, w.0, w.1);
        not-before = λ k. absurd (never (sym k));
        behind = λ k. absurd (never k);
        not_behind = λ k. omega arith;
        index_is = omega arith;
      }
  placed (Star q) h =
      let w = within q 65535 h in
      record {
        before = λ k. absurd (never k);
        not-before = λ k. omega (arith, w.0);
        behind = λ k. omega (arith, w.0);
        not_behind = λ k. absurd (never (sym k));
        index_is = omega (arith, w.0);
      }

-- the start isn't behind the CDS, and the end isn't before it
module _ (cs ce L : ℕ) (start end : Position) (s : Placed cs ce L start) (e : Placed cs ce L end) (ordered : place cs ce start ≤ place cs ce end) where
  end-reaches : (is_before start && is_before end) ≡ false → cs - 1 ≤ place cs ce end
  end-reaches h = by (is_before start) (is_before end) refl refl
    where
      by : (a b : Bool) → is_before start ≡ a → is_before end ≡ b → cs - 1 ≤ place cs ce end
      by a false p q = e.not-before q
      by true true p q = absurd (never (sym (rw (p, q) at h)))
      by false true p q = omega (arith, s.not-before p, e.before q)

  start-inside : (is_behind start && is_behind end) ≡ false → place cs ce start < ce
  start-inside h = by (is_behind start) (is_behind end) refl refl
    where
      by : (a b : Bool) → is_behind start ≡ a → is_behind end ≡ b → place cs ce start < ce
      by false b p q = s.not_behind p
      by true true p q = absurd (never (sym (rw (p, q) at h)))
      by true false p q = omega (arith, s.behind p, e.not_behind q)

-- cs-1 <= start < ce, start < end <= L. The start index is the start's place, but never before the CDS; `end` is one behind the end's place,
-- but never behind the transcript.
pub record Indexes (r : Reference) (e : Asked) : Type 0 where
  pub front : r.cs - 1 ≤ start_index r e
  pub starts : start_index r e < r.ce
  pub rising : start_index r e < end_index r e
  pub ends : end_index r e ≤ size r
  pub start_is : start_index r e ≡ max (r.cs - 1) (start_place r e)
  pub end_is : end_index r e ≡ min (end_place r e + 1) (size r)

start_of : (cs ce L place : ℕ) → cs ≤ ce → ce ≤ L → place < ce → max (cs - 1) (min place L) ≡ max (cs - 1) place
start_of cs ce L place h k l = omega arith

end_of : (cs ce L place : ℕ) → cs ≤ ce → ce ≤ L → 1 ≤ cs → cs - 1 ≤ place → min (max (cs - 1) (min place L) + 1) L ≡ min (place + 1) L
end_of cs ce L place h k l m = omega arith

pub indexes_of : (most : ℕ) (r : Reference) (e : Asked) → Bounds r → Allowed most r e → Indexes r e
unfolding start_index end_index start_place end_place
indexes_of most r e b a =
    let L = size r in
    let start = e.edit.start in
    let end = e.edit.end in
    let s = placed r.cs r.ce L b.first b.rising b.inside start a.start-inside in
    let t = placed r.cs r.ce L b.first b.rising b.inside end a.end-inside in
    let reaches = end-reaches r.cs r.ce L start end s t a.ordered a.not-before in
    let inside = start-inside r.cs r.ce L start end s t a.ordered a.not_behind in
    let start_is = s.index_is ∙ start_of r.cs r.ce L (start_place r e) b.rising b.inside inside in
    let end_is = ap (λ (n : ℕ). min (n + 1) L) t.index_is ∙ end_of r.cs r.ce L (end_place r e) b.rising b.inside b.first reaches in
    record {
      front = omega (arith, start_is);
      starts = omega (arith, start_is, inside, b.rising, b.first);
      rising = omega (arith, start_is, end_is, inside, reaches, b.rising, b.inside, b.first, a.ordered);
      ends = omega (arith, end_is);
      start_is = start_is;
      end_is = end_is;
    }

-- first <= from <= to <= L
pub record Span (first L : ℕ) (w : Swap) : Type 0 where
  pub front : first ≤ w.from
  pub rising : w.from ≤ w.to
  pub ends : w.to ≤ L

-- whatever the kind
span_by : (k : Kind) (s : List ℕ) (first L start end : ℕ) (new : List ℕ) → first ≤ start → start < end → end ≤ L → Span first L (swap_by k s start end new)
unfolding swap_by
span_by Substitution s first L start end new h k l = record { front = h; rising = omega arith; ends = l }
span_by Deletion s first L start end new h k l = record { front = h; rising = omega arith; ends = l }
span_by Delins s first L start end new h k l = record { front = h; rising = omega arith; ends = l }
span_by Insertion s first L start end new h k l = record { front = omega arith; rising = omega arith; ends = omega arith }
span_by Duplication s first L start end new h k l = record { front = omega arith; rising = omega arith; ends = l }
span_by Inversion s first L start end new h k l = record { front = h; rising = omega arith; ends = l }
span_by Identity s first L start end new h k l = record { front = h; rising = omega arith; ends = l }
span_by Other s first L start end new h k l = record { front = h; rising = omega arith; ends = l }

span_of : (r : Reference) (e : Asked) → Indexes r e → Span (r.cs - 1) (size r) (swap r e)
unfolding swap
span_of r e i = span_by (kind_of e) r.letters (r.cs - 1) (size r) (start_index r e) (end_index r e) e.new i.front i.rising i.ends

module _ (m : Limits) (r : Reference) (e : Asked) (h : refusal m r e ≡ 0) where
  pub indexes : Indexes r e
  indexes = indexes_of m.most r e (reference-accepted m r e h).bounds (edit-allowed m r e h)

  pub span : Span (r.cs - 1) (size r) (swap r e)
  span = span_of r e indexes
