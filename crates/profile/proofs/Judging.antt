-- Laws of 40 to 43: what each test is by the numbers of an edit whose two positions are in the CDS.
-- Assumes nothing.
use mathlib.Core.Path.{◌≡◌, refl, sym, ap, ◌∙◌}
use mathlib.Core.Bool.{Bool, true, false, ◌&&◌, ◌||◌, not}
use mathlib.Core.List.{List, [], ◌∷◌}
use Prim.Native.Nat.{ℕ, ◌+◌, ◌-◌, ◌%◌, ◌≤◌, ◌<◌}
use native.Mathlib.Omega.{arith}
use lib.Dec.{eqb, leb}
use lib.ListN.{length, drop, get_or, length-drop}
use lib.Seq.{length-take-le}
use borrow.Author.Tests.{leb-true, eq-eqb, ne_eqb, eqb-true, eqb-false}
use Rattle.rules.specs.declared.Kind.{Kind}
use Rattle.rules.specs.declared.Kind.TheVariants.{Substitution, Deletion, Delins, Insertion, Duplication, Inversion, Identity, Other}
use Rattle.rules.specs.declared.Position.{Position}
use Rattle.rules.specs.declared.Position.TheVariants.{Plus, Minus, Star}
use Rattle.rules.specs.Bytes.{all, first_number}
use Rattle.rules.specs.Letters.{is_letter}
use Rattle.rules.specs.Reference.{Reference, size}
use Rattle.rules.specs.Position.{place, is_outside, index, is_before, is_behind}
use Rattle.rules.specs.Edit.{Asked, is, kind_of, start_place, start_index, end_index, are_new_bases, fit_bases}
use Rattle.rules.specs.Altered.{part, swap_by, swap, deleted, inserted, is_uneven}
use Rattle.rules.specs.Panel.{is_panel_kind, is_inside, has_bases, is_of_panel, names_base, profile_tests}
use Rattle.rules.proofs.Tests.{and_left, and_right}
use Rattle.rules.proofs.Refusing.{Allowed}
use Rattle.rules.proofs.Reference.{Bounds}
use Rattle.rules.proofs.Span.{Indexes}
use Rattle.indexes.proofs.Inside.{in-cds}
use Rattle.profile.specs.Numbers.{uneven_by, tests_by}

-- a position in the CDS: its index is its place, and stands before the CDS's end
record Inside (cs ce L : ℕ) (p : Position) : Type 0 where
  is-place : index cs ce L p ≡ place cs ce p
  before : index cs ce L p < ce

inside : (cs ce L : ℕ) (p : Position) → 1 ≤ cs → cs ≤ ce → is_inside p ≡ true → is_outside cs ce p ≡ false → Inside cs ce L p
unfolding is_inside is_before is_behind index place
inside cs ce L (Plus n) a b h k = let x = in-cds cs ce (Plus n) n refl k in record { is-place = refl; before = omega (arith, x.0, x.1) }
inside cs ce L (Minus n) a b h k = let z : ◌≡◌ {A = ℕ} 0 1 = cc in absurd (omega arith)
inside cs ce L (Star n) a b h k = let z : ◌≡◌ {A = ℕ} 0 1 = cc in absurd (omega arith)

eqb_swap : (a b : ℕ) → eqb a b ≡ eqb b a
eqb_swap a b = by (eqb a b) refl
  where
    by : (k : Bool) → eqb a b ≡ k → k ≡ eqb b a
    by true h = sym (eq-eqb b a (sym (eqb-true a b h)))
    by false h = sym (ne_eqb b a (λ e. eqb-false a b h (sym e)))

-- an index by the number of letters
pub index_by : (r : Reference) (p : Position) (n m : ℕ) → n ≡ size r → m ≡ index r.cs r.ce n p → m ≡ index r.cs r.ce (size r) p
index_by r p n m sized is = is ∙ ap (λ (n : ℕ). index r.cs r.ce n p) sized

-- the net change, kind by kind
uneven_by_lem : (most : ℕ) (k : Kind) (s : List ℕ) (start end : ℕ) (new : List ℕ) → is_panel_kind k ≡ true → fit_bases most k new ≡ true → (is Substitution k ≡ true → end - start ≡ 1) → start ≤ end → end ≤ length s
    → not (eqb (length (swap_by k s start end new).put % 3) (((swap_by k s start end new).to - (swap_by k s start end new).from) % 3)) ≡ uneven_by k (end - start) (length new)
unfolding swap_by uneven_by is_panel_kind fit_bases are_new_bases part
uneven_by_lem most Substitution s start end new h b one r l =
    let bases = leb 1 (length new) && leb (length new) 1 in
    let counted = and_left bases (all is_letter new) b in
    let len : length new ≡ 1 = omega (arith, leb-true 1 (length new) (and_left (leb 1 (length new)) (leb (length new) 1) counted), leb-true (length new) 1 (and_right (leb 1 (length new)) (leb (length new) 1) counted)) in
    rw (len, one refl)
uneven_by_lem most Deletion s start end [] h b one r l = ap not (eqb_swap 0 ((end - start) % 3))
uneven_by_lem most Deletion s start end (x ∷ new) h b one r l = let z : ◌≡◌ {A = ℕ} 0 1 = cc in absurd (omega arith)
uneven_by_lem most Duplication s start end new h b one r l =
    let none : end - end ≡ 0 = omega arith in
    rw (length-take-le (end - start) (drop start s) (rw length-drop (omega arith)), none)
uneven_by_lem most Insertion s start end new h b one r l =
    let none : start + 1 - (start + 1) ≡ 0 = omega arith in
    rw none
uneven_by_lem most Delins s start end new h b one r l = let z : ◌≡◌ {A = ℕ} 0 1 = cc in absurd (omega arith)
uneven_by_lem most Inversion s start end new h b one r l = let z : ◌≡◌ {A = ℕ} 0 1 = cc in absurd (omega arith)
uneven_by_lem most Identity s start end new h b one r l = let z : ◌≡◌ {A = ℕ} 0 1 = cc in absurd (omega arith)
uneven_by_lem most Other s start end new h b one r l = let z : ◌≡◌ {A = ℕ} 0 1 = cc in absurd (omega arith)

-- an edit to which none of 7 to 10 applies
module _ (most : ℕ) (r : Reference) (e : Asked) (b : Bounds r) (allowed : Allowed most r e) (i : Indexes r e) where
  -- the letter that the start names is there, and the range isn't empty
  pub first-there : index r.cs r.ce (size r) e.edit.start < size r
  unfolding start_index
  first-there = omega (arith, i.starts, b.inside)

  pub rising : index r.cs r.ce (size r) e.edit.start ≤ index r.cs r.ce (size r) e.edit.end + 1
  unfolding start_index end_index
  rising = omega (arith, i.rising)

  pub last-small : index r.cs r.ce (size r) e.edit.end ≤ size r
  unfolding index
  last-small = by e.edit.end allowed.end-inside
    where
      by : (p : Position) → is_outside r.cs r.ce p ≡ false → index r.cs r.ce (size r) p ≤ size r
      by (Plus n) h = let x = in-cds r.cs r.ce (Plus n) n refl h in omega (arith, x.1, b.inside, b.first)
      by (Minus n) h = omega (arith, b.inside, b.rising)
      by (Star n) h = omega arith

  -- with both positions in the CDS
  module _ (of-panel : is_of_panel e ≡ true) where
    kind-and-start : (is_panel_kind (kind_of e) && is_inside e.edit.start) ≡ true
    unfolding is_of_panel
    kind-and-start = and_left (is_panel_kind (kind_of e) && is_inside e.edit.start) (is_inside e.edit.end) of-panel

    starts : Inside r.cs r.ce (size r) e.edit.start
    starts = inside r.cs r.ce (size r) e.edit.start b.first b.rising (and_right (is_panel_kind (kind_of e)) (is_inside e.edit.start) kind-and-start) allowed.start-inside

    ends : Inside r.cs r.ce (size r) e.edit.end
    unfolding is_of_panel
    ends =
        inside r.cs r.ce (size r) e.edit.end b.first b.rising (and_right (is_panel_kind (kind_of e) && is_inside e.edit.start) (is_inside e.edit.end) of-panel) allowed.end-inside

    end_is : end_index r e ≡ index r.cs r.ce (size r) e.edit.end + 1
    unfolding end_index
    end_is = omega (arith, ends.before, b.inside)

    one-base : is Substitution (kind_of e) ≡ true → end_index r e - start_index r e ≡ 1
    one-base k = omega (arith, allowed.single k, i.start_is, i.end_is, i.rising)

    -- 42
    uneven : is_uneven r e ≡ uneven_by (kind_of e) (index r.cs r.ce (size r) e.edit.end + 1 - index r.cs r.ce (size r) e.edit.start) (length e.new)
    unfolding is_uneven inserted deleted swap start_index size
    uneven =
        rw (← end_is)
        (uneven_by_lem most (kind_of e) r.letters (start_index r e) (end_index r e) e.new (and_left (is_panel_kind (kind_of e)) (is_inside e.edit.start) kind-and-start) allowed.bases one-base (omega (arith, i.rising)) i.ends)

    -- 43
    names : (named : ℕ) → names_base r e named ≡ (not (is Substitution (kind_of e)) || eqb named (get_or r.letters (index r.cs r.ce (size r) e.edit.start) 0))
    unfolding names_base start_place
    names named = rw starts.is-place

  -- 40 to 43 by these numbers
  pub judged : (named : ℕ) (bases panel : Bool) → bases ≡ has_bases r e → panel ≡ is_of_panel e
      → first_number (tests_by bases panel (uneven_by (kind_of e) (index r.cs r.ce (size r) e.edit.end + 1 - index r.cs r.ce (size r) e.edit.start) (length e.new)) (not (is Substitution (kind_of e)) || eqb named (get_or r.letters (index r.cs r.ce (size r) e.edit.start) 0)))
      ≡ first_number (profile_tests r e named)
  unfolding profile_tests first_number
  judged named bases panel is-bases is-panel = rw (is-bases, is-panel) (by (is_of_panel e) refl)
    where
      by : (k : Bool) → is_of_panel e ≡ k
          → first_number (tests_by (has_bases r e) k (uneven_by (kind_of e) (index r.cs r.ce (size r) e.edit.end + 1 - index r.cs r.ce (size r) e.edit.start) (length e.new)) (not (is Substitution (kind_of e)) || eqb named (get_or r.letters (index r.cs r.ce (size r) e.edit.start) 0)))
          ≡ first_number (tests_by (has_bases r e) k (is_uneven r e) (names_base r e named))
      by true h = rw (uneven h, names h named)
      by false h = refl
