-- Two edits on one transcript (E13): carried out one after the other, in either order, they make the same five parts, whose length is L plus both
-- net changes.
-- Assumes nothing.
use Rattle.std.specs.Prelude.{if◌then◌else◌}
use mathlib.Core.Path.{◌≡◌, refl, sym, ap, ◌∙◌}
use mathlib.Core.Bool.{Bool, true, false, ◌&&◌, ◌||◌, not}
use mathlib.Core.List.{List, ◌++◌, append_assoc}
use Prim.Native.Nat.{ℕ, ◌+◌, ◌-◌, ◌≤◌, ◌<◌}
use native.Mathlib.Omega.{arith}
use lib.ListN.{length, take, drop, length-append, length-drop}
use lib.Seq.{length-take-le}
use borrow.Author.Tests.{le-ltb, ltb-true, not-false}
use Rattle.rules.specs.declared.Kind.{Kind}
use Rattle.rules.specs.declared.Kind.TheVariants.{Substitution, Deletion, Delins, Insertion, Duplication, Inversion, Identity, Other}
use Rattle.rules.specs.declared.Limits.{Limits}
use Rattle.rules.specs.Bytes.{first_number}
use Rattle.rules.specs.Reference.{Reference, size}
use Rattle.rules.specs.Edit.{Asked, is, kind_of, start_index, end_index, edit_tests}
use Rattle.rules.specs.Altered.{part, Swap, carried, is_inserting, swap_by, swap, frame, has_stop, through_stop_codon, cut_at_stop, finds_stop, kept, deleted, inserted}
use Rattle.rules.specs.Record.{is_unknown}
use Rattle.rules.specs.Refusal.{reference_refusal}
use Rattle.rules.specs.Pair.{touched_from, touched_to, is_ahead, are_apart, pair_tests, moved_by, moved_swap, pair_transcript, pair_protein, pair_length}
use Rattle.rules.proofs.Tests.{or_left, or_right, first_clear}
use Rattle.rules.proofs.Parts.{length_part}
use Rattle.rules.proofs.Refusing.{refused-edit}
use Rattle.rules.proofs.Span.{Indexes, Span, indexes, span}
use Rattle.rules.proofs.Carried.{carried-front, carried-back, carried_from, carried-part}

-- the letters before both, what the one in front puts in, the letters between, what the one behind puts in, the letters behind both
unfoldable pub five_parts : Swap → Swap → List ℕ → List ℕ
five_parts w v s = take w.from s ++ (w.put ++ (part w.to v.from s ++ (v.put ++ drop v.to s)))

-- two swaps, one in front of the other
pub record InOrder (w v : Swap) (s : List ℕ) : Type 0 where
  pub rising : w.from ≤ w.to
  pub apart : w.to ≤ v.from
  pub rises : v.from ≤ v.to
  pub ends : v.to ≤ length s

-- a part from the start
from_start : (n : ℕ) (s : List ℕ) → part 0 n s ≡ take n s
unfolding part
from_start n s = let all : n - 0 ≡ n = omega arith in ap (λ (k : ℕ). take k s) all

-- a list whose beginning is three lists and whose end is a fourth
joined : (put t : List ℕ) (from to : ℕ) (a b c d : List ℕ) → take from t ≡ a ++ (b ++ c) → drop to t ≡ d → carried (record { from = from; to = to; put = put }) t ≡ a ++ (b ++ (c ++ (put ++ d)))
unfolding carried
joined put t from to a b c d h k = rw (h, k) (simp append_assoc)

module _ (w v : Swap) (s : List ℕ) (o : InOrder w v s) where
  -- the one in front first: the other is moved
  pub front-first : carried (moved_swap w v) (carried w s) ≡ five_parts w v s
  unfolding moved_swap moved_by five_parts
  front-first =
      let from = moved_by w v.from in
      let to = moved_by w v.to in
      let inside : w.from ≤ length s = omega (arith, o.rising, o.apart, o.rises, o.ends) in
      let part-is = carried-part w s inside 0 (omega arith) from v.from o.apart (omega (arith, o.rising, o.apart)) in
      let front : take from (carried w s) ≡ take w.from s ++ (w.put ++ part w.to v.from s) =
      sym (from_start from (carried w s)) ∙ part-is ∙ ap (λ (l : List ℕ). l ++ (w.put ++ part w.to v.from s)) (from_start w.from s) in
      let back : drop to (carried w s) ≡ drop v.to s =
      carried-back w s inside to v.to (omega (arith, o.rising, o.apart, o.rises)) (omega (arith, o.rising, o.apart, o.rises)) in
      joined v.put (carried w s) from to (take w.from s) w.put (part w.to v.from s) (drop v.to s) front back

  -- the one behind first: nothing moves
  pub back-first : carried w (carried v s) ≡ five_parts w v s
  unfolding carried five_parts
  back-first =
      let inside : v.from ≤ length s = omega (arith, o.rises, o.ends) in
      let front : take w.from (carried v s) ≡ take w.from s = carried-front v s inside 0 w.from (omega (arith, o.rising, o.apart)) in
      let back : drop w.to (carried v s) ≡ part w.to v.from s ++ (v.put ++ drop v.to s) = carried_from v s inside w.to o.apart in
      rw (front, back)

  pub length-parts : length (five_parts w v s) ≡ w.from + (length w.put + ((v.from - w.to) + (length v.put + (length s - v.to))))
  unfolding five_parts
  length-parts =
      simp (length-append, length-drop, length-take-le w.from s (omega (arith, o.rising, o.apart, o.rises, o.ends)), length_part w.to v.from s (omega (arith, o.rises, o.ends)))

-- what an edit touches holds what it replaces
pub record Touches (r : Reference) (e : Asked) : Type 0 where
  pub front : touched_from r e ≤ (swap r e).from
  pub rising : (swap r e).from ≤ (swap r e).to
  pub back : (swap r e).to ≤ touched_to r e
  pub ends : (swap r e).to ≤ size r

touches_by : (k : Kind) (s : List ℕ) (L start end : ℕ) (new : List ℕ) → start < end → end ≤ L
    → ((if is Insertion k then start + 1 else start) ≤ (swap_by k s start end new).from) × ((swap_by k s start end new).to ≤ (if is Insertion k then start + 1 else end))
unfolding swap_by
touches_by Substitution s L start end new h k = (omega arith, omega arith)
touches_by Deletion s L start end new h k = (omega arith, omega arith)
touches_by Delins s L start end new h k = (omega arith, omega arith)
touches_by Insertion s L start end new h k = (omega arith, omega arith)
touches_by Duplication s L start end new h k = (omega arith, omega arith)
touches_by Inversion s L start end new h k = (omega arith, omega arith)
touches_by Identity s L start end new h k = (omega arith, omega arith)
touches_by Other s L start end new h k = (omega arith, omega arith)

pub touches : (r : Reference) (e : Asked) → Indexes r e → Span (r.cs - 1) (size r) (swap r e) → Touches r e
unfolding swap touched_from touched_to
touches r e i s =
    let both = touches_by (kind_of e) r.letters (size r) (start_index r e) (end_index r e) e.new i.rising i.ends in
    record { front = both.0; rising = s.rising; back = both.1; ends = s.ends }

-- the one in front of the other, by what they touch
module _ (r : Reference) (e f : Asked) (te : Touches r e) (tf : Touches r f) where
  pub in_order : is_ahead r e f ≡ true → InOrder (swap r e) (swap r f) r.letters
  unfolding is_ahead size
  in_order h =
      let apart = ltb-true (touched_to r e) (touched_from r f) h in
      record { rising = te.rising; apart = omega (arith, te.back, tf.front, apart); rises = tf.rising; ends = tf.ends }

  -- not both are behind the other
  pub one_way : is_ahead r e f ≡ true → is_ahead r f e ≡ false
  unfolding is_ahead
  one_way h =
      let apart = ltb-true (touched_to r e) (touched_from r f) h in
      le-ltb (touched_to r f) (touched_from r e) (omega (arith, te.front, te.rising, te.back, tf.front, tf.rising, tf.back, apart))

  -- the five parts of a pair, the one in front named first
  pub pair-front : is_ahead r e f ≡ true → pair_transcript r e f ≡ five_parts (swap r e) (swap r f) r.letters
  unfolding pair_transcript
  pair-front h = rw h (front-first (swap r e) (swap r f) r.letters (in_order h))

  -- and the one behind
  pub pair-back : is_ahead r e f ≡ true → pair_transcript r f e ≡ five_parts (swap r e) (swap r f) r.letters
  unfolding pair_transcript
  pair-back h = rw (one_way h) (back-first (swap r e) (swap r f) r.letters (in_order h))

  pub parts-length : is_ahead r e f ≡ true → length (five_parts (swap r e) (swap r f) r.letters) ≡ pair_length r e f
  unfolding pair_length deleted inserted size
  parts-length h =
      let o = in_order h in
      length-parts (swap r e) (swap r f) r.letters o ∙ omega (arith, o.rising, o.apart, o.rises, o.ends)

-- L plus both net changes, whichever is named first
pub length_commutes : (r : Reference) (e f : Asked) → pair_length r e f ≡ pair_length r f e
unfolding pair_length
length_commutes r e f = omega arith

or_swap : (a b : Bool) → (a || b) ≡ (b || a)
or_swap true true = refl
or_swap true false = refl
or_swap false true = refl
or_swap false false = refl

by_or : (a b : Bool) (P : Type 0) → (a || b) ≡ true → (a ≡ true → P) → (b ≡ true → P) → P
by_or true b P h l k = l refl
by_or false b P h l k = k h

-- both edits are accepted
module _ (r : Reference) (e f : Asked) (te : Touches r e) (tf : Touches r f) (h : are_apart r e f ≡ true) where
  -- "both orders give the same": transcript
  pub pair-commutes : pair_transcript r e f ≡ pair_transcript r f e
  unfolding are_apart
  pair-commutes =
      by_or (is_ahead r e f) (is_ahead r f e) (pair_transcript r e f ≡ pair_transcript r f e) h
      (λ k. pair-front r e f te tf k ∙ sym (pair-back r e f te tf k))
      (λ k. pair-back r f e tf te k ∙ sym (pair-front r f e tf te k))

  -- protein
  pub protein-commutes : pair_protein r e f ≡ pair_protein r f e
  unfolding pair_protein
  protein-commutes = rw pair-commutes

  -- "the pair's length is L plus both net changes"
  pub pair-length : length (pair_transcript r e f) ≡ pair_length r e f
  unfolding are_apart
  pair-length =
      by_or (is_ahead r e f) (is_ahead r f e) (length (pair_transcript r e f) ≡ pair_length r e f) h
      (λ k. ap length (pair-front r e f te tf k) ∙ parts-length r e f te tf k)
      (λ k. ap length (pair-back r f e tf te k) ∙ parts-length r f e tf te k ∙ length_commutes r f e)

-- the same of 51 to 53
pub tests_commute : (r : Reference) (e f : Asked) → pair_tests r e f ≡ pair_tests r f e
unfolding pair_tests are_apart
tests_commute r e f =
    rw (or_swap (is_ahead r e f) (is_ahead r f e), or_swap (is_unknown r e) (is_unknown r f), or_swap (finds_stop r e) (finds_stop r f))

-- an edit that 7 to 10 leave, of a reference that 1 to 6 and 28 leave
pub touches_of : (longest most : ℕ) (r : Reference) (e : Asked) → reference_refusal longest r ≡ 0 → first_number (edit_tests most r e) ≡ 0 → Touches r e
touches_of longest most r e h k =
    let m : Limits = record { longest = longest; most = most } in
    let none = refused-edit m r e h ∙ k in
    touches r e (indexes m r e none) (span m r e none)

-- no stop cut found: what goes in goes in whole
pub kept_whole : (r : Reference) (e : Asked) → finds_stop r e ≡ false → kept r e ≡ (swap r e).put
unfolding finds_stop kept cut_at_stop
kept_whole r e h =
    by (is_inserting (kind_of e)) (has_stop r.table (frame r (swap r e)) (swap r e).put) (through_stop_codon r.table (frame r (swap r e)) (swap r e).put) (swap r e).put h
  where
    by : (i c : Bool) (cut put : List ℕ) → (i && c) ≡ false → (if i then (if c then cut else put) else put) ≡ put
    by true true cut put h = let z : ◌≡◌ {A = ℕ} 0 1 = cc in absurd (omega arith)
    by true false cut put h = refl
    by false c cut put h = refl

-- none of 51 to 53 applies
pub record Joins (r : Reference) (e f : Asked) : Type 0 where
  pub apart : are_apart r e f ≡ true
  pub first-told : is_unknown r e ≡ false
  pub second-told : is_unknown r f ≡ false
  pub first-whole : finds_stop r e ≡ false
  pub second-whole : finds_stop r f ≡ false

pub joins : (r : Reference) (e f : Asked) → first_number (pair_tests r e f) ≡ 0 → Joins r e f
unfolding pair_tests
joins r e f h =
    let one = first_clear (not (are_apart r e f)) 50 _ h in
    let two = first_clear (is_unknown r e || is_unknown r f) 51 _ one.1 in
    let three = first_clear (finds_stop r e || finds_stop r f) 52 _ two.1 in
    record {
      apart = not-false (are_apart r e f) one.0;
      first-told = or_left (is_unknown r e) (is_unknown r f) two.0;
      second-told = or_right (is_unknown r e) (is_unknown r f) two.0;
      first-whole = or_left (finds_stop r e) (finds_stop r f) three.0;
      second-whole = or_right (finds_stop r e) (finds_stop r f) three.0;
    }
