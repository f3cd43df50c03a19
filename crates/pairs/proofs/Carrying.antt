-- Laws of two plans that are carried out: they make the pair's transcript, in either order, and have the room that its length asks for.
-- Assumes nothing.
use Rattle.std.specs.Prelude.{if◌then◌else◌}
use mathlib.Core.Path.{◌≡◌, refl, sym, ap, ◌∙◌}
use mathlib.Core.Bool.{Bool, true, false, ◌||◌}
use mathlib.Core.List.{List}
use Prim.Native.Nat.{ℕ, ◌+◌, ◌-◌, ◌≤◌, ◌<◌}
use native.Mathlib.Omega.{arith}
use lib.Dec.{ltb}
use lib.ListN.{length, take, drop}
use borrow.Author.Tests.{lt-ltb, le-ltb, ltb-true}
use Rattle.rules.specs.declared.Limits.{Limits}
use Rattle.rules.specs.Bytes.{all}
use Rattle.rules.specs.Letters.{is_letter}
use Rattle.rules.specs.Translation.{residue_count}
use Rattle.rules.specs.Reference.{Reference, size}
use Rattle.rules.specs.Edit.{Asked, kind_of, start_index, end_index}
use Rattle.rules.specs.Altered.{part, Swap, swap, kept, deleted, inserted, cut_off, altered_length}
use Rattle.rules.specs.Refusal.{refusal}
use Rattle.rules.specs.Pair.{touched_from, touched_to, is_ahead, are_apart, pair_transcript, pair_protein, pair_length}
use Rattle.rules.specs.Views.{asked, reference_of}
use Rattle.rules.proofs.Tests.{all_take, all_drop, all_both}
use Rattle.rules.proofs.Refusing.{refused-edit}
use Rattle.rules.proofs.Span.{span}
use Rattle.rules.proofs.Altered.{puts}
use Rattle.rules.proofs.Pairs.{five_parts, InOrder, Touches, in_order, pair-front, pair-back, pair-length, touches_of, kept_whole, Joins, joins}
use Rattle.letters.specs.Sets.{is_base}
use Rattle.reference.specs.declared.Known.{Known}
use Rattle.reference.specs.Known.{known_of}
use Rattle.edits.specs.declared.plans.Plan.{Plan}
use Rattle.edits.specs.Plans.{plan_of}
use Rattle.edits.proofs.Planning.{goes_in_lem}
use Rattle.transcript.specs.Carrying.{Sourced}
use Rattle.transcript.proofs.Bases.{plain_put}
use Rattle.transcript.proofs.Transcripts.{sourced-of}
use Rattle.pairs.specs.Carrying.{swap_of, both_by, protein_in, length_by, InRow, Codes, Goes}

-- each of the five parts passes
parts_pass : (p : ℕ → Bool) (w v : Swap) (s : List ℕ) → all p s ≡ true → all p w.put ≡ true → all p v.put ≡ true → all p (five_parts w v s) ≡ true
unfolding five_parts part
parts_pass p w v s h k l =
    all_both p (take w.from s) _ (all_take p w.from s h)
    (all_both p w.put _ k
    (all_both p (take (v.from - w.to) (drop w.to s)) _ (all_take p (v.from - w.to) (drop w.to s) (all_drop p w.to s h)) (all_both p v.put (drop v.to s) l (all_drop p v.to s h))))

by_or : (a b : Bool) (P : Type 0) → (a || b) ≡ true → (a ≡ true → P) → (b ≡ true → P) → P
by_or true b P h l k = l refl
by_or false b P h l k = k h

-- one plan of the two
pub record Whole (m : Limits) (r : Reference) (a : Asked) (p : Plan) : Type 0 where
  pub allowed : refusal m r a ≡ 0
  pub touches : Touches r a
  pub swaps : swap_of p r.letters a.new ≡ swap r a
  pub from : p.from ≡ (swap r a).from
  pub to : p.to ≡ (swap r a).to
  pub kept : p.kept ≡ length (swap r a).put
  pub length : p.length ≡ size r - deleted r a + inserted r a
  pub source : Sourced p r.letters a.new

module _ (m : Limits) (r : Reference) (a : Asked) (p : Plan) (none : refusal m r a ≡ 0) (t : Touches r a) (whole : kept r a ≡ (swap r a).put) where
  whole_of : Whole m r a (plan_of r a)
  unfolding plan_of swap_of altered_length cut_off inserted
  whole_of =
      record {
        allowed = none;
        touches = t;
        swaps = rw (goes_in_lem r a ∙ whole);
        from = refl;
        to = refl;
        kept = ap length whole;
        length = let n = ap length whole in omega (arith, n);
        source = sourced-of m r a none;
      }

  whole_by : p ≡ plan_of r a → Whole m r a p
  whole_by is = rw is whole_of

-- its length, without what it takes out
sum_of : (m : Limits) (r : Reference) (a : Asked) (p : Plan) → Whole m r a p → p.length + p.to ≡ length r.letters + p.kept + p.from
unfolding size deleted inserted
sum_of m r a p x =
    let t = x.touches in
    taken (length r.letters) p.from p.to p.kept p.length (omega (arith, x.from, x.to, t.rising)) (omega (arith, x.to, t.ends)) (rw (x.from, x.to, x.kept) x.length)
  where
    taken : (L from to n total : ℕ) → from ≤ to → to ≤ L → total ≡ L - (to - from) + n → total + to ≡ L + n + from
    taken L from to n total h k e = omega arith

-- the five parts, by the two lengths
parts_sum : (L from to first last n k one two : ℕ) → to ≤ first → first ≤ last → last ≤ L → one + to ≡ L + n + from → two + last ≡ L + k + first
    → from + (n + ((first - to) + (k + (L - last)))) + L ≡ one + two
parts_sum L from to first last n k one two h i j p q = omega arith

room_for : (L from to first last n k one two room : ℕ) → to ≤ first → first ≤ last → last ≤ L → one + to ≡ L + n + from → two + last ≡ L + k + first → one + two - L ≤ room
    → from + (n + ((first - to) + (k + (L - last)))) ≤ room
room_for L from to first last n k one two room h i j p q fits =
    let whole : ℕ = from + (n + ((first - to) + (k + (L - last)))) in
    let sum : whole + L ≡ one + two = parts_sum L from to first last n k one two h i j p q in
    less whole L (one + two) room sum fits
  where
    less : (a L b room : ℕ) → a + L ≡ b → b - L ≤ room → a ≤ room
    less a L b room e f = omega arith

-- the one ahead, then the other
module _ (m n : Limits) (r : Reference) (a b : Asked) (p q : Plan) (x : Whole m r a p) (y : Whole n r b q) (ahead : is_ahead r a b ≡ true) where
  order : InOrder (swap r a) (swap r b) r.letters
  order = in_order r a b x.touches y.touches ahead

  lies : p.to ≤ q.from
  lies = omega (arith, x.to, y.from, order.apart)

  pub row_of : (room : ℕ) → p.length + q.length - length r.letters ≤ room → InRow p q r.letters a.new b.new room
  unfolding size deleted inserted
  row_of room fits =
      let o = order in
      record {
        source = x.source;
        rising = omega (arith, x.from, x.to, o.rising);
        behind =
            record {
              source = y.source;
              apart = lies;
              rising = omega (arith, y.from, y.to, o.rises);
              ends = omega (arith, y.to, o.ends);
              written = omega arith;
            };
        written = room_for (length r.letters) p.from p.to q.from q.to p.kept q.kept p.length q.length room lies (omega (arith, y.from, y.to, o.rises)) (omega (arith, y.to, o.ends)) (sum_of m r a p x) (sum_of n r b q y) fits;
      }

  strict : p.to < q.from
  unfolding is_ahead
  strict = let apart = ltb-true (touched_to r a) (touched_from r b) ahead in omega (arith, x.to, y.from, x.touches.back, y.touches.front, apart)

  parts_are : five_parts (swap_of p r.letters a.new) (swap_of q r.letters b.new) r.letters ≡ five_parts (swap r a) (swap r b) r.letters
  parts_are = rw (x.swaps, y.swaps)

  length-sum : p.length + q.length - length r.letters ≡ pair_length r a b
  unfolding pair_length size deleted inserted
  length-sum = let o = order in omega (arith, x.length, y.length, o.rising, o.apart, o.rises, o.ends)

  fits-front : (swap r a).from ≤ pair_length r a b
  unfolding pair_length size deleted inserted
  fits-front = let o = order in omega (arith, o.rising, o.apart, o.rises, o.ends)

-- a pair that goes
module _ (s : List ℕ) (k : Known) (p q : Plan) (new other : List ℕ) (x : Goes s k p q new other) where
  abbrev r : Reference
  r = reference_of s k.cds x.exceptions

  abbrev a : Asked
  a = asked x.first new

  abbrev b : Asked
  b = asked x.second other

  abbrev m : Limits
  m = record { longest = x.limits.longest; most = x.limits.first }

  abbrev n : Limits
  n = record { longest = x.limits.longest; most = x.limits.second }

  both : Joins r a b
  both = joins r a b x.joined

  first-none : refusal m r a ≡ 0
  first-none = refused-edit m r a x.accepted ∙ x.first-allowed

  second_none : refusal n r b ≡ 0
  second_none = refused-edit n r b x.accepted ∙ x.second-allowed

  first-whole : Whole m r a p
  first-whole = whole_by m r a p first-none (touches_of x.limits.longest x.limits.first r a x.accepted x.first-allowed) (kept_whole r a both.first-whole) x.first-plan

  second-whole : Whole n r b q
  second-whole = whole_by n r b q second_none (touches_of x.limits.longest x.limits.second r b x.accepted x.second-allowed) (kept_whole r b both.second-whole) x.second-plan

  either : (P : Type 0) → (is_ahead r a b ≡ true → P) → (is_ahead r b a ≡ true → P) → P
  unfolding are_apart
  either P = by_or (is_ahead r a b) (is_ahead r b a) P both.apart

  -- "the pair's length is L plus both net changes"
  pub length-is : length_by p q s ≡ pair_length r a b
  unfolding pair_length
  length-is =
      either (length_by p q s ≡ pair_length r a b) (length-sum m n r a b p q first-whole second-whole)
      (λ h. let turned = length-sum n m r b a q p second-whole first-whole h in omega (arith, turned))

  pub lengths-sum : length s ≤ p.length + q.length
  unfolding size deleted inserted
  lengths-sum =
      either (length s ≤ p.length + q.length)
      (λ h. let o = order m n r a b p q first-whole second-whole h in omega (arith, first-whole.length, second-whole.length, o.rising, o.apart, o.rises, o.ends))
      (λ h. let o = order n m r b a q p second-whole first-whole h in omega (arith, first-whole.length, second-whole.length, o.rising, o.apart, o.rises, o.ends))

  length-small : (m : Limits) (e : Asked) (p : Plan) → m.most < 4294967296 → Whole m r e p → p.length < 8589934592
  unfolding inserted size
  length-small m e p small w = omega (arith, small, w.length, (puts m r e w.allowed).fits, x.sound.short)

  pub lengths-fit : p.length + q.length < 18446744073709551616
  lengths-fit = omega (arith, length-small m a p x.small.0 first-whole, length-small n b q x.small.1 second-whole)

  front_of : (m : Limits) (e : Asked) → refusal m r e ≡ 0 → k.cds.cs - 1 ≤ (swap r e).from
  front_of m e h = (span m r e h).front

  pub pair-first : k.cds.cs - 1 ≤ length_by p q s
  unfolding pair_length
  pair-first =
      either (k.cds.cs - 1 ≤ length_by p q s)
      (λ h. omega (arith, length-is, front_of m a first-none, fits-front m n r a b p q first-whole second-whole h))
      (λ h. omega (arith, length-is, front_of n b second_none, fits-front n m r b a q p second-whole first-whole h))

  module _ (room : ℕ) (fits : length_by p q s ≤ room) where
    pub ahead-row : p.to < q.from → InRow p q s new other room
    ahead-row h =
        either (InRow p q s new other room) (λ k. row_of m n r a b p q first-whole second-whole k room fits)
        (λ k. let o = order n m r b a q p second-whole first-whole k in absurd (omega (arith, h, first-whole.from, first-whole.to, second-whole.from, second-whole.to, o.rising, o.apart, o.rises)))

    pub behind-row : q.from ≤ p.to → InRow q p s other new room
    behind-row h =
        either (InRow q p s other new room)
        (λ k. absurd (strictly k))
        (λ k. row_of n m r b a q p second-whole first-whole k room (omega (arith, fits)))
      where
        strictly : is_ahead r a b ≡ true → ⊥
        strictly k = omega (arith, h, strict m n r a b p q first-whole second-whole k)

  pub both_is : both_by p q s new other ≡ pair_transcript r a b
  unfolding both_by
  both_is =
      either (both_by p q s new other ≡ pair_transcript r a b)
      (λ h.
      let before : ltb p.to q.from ≡ true = lt-ltb p.to q.from (strict m n r a b p q first-whole second-whole h) in
      ap (λ (t : Bool). if t then five_parts (swap_of p s new) (swap_of q s other) s else five_parts (swap_of q s other) (swap_of p s new) s) before
      ∙ parts_are m n r a b p q first-whole second-whole h
      ∙ sym (pair-front r a b first-whole.touches second-whole.touches h))
      (λ h.
      let o = order n m r b a q p second-whole first-whole h in
      let behind : ltb p.to q.from ≡ false = le-ltb p.to q.from (omega (arith, first-whole.from, first-whole.to, second-whole.from, second-whole.to, o.rising, o.apart, o.rises)) in
      ap (λ (t : Bool). if t then five_parts (swap_of p s new) (swap_of q s other) s else five_parts (swap_of q s other) (swap_of p s new) s) behind
      ∙ parts_are n m r b a q p second-whole first-whole h
      ∙ sym (pair-back r b a second-whole.touches first-whole.touches h))

  pub protein-is : protein_in k.cds (both_by p q s new other) ≡ pair_protein r a b
  unfolding protein_in pair_protein
  protein-is = rw both_is

  pub both-length : length (both_by p q s new other) ≡ length_by p q s
  both-length = ap length both_is ∙ pair-length r a b first-whole.touches second-whole.touches both.apart ∙ sym length-is

  -- what its translation demands
  passes : (t : ℕ → Bool) → all t s ≡ true → all t (swap r a).put ≡ true → all t (swap r b).put ≡ true → all t (pair_transcript r a b) ≡ true
  passes t h k l =
      either (all t (pair_transcript r a b) ≡ true)
      (λ o. ap (all t) (pair-front r a b first-whole.touches second-whole.touches o) ∙ parts_pass t (swap r a) (swap r b) s h k l)
      (λ o. ap (all t) (pair-back r b a second-whole.touches first-whole.touches o) ∙ parts_pass t (swap r b) (swap r a) s h l k)

  pub pair-codes : (alt : List ℕ) → residue_count (length_by p q s + 1 - k.cds.cs) ≤ length alt → Codes k new other (both_by p q s new other) alt
  unfolding known_of swap
  pair-codes alt room =
      record {
        code = x.sound.table;
        first = x.sound.bounds.first;
        front = rw both-length pair-first;
        letters = rw both_is (passes is_letter x.sound.letters (puts m r a first-none).letters (puts n r b second_none).letters);
        plain = λ h one two.
            let bases : all is_base s ≡ true = sym (ap (λ (k : Known). k.plain) x.is) ∙ h in
            rw both_is
            (passes is_base bases (plain_put (kind_of a) s (start_index r a) (end_index r a) new bases one) (plain_put (kind_of b) s (start_index r b) (end_index r b) other bases two));
        room = rw both-length room;
      }
