-- Laws of letters that are read in two parts, and of the letters that an edit touches. Assumes nothing.
use Rattle.std.specs.Prelude.{if◌then◌else◌}
use mathlib.Core.Path.{◌≡◌, refl, sym, ap, ap₂, ◌∙◌}
use mathlib.Core.Bool.{Bool, true, false, ◌&&◌}
use mathlib.Core.List.{List, [], ◌++◌, append-nil, map, map-append}
use Prim.Native.Nat.{ℕ, ◌+◌, ◌-◌, ◌*◌, ◌/◌, ◌%◌, ◌≤◌, ◌<◌, min}
use native.Mathlib.Omega.{arith}
use lib.Dec.{ltb}
use lib.ListN.{length, take, drop, length-append, length-drop, length-map}
use lib.Seq.{take-add, drop-drop}
use borrow.Author.Tests.{ltb-true, ltb-false}
use borrow.Rule.Slice.PartMut.{put_mid}
use Rattle.rules.specs.declared.Exceptions.{Exceptions}
use Rattle.rules.specs.Bytes.{all, over}
use Rattle.rules.specs.Letters.{folded}
use Rattle.rules.specs.Translation.{exception_list, residue_count, before_stop, through_stop, translated, folded_translated}
use Rattle.rules.specs.Altered.{part}
use Rattle.rules.proofs.Tests.{and_left, and_right, all_drop, all_take}
use Rattle.rules.proofs.Over.{copied, length_over, read_back, fits_over, tail-is}
use Rattle.rules.proofs.Translation.{length_exceptions, length-translated, through_le}
use Rattle.rules.proofs.Plain.{plain-append, through_stopped, through_goes, through_all}
use Rattle.rules.proofs.Parts.{length_part, letters-part}
use Rattle.rules.proofs.Carried.{carried-back, carried-part}
use Rattle.rules.proofs.Kept.{nothing}
use Rattle.letters.specs.Sets.{is_base}
use Rattle.places.specs.Looked.{Reads}
use Rattle.places.specs.Looked.{Walks}
use Rattle.places.proofs.Strict.{strict-letters, whole_bases, bases_fold}
use Rattle.reference.specs.declared.Known.{Known}
use Rattle.edits.specs.declared.plans.Plan.{Plan}
use Rattle.edits.specs.Plans.{goes_in}
use Rattle.transcript.specs.Carrying.{carried_by}
use Rattle.transcript.proofs.Transcripts.{length-goes-in}
use Rattle.reuse.specs.declared.pieces.Pieces.{Pieces}
use Rattle.reuse.specs.Reusing.{ends_in_stop, resumed, read_by}
use Rattle.reuse.proofs.Reusing.{ended-long, ended-written, on-long, on_fits, on-written}
use Rattle.brief.specs.Brief.{edge_of, Touches, Follows, Spans}

-- the residues of letters in two parts
module _ (table : ℕ) (plain : Bool) (touched own : List ℕ) (none : Exceptions) (out : List ℕ) (x : Follows table plain touched own none out) where
  abbrev X : List ℕ
  X = folded_translated table [] touched

  abbrev Y : List ℕ
  Y = folded_translated table [] own

  abbrev Z : List ℕ
  Z = folded_translated table [] (touched ++ own)

  long-x : length X ≡ residue_count (length touched)
  unfolding folded_translated
  long-x = length-translated table [] (map folded touched) ∙ ap residue_count (length-map touched folded)

  long-y : length Y ≡ residue_count (length own)
  unfolding folded_translated
  long-y = length-translated table [] (map folded own) ∙ ap residue_count (length-map own folded)

  -- the first part is read
  pub first_walks : Walks table plain touched none out
  unfolding residue_count
  first_walks = record { reads = x.reads; room = omega (arith, x.room) }

  module _ (n : ℕ) (out₁ : List ℕ) (told : n ≡ length (through_stop (folded_translated table (exception_list none) touched))) (wrote : out₁ ≡ over (through_stop (folded_translated table (exception_list none) touched)) out) where
    counted : n ≡ length (through_stop X)
    counted = rw x.bare at told

    written : out₁ ≡ over (through_stop X) out
    written = rw x.bare at wrote

    pub first_fits : n ≤ length out₁
    first_fits = fits_over (through_stop X) out out₁ n counted written

    -- nothing follows
    pub alone : length own ≡ 0 → (n ≡ length (through_stop Z)) × (out₁ ≡ over (through_stop Z) out)
    alone z =
        let same : touched ≡ touched ++ own = sym (append-nil touched) ∙ ap (touched ++◌) (sym (nothing own z)) in
        (counted ∙ ap (λ (l : List ℕ). length (through_stop (folded_translated table [] l))) same, written ∙ ap (λ (l : List ℕ). over (through_stop (folded_translated table [] l)) out) same)

    module _ (some : length own ≡ 0 → ⊥) where
      whole : length touched % 3 ≡ 0
      whole = x.whole some

      both : Z ≡ X ++ Y
      unfolding folded_translated
      both = ap (translated table []) (map-append folded touched own) ∙ plain-append table (map folded touched) (map folded own) (ap (◌% 3) (length-map touched folded) ∙ whole)

      through : through_stop Z ≡ resumed X (through_stop Y)
      unfolding resumed
      through = ap through_stop both ∙ by (ltb (before_stop X) (length X)) refl
        where
          by : (b : Bool) → ltb (before_stop X) (length X) ≡ b → through_stop (X ++ Y) ≡ (if b then through_stop X else (through_stop X ++ through_stop Y))
          by true e = through_stopped X Y (ltb-true (before_stop X) (length X) e)
          by false e =
              let past = ltb-false (before_stop X) (length X) e in
              through_goes X Y past ∙ ap (◌++ through_stop Y) (sym (through_all X past))

      fits : length (resumed X (through_stop Y)) ≤ length out
      unfolding resumed residue_count
      fits = by (ltb (before_stop X) (length X))
        where
          by : (b : Bool) → length (if b then through_stop X else (through_stop X ++ through_stop Y)) ≤ length out
          by true = omega (arith, through_le X, long-x, x.room)
          by false = simp length-append (omega (arith, through_le X, through_le Y, long-x, long-y, whole, x.room))

      module _ (b : Bool) (seen : b ≡ ends_in_stop (take n out₁)) where
        pub stopped : b ≡ true → (n ≡ length (through_stop Z)) × (out₁ ≡ over (through_stop Z) out)
        stopped e =
            (ended-long X (through_stop Y) out out₁ n counted written fits b seen e ∙ ap length (sym through), ended-written X (through_stop Y) out out₁ n counted written fits b seen e ∙ ap (λ (l : List ℕ). over l out) (sym through))

        module _ (goes : b ≡ false) where
          pub second_walks : Walks table plain own none (take (length out₁ - n) (drop n out₁))
          unfolding residue_count
          second_walks =
              let long : length out₁ ≡ length out = long-out in
              record {
                reads = x.reads-own;
                room = rw (tail-is n out₁, length-drop n out₁) (omega (arith, counted, through_le X, long-x, whole, x.room));
              }
            where
              long-out : length out₁ ≡ length out
              long-out = ap length written ∙ length_over (through_stop X) out (omega (arith, through_le X, long-x, x.room))

          pub second-long : (m : ℕ) → m ≡ length (through_stop (folded_translated table (exception_list none) own)) → n + m ≡ length (through_stop Z)
          second-long m e =
              let more : m ≡ length (through_stop Y) = rw x.bare at e in
              ap (n +◌) more ∙ on-long X (through_stop Y) out out₁ n counted written fits b seen goes ∙ ap length (sym through)

          pub second_fits : (m : ℕ) → m ≡ length (through_stop (folded_translated table (exception_list none) own)) → n + m ≤ length out
          second_fits m e =
              let more : m ≡ length (through_stop Y) = rw x.bare at e in
              omega (arith, on_fits X (through_stop Y) out out₁ n counted written fits b seen goes)

          pub second-written : (d : List ℕ) → d ≡ over (through_stop (folded_translated table (exception_list none) own)) (take (length out₁ - n) (drop n out₁)) → put_mid n (length out₁ - n) out₁ d ≡ over (through_stop Z) out
          second-written d e =
              let more : d ≡ over (through_stop Y) (take (length out₁ - n) (drop n out₁)) = rw x.bare at e in
              on-written X (through_stop Y) out out₁ n counted written fits b seen goes d (more ∙ sym (copied (through_stop Y) _)) ∙ ap (λ (l : List ℕ). over l out) (sym through)

-- letters of the altered transcript from before the edit to behind what goes in
module _ (p : Plan) (letters new : List ℕ) (start edge : ℕ) (x : Touches p letters new start edge) where
  put-long : length (goes_in p letters new) ≡ p.kept
  put-long = length-goes-in p letters new x.source

  pub from_in : p.from ≤ length letters
  from_in = omega (arith, x.rising, x.inside)

  pub touched-is : part start p.from letters ++ (goes_in p letters new ++ part p.to (p.to + (edge - (p.from + p.kept))) letters) ≡ part start edge (carried_by p letters new)
  unfolding carried_by
  touched-is =
      sym (carried-part (record { from = p.from; to = p.to; put = goes_in p letters new }) letters from_in start x.before edge (p.to + (edge - (p.from + p.kept)))
      (omega arith) (omega (arith, x.behind, put-long)))

  pub front_long : length (part start p.from letters) ≡ p.from - start
  front_long = length_part start p.from letters from_in

-- two parts in a row
part_split : (start mid end : ℕ) (s : List ℕ) → start ≤ mid → mid ≤ end → part start mid s ++ part mid end s ≡ part start end s
unfolding part
part_split start mid end s h k =
    let all : mid - start + (end - mid) ≡ end - start = omega arith in
    let there : start + (mid - start) ≡ mid = omega arith in
    let rest : take (end - mid) (drop mid s) ≡ take (end - mid) (drop (mid - start) (drop start s)) = ap (λ (i : ℕ). take (end - mid) (drop i s)) (sym there) ∙ ap (take (end - mid)) (sym (drop-drop (mid - start) start s)) in
    ap (take (mid - start) (drop start s) ++◌) rest ∙ sym (take-add (mid - start) (end - mid) (drop start s)) ∙ ap (λ (i : ℕ). take i (drop start s)) all

-- the edge of touched codons
edge_numbers : (start put end : ℕ) → start ≤ put → put ≤ end → (put ≤ min end (start + (put - start + 2) / 3 * 3)) × (min end (start + (put - start + 2) / 3 * 3) ≤ end)
    × (min end (start + (put - start + 2) / 3 * 3) < end → (min end (start + (put - start + 2) / 3 * 3) - start) % 3 ≡ 0)
edge_numbers start put end h k = (omega arith, omega arith, λ l. omega arith)

more_left : (g e z : ℕ) → g ≤ z → e ≡ g → (z - e ≡ 0 → ⊥) → g < z
more_left g e z h s l = omega arith

-- the residues that an edit has read
module _ (letters : List ℕ) (k : Known) (none : Exceptions) (p : Plan) (new : List ℕ) (q : Pieces) (coding out : List ℕ) (x : Spans letters k none p new q coding out) where
  abbrev T : List ℕ
  T = carried_by p letters new

  abbrev M : List ℕ
  M = through_stop (folded_translated k.cds.table [] (read_by T q))

  pub nothing_read : q.start ≡ q.end → (0 ≡ length M) × (out ≡ over M out)
  unfolding read_by part folded_translated residue_count over
  nothing_read e =
      let none_left : q.end - q.start ≡ 0 = omega arith in
      let short : length M ≡ 0 = short-by none_left in
      (sym short, rw (nothing M short))
    where
      short-by : q.end - q.start ≡ 0 → length M ≡ 0
      short-by z =
          let letters_none : length (map folded (take (q.end - q.start) (drop q.start T))) ≡ 0 = length-map (take (q.end - q.start) (drop q.start T)) folded ∙ ap (λ (n : ℕ). length (take n (drop q.start T))) z in
          omega (arith, through_le (translated k.cds.table [] (map folded (take (q.end - q.start) (drop q.start T)))), length-translated k.cds.table [] (map folded (take (q.end - q.start) (drop q.start T))))

  module _ (some : q.start ≡ q.end → ⊥) where
    t : Touches p letters new q.start q.end
    t = x.touches some

    abbrev edge : ℕ
    edge = edge_of p q.start q.end

    edge_in : (p.from + p.kept ≤ edge) × (edge ≤ q.end) × (edge < q.end → (edge - q.start) % 3 ≡ 0)
    unfolding edge_of
    edge_in = edge_numbers q.start (p.from + p.kept) q.end (omega (arith, t.before)) t.behind

    pub edge-asks : (q.start ≤ p.from) × (p.from + p.kept ≤ q.end) × (q.end ≤ 17179869184)
    edge-asks = (t.before, t.behind, omega (arith, t.short))

    pub own-small : p.to + (q.end - (p.from + p.kept)) < 18446744073709551616
    own-small = omega (arith, t.inside, t.short)

    module _ (e : ℕ) (is : e ≡ edge) where
      pub edge-fits : (p.from + p.kept ≤ e) × (e ≤ q.end) × (e - q.start ≤ length coding)
      edge-fits = (omega (arith, edge_in.0), omega (arith, edge_in.1), omega (arith, edge_in.1, x.room))

      pub edge-touches : Touches p letters new q.start e
      edge-touches =
          record {
            source = t.source;
            before = t.before;
            rising = t.rising;
            behind = edge-fits.0;
            inside = omega (arith, t.inside, edge-fits.1, edge-fits.0);
            short = omega (arith, t.short, edge-fits.1);
          }

      -- the letters behind are the reference's own
      pub own-fits : (p.to + (e - (p.from + p.kept)) ≤ p.to + (q.end - (p.from + p.kept))) × (p.to + (q.end - (p.from + p.kept)) ≤ length letters)
      own-fits = (omega (arith, edge-fits.1), t.inside)

      abbrev own : List ℕ
      own = take (p.to + (q.end - (p.from + p.kept)) - (p.to + (e - (p.from + p.kept)))) (drop (p.to + (e - (p.from + p.kept))) letters)

      own_is : own ≡ part e q.end T
      unfolding part carried_by
      own_is =
          let many : p.to + (q.end - (p.from + p.kept)) - (p.to + (e - (p.from + p.kept))) ≡ q.end - e = omega (arith, edge-fits.0, edge-fits.1) in
          let there : drop e (carried_by p letters new) ≡ drop (p.to + (e - (p.from + p.kept))) letters =
          carried-back (record { from = p.from; to = p.to; put = goes_in p letters new }) letters (from_in p letters new q.start e edge-touches) e (p.to + (e - (p.from + p.kept)))
          (omega (arith, edge-fits.0, put-long p letters new q.start e edge-touches)) (omega (arith, edge-fits.0, put-long p letters new q.start e edge-touches)) in
          ap₂ take many (sym there)

      module _ (n : ℕ) (coding' : List ℕ) (counted : n ≡ e - q.start) (written : coding' ≡ over (part q.start e T) coding) where
        long : length (part q.start e T) ≡ e - q.start
        long = length_part q.start e T (omega (arith, edge-fits.1, x.ends))

        pub touched-fits : n ≤ length coding'
        touched-fits = fits_over (part q.start e T) coding coding' n (counted ∙ sym long) written

        back : take n coding' ≡ part q.start e T
        back = read_back (part q.start e T) coding coding' n (counted ∙ sym long) written

        pub read_is : take n coding' ++ own ≡ read_by T q
        unfolding read_by
        read_is = ap₂ ◌++◌ back own_is ∙ part_split q.start e q.end T (omega (arith, t.before, edge-fits.0)) edge-fits.1

        reads : (bases : Bool) → bases ≡ all is_base new → (a b : ℕ) → Reads k.cds.table (k.plain && bases) (part a b T) none
        unfolding part
        reads bases told a b =
            record {
              code = x.code;
              letters = strict-letters (part a b T) (letters-part a b T x.letters-are);
              bases =
                  λ h.
                  let plain = x.plain (and_left k.plain bases h) (sym told ∙ and_right k.plain bases h) in
                  whole_bases (part a b T) (bases_fold (part a b T) (all_take is_base (b - a) (drop a T) (all_drop is_base a T plain)));
              few = omega (arith, x.bare);
            }

        pub follows : (bases : Bool) → bases ≡ all is_base new → Follows k.cds.table (k.plain && bases) (take n coding') own none out
        unfolding residue_count
        follows bases told =
            let own-long : length (part e q.end T) ≡ q.end - e = length_part e q.end T x.ends in
            rw (back, own_is)
            (record {
              reads = reads bases told q.start e;
              reads-own = reads bases told e q.end;
              bare = nothing (exception_list none) (length_exceptions none ∙ x.bare);
              whole = λ l. rw long (edge-in-by edge_in.2 (λ z. l (own-long ∙ z)));
              room = rw (long, own-long) (omega (arith, edge-fits.1, t.before, edge-fits.0, x.room_out));
            })
          where
            edge-in-by : (edge < q.end → (edge - q.start) % 3 ≡ 0) → (q.end - e ≡ 0 → ⊥) → (e - q.start) % 3 ≡ 0
            edge-in-by f l = rw is (f (more_left edge e q.end edge_in.1 is l))
