-- Laws of A where it is written: read whole with exceptions, and in pieces without. Assumes nothing.
use mathlib.Core.Path.{◌≡◌, refl, sym, ap, ◌∙◌}
use mathlib.Core.Bool.{Bool, ◌&&◌}
use mathlib.Core.List.{List, []}
use Prim.Native.Nat.{ℕ, ◌+◌, ◌-◌, ◌*◌, ◌/◌, ◌≤◌, ◌<◌, min}
use native.Mathlib.Omega.{arith}
use lib.ListN.{length, drop, length-drop}
use borrow.Author.Tests.{eq-eqb, ne_eqb}
use Rattle.rules.specs.declared.Exceptions.{Exceptions}
use Rattle.rules.specs.Bytes.{byte, all, count}
use Rattle.rules.specs.Translation.{exception_list, translated, through_stop, residue_count, folded_translated}
use Rattle.rules.specs.Reference.{Reference, size, reference_protein}
use Rattle.rules.specs.Edit.{Asked}
use Rattle.rules.specs.Altered.{part}
use Rattle.rules.specs.Exceptions.{moved_exceptions}
use Rattle.rules.specs.Protein.{protein_of, altered_protein}
use Rattle.rules.specs.Views.{asked, reference_of}
use Rattle.rules.proofs.Tests.{and_left, and_right, all_drop, all_take}
use Rattle.rules.proofs.Translation.{length_exceptions, length-translated, through_le}
use Rattle.rules.proofs.Parts.{length_part, letters-part}
use Rattle.rules.proofs.Span.{span}
use Rattle.rules.proofs.Kept.{nothing}
use Rattle.rules.proofs.Pieces.{known_once}
use Rattle.rules.proofs.Altered.{altered_length_lem, altered-fits}
use Rattle.letters.specs.Sets.{is_base}
use Rattle.walks.specs.Walks.{codons_walked}
use Rattle.places.proofs.Strict.{strict-letters, whole_bases, bases_fold}
use Rattle.reference.specs.declared.Known.{Known}
use Rattle.reference.specs.Bounds.{Bounded}
use Rattle.edits.specs.declared.plans.Plan.{Plan}
use Rattle.edits.specs.Plans.{plan_of}
use Rattle.transcript.specs.Carrying.{carried_by}
use Rattle.transcript.proofs.Transcripts.{carried_by_is}
use Rattle.record.specs.Shares.{Shares}
use Rattle.reuse.specs.declared.pieces.Pieces.{Pieces}
use Rattle.reuse.specs.Reusing.{pieces_by, Placed, behind_of, read_by, reused_by, Reuses}
use Rattle.altseq.specs.Carried.{protein_by, looked_by, Makes}
use Rattle.altseq.proofs.Reusing.{pieces, altered-by, within, shares-by, protein_of_lem}

module _ (s : List ℕ) (k : Known) (e : Exceptions) (protein : List ℕ) (p : Plan) (new t alt : List ℕ) (x : Makes s k e protein p new t alt) where
  abbrev r : Reference
  r = reference_of s k.cds e

  abbrev a : Asked
  a = asked x.edit new

  carried-is : carried_by p s new ≡ t
  carried-is = rw x.is (carried_by_is r a ∙ sym x.made)

  pub protein-made : protein_of r t ≡ protein_by r p new
  unfolding protein_by
  protein-made = ap (protein_of r) (sym carried-is)

  -- with exceptions every whole codon through the first stop is looked up
  pub looked-all : (e.count ≡ 0 → ⊥) → (n : ℕ) → n ≡ min (length (protein_of r t)) (length (drop (k.cds.cs - 1) t) / 3) → n ≡ looked_by r p new
  unfolding looked_by
  looked-all some n is =
      let other = ne_eqb (length (exception_list e)) 0 (λ z. some (sym (length_exceptions e) ∙ z)) in
      rw (other, carried-is, ← protein-made) is

  -- the plan's places
  pub bounded : Bounded k.cds
  bounded =
      let b = x.codes.sound.bounds in
      record { first = b.first; ordered = b.rising; small = omega (arith, b.inside, x.codes.sound.short) }

  long : p.length ≡ length t
  unfolding plan_of
  long = ap (λ (p : Plan). p.length) x.is ∙ sym (ap length x.made ∙ (altered_length_lem x.limits r a x.allowed).is)

  short : length t < 4294967296
  short = omega (arith, ap length x.made, (altered_length_lem x.limits r a x.allowed).is, altered-fits x.limits r a x.allowed, x.known.small)

  pub placed : Placed k.cds p
  unfolding plan_of size
  placed =
      let w = span x.limits r a x.allowed in
      let n = altered_length_lem x.limits r a x.allowed in
      let from = ap (λ (p : Plan). p.from) x.is in
      let to = ap (λ (p : Plan). p.to) x.is in
      let kept-is = ap (λ (p : Plan). p.kept) x.is in
      record {
        front = omega (arith, from, w.front);
        rising = omega (arith, from, to, w.rising);
        small = omega (arith, to, w.ends, x.codes.sound.short);
        put_small = omega (arith, kept-is, n.parts, n.is, ap length x.made, short);
      }

  protein-through : protein_of r t ≡ through_stop (translated k.cds.table (moved_exceptions r t) (drop (k.cds.cs - 1) t))
  unfolding protein_of
  protein-through = refl

  -- A has at most a residue for each codon, and one for a rest
  protein-short : length (protein_by r p new) ≤ residue_count (length t - (k.cds.cs - 1))
  protein-short =
      let u = translated k.cds.table (moved_exceptions r t) (drop (k.cds.cs - 1) t) in
      omega (arith, ap length (sym protein-made ∙ protein-through), through_le u, length-translated k.cds.table (moved_exceptions r t) (drop (k.cds.cs - 1) t), ap residue_count (length-drop (k.cds.cs - 1) t))

  -- without exceptions
  module _ (none : e.count ≡ 0) (q : Pieces) (is : q ≡ pieces_by k.cds p (length protein)) where
    no-exception : exception_list e ≡ []
    no-exception = nothing (exception_list e) (length_exceptions e ∙ none)

    once : count (byte "*") (reference_protein r) ≤ 1
    once = known_once r a x.changes

    q-is : q ≡ pieces x.limits r a x.allowed
    q-is = is ∙ rw (x.is, x.known.read)

    -- A by its pieces
    pub reused-is : reused_by k.cds.table t protein q ≡ protein_by r p new
    reused-is =
        let made : altered_protein r a ≡ protein_by r p new = rw x.is (sym (protein_of_lem r a)) in
        rw (q-is, x.made, x.known.read) (sym (altered-by x.limits r a x.allowed no-exception once) ∙ made)

    pub looked-some : (n : ℕ) → n ≡ codons_walked k.cds.table [] (read_by t q) → n ≡ looked_by r p new
    unfolding looked_by
    looked-some n counted =
        let told : n ≡ codons_walked k.cds.table [] (read_by t (pieces_by k.cds p (length (reference_protein r)))) = counted ∙ ap (λ (q : Pieces). codons_walked k.cds.table [] (read_by t q)) (is ∙ ap (λ (l : List ℕ). pieces_by k.cds p (length l)) x.known.read) in
        rw (eq-eqb (length (exception_list e)) 0 (length_exceptions e ∙ none), carried-is) told

    pub shares-some : (n : ℕ) → n ≡ behind_of (folded_translated k.cds.table [] (read_by t q)) (drop q.back protein) → Shares q.head n protein (protein_by r p new)
    shares-some n counted = rw (counted, ← reused-is, q-is, x.made, x.known.read) (shares-by x.limits r a x.allowed no-exception once)

    read_short : residue_count (length (read_by t q)) ≤ length (drop q.head alt)
    unfolding read_by residue_count
    read_short =
        let inside = within x.limits r a x.allowed no-exception once in
        let at : q.start ≡ k.cds.cs - 1 + q.head * 3 = rw q-is inside.at in
        let rises : q.start ≤ q.end = rw q-is inside.rises in
        let ends : q.end ≤ length t = rw (q-is, x.made) inside.ends in
        rw (length-drop q.head alt, length_part q.start q.end t ends) (omega (arith, at, rises, ends, x.codes.room, x.codes.sound.bounds.first))

    pub reuses : (bases : Bool) → bases ≡ all is_base new → Reuses k.cds.table (k.plain && bases) t e protein q alt
    unfolding read_by part residue_count
    reuses bases told =
        let inside = within x.limits r a x.allowed no-exception once in
        record {
          head = rw (q-is, x.known.read) inside.head;
          rises = rw q-is inside.rises;
          ends = rw (q-is, x.made) inside.ends;
          back = rw (q-is, x.known.read) inside.back;
          walks =
              record {
                reads =
                    record {
                      code = x.codes.sound.table;
                      letters = strict-letters (read_by t q) (letters-part q.start q.end t x.codes.letters);
                      bases =
                          λ h.
                          let plain = x.codes.plain (and_left k.plain bases h) (sym told ∙ and_right k.plain bases h) in
                          whole_bases (read_by t q) (bases_fold (read_by t q) (all_take is_base (q.end - q.start) (drop q.start t) (all_drop is_base q.start t plain)));
                      few = omega arith;
                    };
                room = read_short;
              };
          bare = no-exception;
          room = rw reused-is (omega (arith, protein-short, x.codes.room, x.codes.sound.bounds.first));
          short = rw reused-is (omega (arith, protein-short, short));
        }
