-- The pieces of an edit's plan are document 02's: A by them is A, and the codons that they read are those looked up. Assumes nothing.
use Rattle.std.specs.Prelude.{if◌then◌else◌}
use mathlib.Core.Path.{◌≡◌, refl, sym, ap, ◌∙◌}
use mathlib.Core.Bool.{Bool, true, false}
use mathlib.Core.List.{List, [], ◌++◌, append-nil}
use Prim.Native.Nat.{ℕ, ◌+◌, ◌-◌, ◌*◌, ◌/◌, ◌≤◌, ◌<◌, min}
use native.Mathlib.Omega.{arith}
use lib.Dec.{eqb, ltb}
use lib.ListN.{length, take, drop, length-drop, drop_of_length-le}
use lib.Seq.{drop-drop}
use borrow.Author.Tests.{eqb-true, eqb-false, lt-ltb, le-ltb, ltb-true, ltb-false}
use Rattle.rules.specs.declared.Cds.{Cds}
use Rattle.rules.specs.declared.Kind.{Kind}
use Rattle.rules.specs.declared.Kind.TheVariants.{Substitution, Deletion, Delins, Insertion, Duplication, Inversion, Identity, Other}
use Rattle.rules.specs.declared.Limits.{Limits}
use Rattle.rules.specs.Bytes.{byte, all, count}
use Rattle.rules.specs.Letters.{is_letter}
use Rattle.rules.specs.Translation.{translated, before_stop, through_stop, folded_translated}
use Rattle.rules.specs.Reference.{Reference, cds_size, codons, reference_protein}
use Rattle.rules.specs.Edit.{Asked, is, kind_of, start_index, end_index, fit_bases}
use Rattle.rules.specs.Altered.{part, swap_by, swap, cut_swap, altered_transcript}
use Rattle.rules.specs.Protein.{altered_protein}
use Rattle.rules.specs.Reuse.{altered_coding, codons_through_stop, looked_up}
use Rattle.rules.proofs.PieceNumbers.{keeps_all, behind_put, head_of, tail_of, back_of, is_level, middle}
use Rattle.rules.specs.Record.{is_unknown}
use Rattle.rules.specs.Refusal.{refusal}
use Rattle.rules.specs.Views.{cds_of}
use Rattle.rules.proofs.Tests.{or_left}
use Rattle.rules.proofs.Over.{tail-is}
use Rattle.rules.proofs.Translation.{length_through}
use Rattle.rules.proofs.Parts.{length_part, letters-part}
use Rattle.rules.proofs.Refusing.{reference-accepted, edit-allowed}
use Rattle.rules.proofs.Span.{indexes_of}
use Rattle.rules.proofs.Carried.{part_behind}
use Rattle.rules.proofs.Kept.{nothing, cut-span}
use Rattle.rules.proofs.Pieces.{reads-if, resumes-if, pieces-fit, length-middle, pieces-read, pieces-stopped, pieces-resumed, known_once}
use Rattle.rules.proofs.Looked.{looked-read, looked-middle, excepted_looks}
use Rattle.rules.proofs.Altered.{altered_length_lem, altered_letters}
use Rattle.walks.specs.Walks.{codons_walked}
use Rattle.places.proofs.Strict.{strict-translated}
use Rattle.edits.specs.declared.plans.Plan.{Plan}
use Rattle.edits.specs.Plans.{source_of, plan_of}
use Rattle.transcript.proofs.Transcripts.{carried_by_is}
use Rattle.record.specs.Shares.{Shares}
use Rattle.record.proofs.Shared.{shares_parts}
use Rattle.reuse.specs.declared.pieces.Pieces.{Pieces}
use Rattle.reuse.specs.Reusing.{is_identity_by, keeps_all_by, codons_by, is_level_by, pieces_by, resumed, behind_of, read_by, reused_by}
use Rattle.altseq.specs.Carried.{protein_by, looked_by}

-- a plan that puts its own range in again is an identity's
identity_by : (most : ℕ) (k : Kind) (s : List ℕ) (start end : ℕ) (new : List ℕ) → fit_bases most k new ≡ true → start < end
    → is_identity_by (source_of k) (swap_by k s start end new).from (swap_by k s start end new).to ≡ is Identity k
unfolding is_identity_by swap_by fit_bases
identity_by most Substitution s start end new f h = refl
identity_by most Deletion s start end new f h = refl
identity_by most Delins s start end new f h = refl
identity_by most Insertion s start end new f h = refl
identity_by most Duplication s start end new f h = le-ltb end end (omega arith)
identity_by most Inversion s start end new f h = refl
identity_by most Identity s start end new f h = lt-ltb start end h
identity_by most Other s start end new f h = cc

abbrev pub cds_in : Reference → Cds
cds_in r = cds_of r.cs r.ce r.table r.end

-- the pieces of an edit that isn't refused
module _ (m : Limits) (r : Reference) (a : Asked) (h : refusal m r a ≡ 0) where
  abbrev pub pieces : Pieces
  pieces = pieces_by (cds_in r) (plan_of r a) (length (reference_protein r))

  keeps-is : keeps_all_by (cds_in r) (plan_of r a) ≡ keeps_all r a
  unfolding keeps_all_by keeps_all plan_of swap cut_swap
  keeps-is =
      let x = indexes_of m.most r a (reference-accepted m r a h).bounds (edit-allowed m r a h) in
      rw (identity_by m.most (kind_of a) r.letters (start_index r a) (end_index r a) a.new (edit-allowed m r a h).bases x.rising)

  codons-is : codons_by (cds_in r) ≡ codons r
  unfolding codons cds_size
  codons-is = let first = (reference-accepted m r a h).bounds.first in let same : r.ce - (r.cs - 1) ≡ r.ce + 1 - r.cs = omega arith in rw same

  -- where the frame is kept, and where all is read
  abbrev level : Pieces
  level =
      record {
        head = head_of r a;
        start = r.cs - 1 + head_of r a * 3;
        end = r.cs - 1 + tail_of r a * 3;
        back = back_of r a;
      }

  abbrev onward : Pieces
  onward =
      record {
        head = head_of r a;
        start = r.cs - 1 + head_of r a * 3;
        end = (plan_of r a).length;
        back = length (reference_protein r);
      }

  level-is : keeps_all r a ≡ false → is_level_by (cds_in r) (plan_of r a) ≡ is_level r a
  unfolding is_level_by is_level tail_of back_of behind_put plan_of cut_swap
  level-is e = rw (e, codons-is)

  pieces-level : is_level r a ≡ true → pieces ≡ level
  unfolding pieces_by head_of tail_of back_of behind_put plan_of cut_swap
  pieces-level l = by (keeps_all r a) refl
    where
      by : (b : Bool) → keeps_all r a ≡ b → pieces ≡ level
      by true e = rw (keeps-is ∙ e, e, codons-is)
      by false e = rw (keeps-is ∙ e, level-is e ∙ l, e)

  pieces-onward : is_level r a ≡ false → pieces ≡ onward
  unfolding pieces_by head_of plan_of cut_swap is_level
  pieces-onward l =
      let e : keeps_all r a ≡ false = or_left (keeps_all r a) _ l in
      rw (keeps-is ∙ e, level-is e ∙ l, e)

  abbrev tx : List ℕ
  tx = altered_transcript r a

  abbrev R : List ℕ
  R = reference_protein r

  long : (plan_of r a).length ≡ length tx
  unfolding plan_of
  long = sym (altered_length_lem m r a h).is

  front : r.cs - 1 ≤ length tx
  front = let x = altered_length_lem m r a h in omega (arith, x.is, x.front)

  -- the letters that are read
  read-level : is_level r a ≡ true → read_by tx pieces ≡ part (head_of r a * 3) (tail_of r a * 3) (altered_coding r a)
  unfolding read_by altered_coding
  read-level l = rw (pieces-level l) (sym (part_behind (r.cs - 1) (head_of r a * 3) (tail_of r a * 3) tx))

  read-onward : is_level r a ≡ false → read_by tx pieces ≡ drop (head_of r a * 3) (altered_coding r a)
  unfolding read_by altered_coding part
  read-onward l = rw (pieces-onward l, long) (tail-is (r.cs - 1 + head_of r a * 3) tx ∙ sym (drop-drop (head_of r a * 3) (r.cs - 1) tx))

  pub read_letters : all is_letter (read_by tx pieces) ≡ true
  unfolding read_by
  read_letters = letters-part pieces.start pieces.end tx (altered_letters m r a h)

  abbrev pub read : List ℕ
  read = folded_translated r.table [] (read_by tx pieces)

  read_is : read ≡ translated r.table [] (read_by tx pieces)
  read_is = strict-translated (read_by tx pieces) read_letters r.table []

  middle-is : is_level r a ≡ true → read ≡ middle r a
  unfolding middle
  middle-is l = read_is ∙ ap (translated r.table []) (read-level l)

  rest-is : is_level r a ≡ false → read ≡ translated r.table [] (drop (head_of r a * 3) (altered_coding r a))
  rest-is l = read_is ∙ ap (translated r.table []) (read-onward l)

  -- without exceptions, where R has at most one stop
  module _ (none : r.exceptions ≡ []) (once : count (byte "*") (reference_protein r) ≤ 1) where
    resumed-none : (s : List ℕ) → resumed s [] ≡ through_stop s
    unfolding resumed
    resumed-none s = by (ltb (before_stop s) (length s))
      where
        by : (b : Bool) → (if b then through_stop s else (through_stop s ++ [])) ≡ through_stop s
        by true = refl
        by false = append-nil (through_stop s)

    ended : drop (length R) R ≡ []
    ended = drop_of_length-le R {i = length R} (omega arith)

    -- A by its pieces
    altered-level : is_level r a ≡ true → altered_protein r a ≡ take (head_of r a) R ++ resumed (middle r a) (drop (back_of r a) R)
    unfolding resumed
    altered-level l = by (ltb (before_stop (middle r a)) (length (middle r a))) refl
      where
        by : (b : Bool) → ltb (before_stop (middle r a)) (length (middle r a)) ≡ b
            → altered_protein r a ≡ take (head_of r a) R ++ (if b then through_stop (middle r a) else (through_stop (middle r a) ++ drop (back_of r a) R))
        by true e = pieces-stopped m r a h none once l (ltb-true (before_stop (middle r a)) (length (middle r a)) e)
        by false e = pieces-resumed m r a h none once l (ltb-false (before_stop (middle r a)) (length (middle r a)) e)

    pub altered-by : altered_protein r a ≡ reused_by r.table tx R pieces
    unfolding reused_by
    altered-by = by (is_level r a) refl
      where
        by : (b : Bool) → is_level r a ≡ b → altered_protein r a ≡ take pieces.head R ++ resumed read (drop pieces.back R)
        by true l = rw (middle-is l, pieces-level l) (altered-level l)
        by false l = rw (rest-is l, pieces-onward l, ended, resumed-none (translated r.table [] (drop (head_of r a * 3) (altered_coding r a)))) (pieces-read m r a h none once l)

    -- the codons that are read are those looked up
    walked-level : is_level r a ≡ true → min (length (through_stop (middle r a))) (length (part (head_of r a * 3) (tail_of r a * 3) (altered_coding r a)) / 3) ≡ length (through_stop (middle r a))
    walked-level l =
        let fit = pieces-fit m r a h none once in
        omega (arith, length_through (middle r a), length-middle m r a h none once l, length_part (head_of r a * 3) (tail_of r a * 3) (altered_coding r a) (fit.tail l))

    pub looked-by : codons_walked r.table [] (read_by tx pieces) ≡ looked_up r a
    unfolding codons_walked
    looked-by = by (is_level r a) refl
      where
        by : (b : Bool) → is_level r a ≡ b → min (length (through_stop read)) (length (read_by tx pieces) / 3) ≡ looked_up r a
        by true l = rw (middle-is l, read-level l) (walked-level l ∙ sym (looked-middle m r a h none once l))
        by false l = rw (rest-is l, read-onward l) (sym (looked-read m r a h none once l))

    -- the numbers lie within R and the altered transcript
    pub record Within : Type 0 where
      pub head : pieces.head ≤ length R
      pub rises : pieces.start ≤ pieces.end
      pub ends : pieces.end ≤ length tx
      pub back : pieces.back ≤ length R
      pub follows : pieces.head ≤ pieces.back
      pub at : pieces.start ≡ r.cs - 1 + pieces.head * 3

    coding-long : length (altered_coding r a) ≡ length tx - (r.cs - 1)
    unfolding altered_coding
    coding-long = length-drop (r.cs - 1) tx

    back_follows : is_level r a ≡ true → head_of r a ≤ back_of r a
    unfolding head_of back_of
    back_follows l = by (keeps_all r a) refl
      where
        by : (b : Bool) → keeps_all r a ≡ b → head_of r a ≤ back_of r a
        by true e = rw e (omega arith)
        by false e =
            let x = reads-if m r a h e in
            let y = resumes-if m r a h e l in
            omega (arith, x.before, y.at, y.behind, (cut-span m r a h).rising)

    pub within : Within
    within = by (is_level r a) refl
      where
        by : (b : Bool) → is_level r a ≡ b → Within
        by true l =
            let fit = pieces-fit m r a h none once in
            record {
              head = rw (pieces-level l) fit.head;
              rises = rw (pieces-level l) (omega (arith, fit.rises l));
              ends = rw (pieces-level l) (omega (arith, fit.tail l, coding-long, front));
              back = rw (pieces-level l) (fit.back l);
              follows = rw (pieces-level l) (back_follows l);
              at = rw (pieces-level l);
            }
        by false l =
            let fit = pieces-fit m r a h none once in
            record {
              head = rw (pieces-onward l) fit.head;
              rises = rw (pieces-onward l) (omega (arith, fit.coding, coding-long, front, long));
              ends = rw (pieces-onward l) (omega (arith, long));
              back = rw (pieces-onward l) (omega arith);
              follows = rw (pieces-onward l) fit.head;
              at = rw (pieces-onward l);
            }

    -- what is reused is shared
    pub shares-by : Shares pieces.head (behind_of read (drop pieces.back R)) R (reused_by r.table tx R pieces)
    unfolding reused_by resumed behind_of
    shares-by = by (ltb (before_stop read) (length read))
      where
        by : (b : Bool)
            → Shares pieces.head (if b then 0 else length (drop pieces.back R)) R (take pieces.head R ++ (if b then through_stop read else (through_stop read ++ drop pieces.back R)))
        by true =
            let z : length R - 0 ≡ length R = omega arith in
            rw (z, ended, append-nil (through_stop read)) at (shares_parts pieces.head 0 R (through_stop read) (omega (arith, within.head)))
        by false =
            let back : length R - (length R - pieces.back) ≡ pieces.back = omega (arith, within.back) in
            rw (length-drop pieces.back R) (rw back at (shares_parts pieces.head (length R - pieces.back) R (through_stop read) (omega (arith, within.back, within.follows))))

-- the protein and the count of an edit that goes
pub protein_of_lem : (r : Reference) (a : Asked) → protein_by r (plan_of r a) a.new ≡ altered_protein r a
unfolding protein_by altered_protein
protein_of_lem r a = rw (carried_by_is r a)

pub looked_is : (m : Limits) (r : Reference) (a : Asked) → refusal m r a ≡ 0 → (p : Plan) → p ≡ plan_of r a → is_unknown r a ≡ false → looked_by r p a.new ≡ looked_up r a
unfolding looked_by codons_through_stop altered_coding
looked_is m r a h p is known = rw (is, carried_by_is r a) (by (eqb (length r.exceptions) 0) refl)
  where
    by : (b : Bool) → eqb (length r.exceptions) 0 ≡ b
        → (if b then codons_walked r.table [] (read_by (altered_transcript r a) (pieces_by (cds_in r) (plan_of r a) (length (reference_protein r)))) else min (length (protein_by r (plan_of r a) a.new)) (length (drop (r.cs - 1) (altered_transcript r a)) / 3))
        ≡ looked_up r a
    by true e = looked-by m r a h (nothing r.exceptions (eqb-true (length r.exceptions) 0 e)) (known_once r a known)
    by false e = rw (protein_of_lem r a) (sym (excepted_looks r a (eqb-false (length r.exceptions) 0 e)))
