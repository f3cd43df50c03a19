-- Laws of what is decided of an edit whose record is checked.
-- Assumes nothing.
use Rattle.std.specs.Prelude.{if◌then◌else◌}
use mathlib.Core.Path.{◌≡◌, refl, sym, ap, ◌∙◌}
use mathlib.Core.Bool.{Bool, true, false, not}
use mathlib.Core.List.{List, [], ◌∷◌}
use Prim.Native.Nat.{ℕ, ◌-◌, ◌≤◌, ◌<◌}
use native.Mathlib.Omega.{arith}
use lib.Dec.{eqb, ltb}
use lib.ListN.{length, drop, length-drop, drop_of_length-le}
use borrow.Author.Tests.{ltb-false}
use Rattle.rules.specs.declared.Exception.{Exception}
use Rattle.rules.specs.declared.Exceptions.{Exceptions}
use Rattle.rules.specs.Bytes.{byte, is_none, same, count}
use Rattle.rules.specs.Codons.{residue_x, codon}
use Rattle.rules.specs.Translation.{exception_list, excepted, residues_from, translated, through_stop}
use Rattle.rules.specs.Trims.{common_prefix}
use Rattle.rules.specs.Reference.{Reference, reference_protein}
use Rattle.rules.specs.Edit.{Asked, ends_past}
use Rattle.rules.specs.Altered.{altered_transcript}
use Rattle.rules.specs.Exceptions.{moved_all, moved_exceptions}
use Rattle.rules.specs.Protein.{protein_of}
use Rattle.rules.specs.Record.{is_unknown}
use Rattle.rules.specs.Refusal.{limits}
use Rattle.rules.specs.Check.{is_changed}
use Rattle.rules.specs.Views.{bare, asked, reference_of}
use Rattle.rules.proofs.Tests.{or_left}
use Rattle.rules.proofs.Altered.{altered_length_lem}
use Rattle.rules.proofs.Refusing.{reference-accepted}
use Rattle.rules.proofs.Span.{span}
use Rattle.reference.specs.declared.Known.{Known}
use Rattle.reference.proofs.Checking.{sound}
use Rattle.edits.specs.declared.plans.Plan.{Plan}
use Rattle.edits.specs.Plans.{plan_of}
use Rattle.edits.proofs.Planning.{planned}
use Rattle.exceptions.specs.Moving.{Given}
use Rattle.exceptions.proofs.Moving.{given-of, moved_is}
use Rattle.transcript.specs.Carrying.{carried_by}
use Rattle.transcript.proofs.Transcripts.{carried_by_is}
use Rattle.altered.specs.Over.{Makes}
use Rattle.altered.proofs.Letters.{makes_of}
use Rattle.silent.specs.Comparing.{coding_by, protein_with, Compares}
use Rattle.altseq.specs.Carried.{protein_by}
use Rattle.altseq.proofs.Answering.{allowed-is}
use Rattle.checks.specs.Changing.{Changes}

through_some : (x : ℕ) (xs : List ℕ) → is_none (through_stop (x ∷ xs)) ≡ false
unfolding through_stop
through_some x xs = by (eqb x (byte "*"))
  where
    by : (z : Bool) → is_none (if z then x ∷ [] else (x ∷ through_stop xs)) ≡ false
    by true = refl
    by false = refl

-- a base makes a residue
some_residue : (t : ℕ) (es : List Exception) (u : List ℕ) → 1 ≤ length u → is_none (through_stop (translated t es u)) ≡ false
unfolding translated residues_from
some_residue t es [] h = absurd (omega arith)
some_residue t es (a ∷ []) h = through_some residue_x []
some_residue t es (a ∷ b ∷ []) h = through_some residue_x []
some_residue t es (a ∷ b ∷ c ∷ u) h = through_some (excepted es 1 (codon t a b c)) (residues_from t es 2 u)

no_residue : (t : ℕ) (es : List Exception) → through_stop (translated t es []) ≡ []
unfolding translated residues_from through_stop
no_residue t es = refl

module _ (s : List ℕ) (k : Known) (e : Exceptions) (protein : List ℕ) (p : Plan) (new : List ℕ) (x : Changes s k e protein p new) where
  abbrev r : Reference
  r = reference_of s k.cds e

  abbrev a : Asked
  a = asked x.edit new

  abbrev first : ℕ
  first = k.cds.cs - 1

  carried-is : carried_by p s new ≡ altered_transcript r a
  carried-is = rw x.is (carried_by_is r a)

  long : p.length ≡ length (carried_by p s new)
  unfolding plan_of
  long = ap (λ (p : Plan). p.length) x.is ∙ sym (ap length carried-is ∙ (altered_length_lem limits r a x.allowed).is)

  pub first_some : 1 ≤ k.cds.cs
  first_some = (reference-accepted limits r a x.allowed).bounds.first

  pub front : first ≤ p.from
  unfolding plan_of
  front = omega (arith, ap (λ (p : Plan). p.from) x.is, (span limits r a x.allowed).front)

  pub makes : Makes p s new
  makes =
      let tests = sym (allowed-is limits s k e protein x.known a) ∙ x.allowed in
      let letters = (planned (bare s k.cds) (sound limits s k e protein x.known) limits.most a (omega arith) tests).letters in
      rw x.is (makes_of limits r a x.allowed (omega arith) letters)

  pub given : Given first s e
  given = given-of limits r a x.allowed e refl

  once : count (byte "*") protein ≤ 1
  unfolding is_unknown
  once = rw x.known.read (ltb-false 1 (count (byte "*") (reference_protein r)) (or_left (ltb 1 (count (byte "*") (reference_protein r))) (ends_past r a) x.told))

  module _ (moved : Exceptions) (few : moved.count ≤ 16)
      (is : exception_list moved ≡ moved_all (common_prefix s (carried_by p s new)) first s (carried_by p s new) (exception_list e)) where
    pub compares : Compares s k.cds e moved protein p new
    compares =
        record {
          makes = makes;
          longest = limits.longest;
          accepted = x.known.accepted;
          read = x.known.read;
          once = once;
          front = front;
          long = long;
          few = few;
          moves = is;
        }

    protein-is : protein_by r p new ≡ protein_with k.cds moved p s new
    unfolding protein_by protein_of protein_with coding_by
    protein-is = rw (← moved_is r (carried_by p s new) first (exception_list e) (exception_list moved) refl refl is)

    -- where A isn't empty
    pub changed-some : (kept : Bool) → kept ≡ same protein (protein_with k.cds moved p s new) → first < p.length → not kept ≡ is_changed protein (protein_by r p new)
    unfolding is_changed protein_with coding_by
    changed-some kept q h =
        let u = drop first (carried_by p s new) in
        let some : is_none (through_stop (translated k.cds.table (exception_list moved) u)) ≡ false =
        some_residue k.cds.table (exception_list moved) u (omega (arith, length-drop first (carried_by p s new), long)) in
        rw (protein-is, some, q)

  pub changed-none : p.length ≤ first → false ≡ is_changed protein (protein_by r p new)
  unfolding is_changed protein_by protein_of
  changed-none h =
      let none : drop first (carried_by p s new) ≡ [] = drop_of_length-le (carried_by p s new) {i = first} (omega (arith, long)) in
      rw (none, no_residue k.cds.table (moved_exceptions r (carried_by p s new)))
