-- A reference without exceptions: what R has before and behind a codon, and what an edit leaves to be read.
-- Assumes nothing.
use mathlib.Core.Path.{◌≡◌, refl, sym, ap, ◌∙◌}
use mathlib.Core.Bool.{Bool, true, false, ◌&&◌, ◌||◌}
use mathlib.Core.List.{List, [], ◌∷◌, ◌++◌}
use Prim.Native.Nat.{ℕ, ◌+◌, ◌-◌, ◌*◌, ◌≤◌, ◌<◌}
use native.Mathlib.Omega.{arith}
use lib.Dec.{eqb}
use lib.ListN.{length, get_or, take, drop, length-drop}
use lib.Seq.{length-take-le, take-take, drop_at, get_or-take}
use borrow.Author.Tests.{eqb-true}
use Rattle.rules.specs.declared.Exception.{Exception}
use Rattle.rules.specs.declared.Kind.{Kind}
use Rattle.rules.specs.declared.Kind.TheVariants.{Substitution, Deletion, Delins, Insertion, Duplication, Inversion, Identity, Other}
use Rattle.rules.specs.Bytes.{byte, count}
use Rattle.rules.specs.Translation.{translated, residue_count, before_stop, through_stop}
use Rattle.rules.specs.Reference.{Reference, at_stop, is_short_end, size, cds_size, cds, codons, reference_protein, is_cut_short}
use Rattle.rules.specs.Edit.{Asked, is, kind_of}
use Rattle.rules.specs.Altered.{cut_swap, altered_transcript}
use Rattle.rules.specs.Exceptions.{moved_all, moved_exceptions}
use Rattle.rules.specs.Protein.{protein_of, altered_protein}
use Rattle.rules.specs.Reuse.{altered_coding}
use Rattle.rules.specs.declared.Limits.{Limits}
use Rattle.rules.specs.Refusal.{refusal, reference_refusal}
use Rattle.rules.proofs.Tests.{and_left, and_right}
use Rattle.rules.proofs.Plain.{plain-split, plain-take, through_goes, none_stops}
use Rattle.rules.proofs.Reference.{Bounds, accepted, whole-codons, protein_read}
use Rattle.rules.proofs.Span.{Span, span}
use Rattle.rules.proofs.Altered.{length-carried, identity_stays}
use Rattle.rules.proofs.Silent.{one_stop, stopless, own-protein}

-- without exceptions none are moved
none-moved : (r : Reference) (new : List ℕ) → r.exceptions ≡ [] → moved_exceptions r new ≡ []
unfolding moved_exceptions moved_all
none-moved r new h = rw h

pub read_plain : (r : Reference) (e : Asked) → r.exceptions ≡ [] → altered_protein r e ≡ through_stop (translated r.table [] (altered_coding r e))
unfolding altered_protein protein_of altered_coding
read_plain r e none = rw (none-moved r (altered_transcript r e) none)

pub identity_only : (k : Kind) → is Identity k ≡ true → k ≡ Identity
identity_only Substitution h = let z : ◌≡◌ {A = ℕ} 0 1 = cc in absurd (omega arith)
identity_only Deletion h = let z : ◌≡◌ {A = ℕ} 0 1 = cc in absurd (omega arith)
identity_only Delins h = let z : ◌≡◌ {A = ℕ} 0 1 = cc in absurd (omega arith)
identity_only Insertion h = let z : ◌≡◌ {A = ℕ} 0 1 = cc in absurd (omega arith)
identity_only Duplication h = let z : ◌≡◌ {A = ℕ} 0 1 = cc in absurd (omega arith)
identity_only Inversion h = let z : ◌≡◌ {A = ℕ} 0 1 = cc in absurd (omega arith)
identity_only Identity h = refl
identity_only Other h = let z : ◌≡◌ {A = ℕ} 0 1 = cc in absurd (omega arith)

pub nothing : {A : Type 0} (xs : List A) → length xs ≡ 0 → xs ≡ []
nothing [] h = refl
nothing (x ∷ xs) h = absurd (omega arith)

pub or_cases : (a b : Bool) (P : Type 0) → (a || b) ≡ true → (a ≡ true → P) → (b ≡ true → P) → P
or_cases true b P h f g = f refl
or_cases false b P h f g = g h

-- a CDS cut short ends with the transcript
pub cut_ends : (longest : ℕ) (r : Reference) → reference_refusal longest r ≡ 0 → eqb r.end at_stop ≡ false → r.ce ≡ size r
unfolding is_cut_short
cut_ends longest r h e =
    let known = is_short_end r.end in
    let whole = eqb r.ce (size r) in
    eqb-true r.ce (size r) (and_right known whole (and_left (known && whole) _ ((accepted longest r h).cut e)))

-- of an edit that isn't refused: where the swap after the cut lies, and how much there is to read
module _ (m : Limits) (r : Reference) (e : Asked) (h : refusal m r e ≡ 0) where
  pub cut-span : Span (r.cs - 1) (size r) (cut_swap r e)
  unfolding cut_swap
  cut-span = let s = span m r e h in record { front = s.front; rising = s.rising; ends = s.ends }

  pub length-coding : length (altered_coding r e) ≡ (cut_swap r e).from + (length (cut_swap r e).put + (size r - (cut_swap r e).to)) - (r.cs - 1)
  unfolding altered_coding altered_transcript size
  length-coding =
      let v = cut-span in
      length-drop (r.cs - 1) (altered_transcript r e) ∙ ap (λ (n : ℕ). n - (r.cs - 1)) (length-carried (cut_swap r e) r.letters v.rising v.ends)

  pub identity-coding : is Identity (kind_of e) ≡ true → altered_coding r e ≡ drop (r.cs - 1) r.letters
  unfolding altered_coding
  identity-coding i = ap (drop (r.cs - 1)) (identity_stays m r e h (identity_only (kind_of e) i))

-- R has as many residues as the CDS has whole codons, or one more
pub record CodonsFit (r : Reference) : Type 0 where
  pub residues : codons r ≤ length (reference_protein r)
  pub inside : codons r * 3 ≤ cds_size r
  pub long : cds_size r ≤ length (drop (r.cs - 1) r.letters)
  pub whole : r.end ≡ at_stop → length (reference_protein r) ≡ codons r

-- of a reference without exceptions whose R has at most one stop
module _ (longest : ℕ) (r : Reference) (accepts : reference_refusal longest r ≡ 0) (none : r.exceptions ≡ []) (once : count (byte "*") (reference_protein r) ≤ 1) where
  abbrev R : List ℕ
  R = reference_protein r

  abbrev own : List ℕ
  own = drop (r.cs - 1) r.letters

  bounds : Bounds r
  bounds = (accepted longest r accepts).bounds

  pub codons-fit : CodonsFit r
  unfolding codons residue_count cds_size size
  codons-fit =
      let p = (protein_read longest r accepts).counted in
      let b = bounds in
      record {
        residues = omega (arith, p);
        inside = omega arith;
        long = omega (arith, length-drop (r.cs - 1) r.letters, b.first, b.rising, b.inside);
        whole = λ k. omega (arith, p, whole-codons r b k);
      }

  -- the beginning of R, codon by codon
  pub head-kept : (k : ℕ) → k ≤ codons r → take k R ≡ translated r.table [] (take (k * 3) own)
  unfolding reference_protein cds
  head-kept k l =
      let f = codons-fit in
      let long : length (take (cds_size r) own) ≡ cds_size r = length-take-le (cds_size r) own f.long in
      ap (λ (es : List Exception). take k (translated r.table es (take (cds_size r) own))) none
      ∙ plain-take r.table (take (cds_size r) own) k (omega (arith, f.inside))
      ∙ ap (translated r.table []) (take-take (k * 3) (cds_size r) own (omega (arith, f.inside)))

  -- has no stop before the last residue
  pub head-stopless : (k : ℕ) → k ≤ length R → (r.end ≡ at_stop → k < length R) → length (take k R) ≤ before_stop (take k R)
  head-stopless k l d = none_stops (take k R) (λ j i z. by j i (eqb r.end at_stop) refl z)
    where
      by : (j : ℕ) → j < length (take k R) → (b : Bool) → eqb r.end at_stop ≡ b → get_or (take k R) j 0 ≡ byte "*" → ⊥
      by j i true q z =
          let long : length (take k R) ≡ k = length-take-le k R l in
          stopless longest r accepts once j (omega (arith, d (eqb-true r.end at_stop q))) (sym (get_or-take k R j 0 (omega arith)) ∙ z)
      by j i false q z =
          let long : length (take k R) ≡ k = length-take-le k R l in
          omega (arith, one_stop R j (omega arith) (sym (get_or-take k R j 0 (omega arith)) ∙ z), (protein_read longest r accepts).none q)

  pub own-plain : through_stop (translated r.table [] own) ≡ R
  own-plain = ap (λ (es : List Exception). through_stop (translated r.table es own)) (sym none) ∙ own-protein longest r accepts once

  -- the end of R is what is read from there on
  pub back-kept : (k : ℕ) → k < codons r → through_stop (translated r.table [] (drop (k * 3) own)) ≡ drop k R
  back-kept k l =
      let f = codons-fit in
      let T = translated r.table [] (drop (k * 3) own) in
      let whole : R ≡ take k R ++ through_stop T =
      sym own-plain
      ∙ ap through_stop (plain-split r.table own k (omega (arith, f.inside, f.long)) ∙ ap (λ (l : List ℕ). l ++ T) (sym (head-kept k (omega arith))))
      ∙ through_goes (take k R) T (head-stopless k (omega (arith, f.residues)) (λ q. omega (arith, f.residues))) in
      sym (ap (drop k) whole ∙ drop_at (take k R) (through_stop T) k (length-take-le k R (omega (arith, f.residues))))
