-- The altered protein in pieces, without exceptions: residues of R before the edit, residues that are read, residues of R behind it.
-- Assumes nothing.
use mathlib.Core.Path.{◌≡◌, refl, sym, ap, ◌∙◌}
use mathlib.Core.Bool.{Bool, true, false, ◌&&◌}
use mathlib.Core.List.{List, [], ◌++◌, append_assoc}
use Prim.Native.Nat.{ℕ, ◌+◌, ◌-◌, ◌*◌, ◌/◌, ◌%◌, ◌≤◌, ◌<◌}
use native.Mathlib.Decide.{dec_lt}
use native.Mathlib.Omega.{arith}
use lib.Dec.{eqb, leb, ltb}
use lib.ListN.{length, take, drop, length-append, take-append-drop}
use lib.Seq.{length-take-le, take_all, drop-drop, drop_at}
use borrow.Author.Tests.{eqb-true, eqb-false, leb-true, leb-false, ltb-true, ltb-false}
use Rattle.rules.specs.declared.Kind.TheVariants.{Identity}
use Rattle.rules.specs.Bytes.{byte, count}
use Rattle.rules.specs.Translation.{translated, residue_count, before_stop, through_stop}
use Rattle.rules.specs.Trims.{common_prefix}
use Rattle.rules.specs.Reference.{Reference, at_stop, size, cds_size, codons, reference_protein}
use Rattle.rules.specs.Edit.{Asked, is, kind_of}
use Rattle.rules.specs.Altered.{part, cut_swap, altered_transcript}
use Rattle.rules.specs.Protein.{altered_protein}
use Rattle.rules.specs.Reuse.{altered_coding}
use Rattle.rules.specs.Record.{is_unknown}
use Rattle.rules.proofs.PieceNumbers.{keeps_all, behind_put, head_of, tail_of, back_of, is_level, middle}
use Rattle.rules.specs.declared.Limits.{Limits}
use Rattle.rules.specs.Refusal.{refusal, reference_refusal}
use Rattle.rules.proofs.Tests.{and_left, and_right, or_left, or_right, and_implies}
use Rattle.rules.proofs.Trims.{cp_append}
use Rattle.rules.proofs.Translation.{length-translated}
use Rattle.rules.proofs.Plain.{plain-append, plain-split, through_stopped, through_goes, through_all}
use Rattle.rules.proofs.Parts.{length_part}
use Rattle.rules.proofs.Reference.{Bounds, whole-codons, protein_read}
use Rattle.rules.proofs.Refusing.{none-refused, reference-accepted}
use Rattle.rules.proofs.Span.{Span}
use Rattle.rules.proofs.Silent.{through_last}
use Rattle.rules.proofs.Carried.{carried-front, carried-back, carried_from, carried-part, part_behind}
use Rattle.rules.proofs.Kept.{read_plain, nothing, or_cases, cut_ends, cut-span, length-coding, identity-coding, CodonsFit, codons-fit, head-kept, head-stopless, own-plain, back-kept}

-- an edit that reads: its codons before the edit are R's, and the stop isn't reached there
pub record Reads (r : Reference) (e : Asked) : Type 0 where
  pub other : is Identity (kind_of e) ≡ false
  pub head-is : head_of r e ≡ ((cut_swap r e).from - (r.cs - 1)) / 3
  pub tail-is : tail_of r e ≡ ((cut_swap r e).from + length (cut_swap r e).put - (r.cs - 1) + 2) / 3
  pub back_is : back_of r e ≡ (tail_of r e * 3 + (cut_swap r e).to - ((cut_swap r e).from + length (cut_swap r e).put)) / 3
  pub before : r.cs - 1 + head_of r e * 3 ≤ (cut_swap r e).from
  pub few : head_of r e ≤ codons r
  pub short : r.end ≡ at_stop → head_of r e < codons r

-- R goes on behind it: codon `tail` of the altered transcript is codon `back` of the CDS
pub record Resumes (r : Reference) (e : Asked) : Type 0 where
  pub rises : head_of r e ≤ tail_of r e
  pub behind : (cut_swap r e).from + length (cut_swap r e).put ≤ r.cs - 1 + tail_of r e * 3
  pub at : r.cs - 1 + tail_of r e * 3 + (cut_swap r e).to ≡ r.cs - 1 + back_of r e * 3 + ((cut_swap r e).from + length (cut_swap r e).put)
  pub left : back_of r e < codons r
  pub frame : ((cut_swap r e).from + length (cut_swap r e).put) % 3 ≡ (cut_swap r e).to % 3

-- the numbers of the pieces lie within R and what is read
pub record PiecesFit (r : Reference) (e : Asked) : Type 0 where
  pub head : head_of r e ≤ length (reference_protein r)
  pub coding : head_of r e * 3 ≤ length (altered_coding r e)
  pub rises : is_level r e ≡ true → head_of r e ≤ tail_of r e
  pub tail : is_level r e ≡ true → tail_of r e * 3 ≤ length (altered_coding r e)
  pub back : is_level r e ≡ true → back_of r e ≤ length (reference_protein r)

-- the arithmetic of the first codon behind the edit
resumes_at : (first from p to b : ℕ) → first ≤ from → from ≤ to → b ≡ (from + p - first + 2) / 3 → (from + p) % 3 ≡ to % 3
    → (from + p ≤ first + b * 3) × (first + b * 3 + to ≡ first + (b * 3 + to - (from + p)) / 3 * 3 + (from + p))
resumes_at first from p to b h k q l = (omega arith, omega arith)

module _ (m : Limits) (r : Reference) (e : Asked) (h : refusal m r e ≡ 0) where
  pub reads-if : keeps_all r e ≡ false → Reads r e
  unfolding keeps_all head_of tail_of back_of behind_put codons cds_size
  reads-if q =
      record {
        other = or_left (is Identity (kind_of e)) (stop && past) q;
        head-is = head-is;
        tail-is = rw q;
        back_is = rw q;
        before = omega (arith, head-is, v.front);
        few = (ahead stop refl).0;
        short = (ahead stop refl).1;
      }
    where
      stop : Bool
      stop = eqb r.end at_stop

      past : Bool
      past = leb r.ce (cut_swap r e).from

      v : Span (r.cs - 1) (size r) (cut_swap r e)
      v = cut-span m r e h

      b : Bounds r
      b = (reference-accepted m r e h).bounds

      head-is : head_of r e ≡ ((cut_swap r e).from - (r.cs - 1)) / 3
      head-is = rw q

      ahead : (k : Bool) → stop ≡ k → (head_of r e ≤ codons r) × (r.end ≡ at_stop → head_of r e < codons r)
      ahead true k =
          let less : (cut_swap r e).from < r.ce = leb-false r.ce (cut_swap r e).from (and_implies stop past (or_right (is Identity (kind_of e)) (stop && past) q) k) in
          let whole = whole-codons r b (eqb-true r.end at_stop k) in
          (omega (arith, head-is, v.front), λ z. omega (arith, head-is, v.front, b.first))
      ahead false k =
          let last = cut_ends m.longest r (none-refused m r e h).0 k in
          (omega (arith, head-is, v.front, v.rising, v.ends), λ z. absurd (eqb-false r.end at_stop k z))

  pub resumes-if : keeps_all r e ≡ false → is_level r e ≡ true → Resumes r e
  unfolding is_level behind_put
  resumes-if q l =
      let v = cut-span m r e h in
      let x = reads-if q in
      let frame = eqb (((cut_swap r e).from + length (cut_swap r e).put) % 3) ((cut_swap r e).to % 3) in
      let left = ltb (back_of r e) (codons r) in
      let both : (frame && left) ≡ true = sym (rw q refl) ∙ l in
      let even : ((cut_swap r e).from + length (cut_swap r e).put) % 3 ≡ (cut_swap r e).to % 3 = eqb-true _ _ (and_left frame left both) in
      let at = resumes_at (r.cs - 1) (cut_swap r e).from (length (cut_swap r e).put) (cut_swap r e).to (tail_of r e) v.front v.rising x.tail-is even in
      record {
        rises = omega (arith, x.head-is, x.tail-is, v.front);
        behind = at.0;
        at = at.1 ∙ ap (λ (n : ℕ). r.cs - 1 + n * 3 + ((cut_swap r e).from + length (cut_swap r e).put)) (sym x.back_is);
        left = ltb-true (back_of r e) (codons r) (and_right frame left both);
        frame = even;
      }

module _ (m : Limits) (r : Reference) (e : Asked) (h : refusal m r e ≡ 0) (none : r.exceptions ≡ []) (once : count (byte "*") (reference_protein r) ≤ 1) where
  accepts : reference_refusal m.longest r ≡ 0
  accepts = (none-refused m r e h).0

  fit : CodonsFit r
  fit = codons-fit m.longest r accepts none once

  inside : (cut_swap r e).from ≤ size r
  inside = let v = cut-span m r e h in omega (arith, v.rising, v.ends)

  -- k codons before the edit are R's
  front_kept : (k : ℕ) → k ≤ codons r → r.cs - 1 + k * 3 ≤ (cut_swap r e).from
      → translated r.table [] (altered_coding r e) ≡ take k (reference_protein r) ++ translated r.table [] (drop (k * 3) (altered_coding r e))
  unfolding altered_coding altered_transcript size
  front_kept k l before =
      let u = altered_coding r e in
      let same : take (k * 3) u ≡ take (k * 3) (drop (r.cs - 1) r.letters) = carried-front (cut_swap r e) r.letters inside (r.cs - 1) (k * 3) before in
      plain-split r.table u k (omega (arith, length-coding m r e h))
      ∙ ap (λ (l : List ℕ). l ++ translated r.table [] (drop (k * 3) u)) (ap (translated r.table []) same ∙ sym (head-kept m.longest r accepts none once k l))

  -- those before the edit are R's, all behind is read
  read_behind : keeps_all r e ≡ false → altered_protein r e ≡ take (head_of r e) (reference_protein r) ++ through_stop (translated r.table [] (drop (head_of r e * 3) (altered_coding r e)))
  read_behind q =
      let x = reads-if m r e h q in
      read_plain r e none
      ∙ ap through_stop (front_kept (head_of r e) x.few x.before)
      ∙ through_goes (take (head_of r e) (reference_protein r)) _
      (head-stopless m.longest r accepts none once (head_of r e) (omega (arith, x.few, fit.residues)) (λ z. omega (arith, x.short z, fit.residues)))

  -- an edit that reads no codon leaves R
  identity-kept : is Identity (kind_of e) ≡ true → altered_protein r e ≡ reference_protein r
  identity-kept i =
      read_plain r e none
      ∙ ap (λ (s : List ℕ). through_stop (translated r.table [] s)) (identity-coding m r e h i)
      ∙ own-plain m.longest r accepts none once

  behind-kept : r.end ≡ at_stop → r.ce ≤ (cut_swap r e).from → altered_protein r e ≡ reference_protein r
  unfolding codons cds_size
  behind-kept z l =
      let R = reference_protein r in
      let p = protein_read m.longest r accepts in
      let b = (reference-accepted m r e h).bounds in
      let all : take (codons r) R ≡ R = take_all (codons r) R (omega (arith, fit.whole z)) in
      read_plain r e none
      ∙ ap through_stop (front_kept (codons r) (omega arith) (omega (arith, b.first, b.rising)) ∙ ap (λ (l : List ℕ). l ++ translated r.table [] (drop (codons r * 3) (altered_coding r e))) all)
      ∙ through_last R _ (omega (arith, p.two)) (p.last z) once

  pub all-kept : keeps_all r e ≡ true → altered_protein r e ≡ reference_protein r
  unfolding keeps_all
  all-kept q =
      let stop = eqb r.end at_stop in
      let past = leb r.ce (cut_swap r e).from in
      or_cases (is Identity (kind_of e)) (stop && past) (altered_protein r e ≡ reference_protein r) q identity-kept
      (λ k. behind-kept (eqb-true r.end at_stop (and_left stop past k)) (leb-true r.ce (cut_swap r e).from (and_right stop past k)))

  pub pieces-fit : PiecesFit r e
  unfolding keeps_all head_of tail_of back_of is_level codons cds_size
  pieces-fit = by (keeps_all r e) refl
    where
      v : Span (r.cs - 1) (size r) (cut_swap r e)
      v = cut-span m r e h

      b : Bounds r
      b = (reference-accepted m r e h).bounds

      all-fits : keeps_all r e ≡ true → codons r * 3 ≤ length (altered_coding r e)
      all-fits q =
          let stop = eqb r.end at_stop in
          let past = leb r.ce (cut_swap r e).from in
          or_cases (is Identity (kind_of e)) (stop && past) (codons r * 3 ≤ length (altered_coding r e)) q
          (λ i. omega (arith, ap (λ (s : List ℕ). length s) (identity-coding m r e h i), fit.inside, fit.long))
          (λ k. omega (arith, leb-true r.ce (cut_swap r e).from (and_right stop past k), length-coding m r e h, b.first))

      by : (q : Bool) → keeps_all r e ≡ q → PiecesFit r e
      by true q = record { head = rw q fit.residues; coding = rw q (all-fits q); rises = λ l. rw q (omega arith); tail = λ l. rw q (all-fits q); back = λ l. rw q fit.residues }
      by false q =
          let x = reads-if m r e h q in
          record {
            head = omega (arith, x.few, fit.residues);
            coding = omega (arith, x.before, length-coding m r e h);
            rises = λ l. (resumes-if m r e h q l).rises;
            tail = λ l. let y = resumes-if m r e h q l in omega (arith, y.at, y.left, length-coding m r e h, b.first, b.rising, b.inside, v.ends);
            back = λ l. omega (arith, (resumes-if m r e h q l).left, fit.residues);
          }

  pub length-middle : is_level r e ≡ true → length (middle r e) ≡ tail_of r e - head_of r e
  unfolding middle residue_count
  length-middle l =
      let x = pieces-fit in
      length-translated r.table [] (part (head_of r e * 3) (tail_of r e * 3) (altered_coding r e))
      ∙ omega (arith, length_part (head_of r e * 3) (tail_of r e * 3) (altered_coding r e) (x.tail l))

  -- what is read behind the codons before the edit: the middle, then what the CDS has from codon `back` on
  split-behind : keeps_all r e ≡ false → is_level r e ≡ true
      → translated r.table [] (drop (head_of r e * 3) (altered_coding r e)) ≡ middle r e ++ translated r.table [] (drop (back_of r e * 3) (drop (r.cs - 1) r.letters))
  unfolding middle part altered_coding altered_transcript size
  split-behind q l =
      let x = pieces-fit in
      let y = resumes-if m r e h q l in
      let u = altered_coding r e in
      let a : ℕ = head_of r e * 3 in
      let b : ℕ = tail_of r e * 3 in
      let first = r.cs - 1 in
      let on : a + (b - a) ≡ b = omega (arith, y.rises) in
      let there : drop (b - a) (drop a u) ≡ drop (back_of r e * 3) (drop first r.letters) =
      drop-drop (b - a) a u ∙ ap (λ (n : ℕ). drop n u) on ∙ drop-drop b first (altered_transcript r e)
      ∙ carried-back (cut_swap r e) r.letters inside (first + b) (first + back_of r e * 3) y.behind y.at
      ∙ sym (drop-drop (back_of r e * 3) first r.letters) in
      ap (translated r.table []) (sym (take-append-drop (b - a) (drop a u)))
      ∙ plain-append r.table (take (b - a) (drop a u)) (drop (b - a) (drop a u)) (omega (arith, length_part a b u (x.tail l)))
      ∙ ap (λ (s : List ℕ). translated r.table [] (take (b - a) (drop a u)) ++ translated r.table [] s) there

  -- Case by case what a walk that reuses writes. R goes no further than the edit: all behind it is read.
  pub pieces-read : is_level r e ≡ false → altered_protein r e ≡ take (head_of r e) (reference_protein r) ++ through_stop (translated r.table [] (drop (head_of r e * 3) (altered_coding r e)))
  unfolding is_level
  pieces-read l = read_behind (or_left (keeps_all r e) _ l)

  -- R goes on behind it, but a stop is read before that.
  pub pieces-stopped : is_level r e ≡ true → before_stop (middle r e) < length (middle r e) → altered_protein r e ≡ take (head_of r e) (reference_protein r) ++ through_stop (middle r e)
  unfolding head_of tail_of
  pieces-stopped l s = by (keeps_all r e) refl
    where
      by : (q : Bool) → keeps_all r e ≡ q → altered_protein r e ≡ take (head_of r e) (reference_protein r) ++ through_stop (middle r e)
      by true q = let none : tail_of r e - head_of r e ≡ 0 = rw q (omega arith) in absurd (omega (arith, length-middle l))
      by false q = read_behind q ∙ ap (λ (t : List ℕ). take (head_of r e) (reference_protein r) ++ t) (ap through_stop (split-behind q l) ∙ through_stopped (middle r e) _ s)

  -- R goes on behind it.
  pub pieces-resumed : is_level r e ≡ true → length (middle r e) ≤ before_stop (middle r e)
      → altered_protein r e ≡ take (head_of r e) (reference_protein r) ++ (through_stop (middle r e) ++ drop (back_of r e) (reference_protein r))
  unfolding head_of tail_of back_of
  pieces-resumed l s = by (keeps_all r e) refl
    where
      R : List ℕ
      R = reference_protein r

      by : (q : Bool) → keeps_all r e ≡ q → altered_protein r e ≡ take (head_of r e) R ++ (through_stop (middle r e) ++ drop (back_of r e) R)
      by true q =
          let same : back_of r e ≡ head_of r e = rw q refl in
          let none : tail_of r e - head_of r e ≡ 0 = rw q (omega arith) in
          let empty : through_stop (middle r e) ≡ [] = through_all (middle r e) s ∙ nothing (middle r e) (length-middle l ∙ none) in
          all-kept q ∙ sym (take-append-drop (head_of r e) R) ∙ ap (λ (n : ℕ). take (head_of r e) R ++ drop n R) (sym same) ∙ ap (λ (t : List ℕ). take (head_of r e) R ++ (t ++ drop (back_of r e) R)) (sym empty)
      by false q =
          read_behind q
          ∙ ap (λ (t : List ℕ). take (head_of r e) R ++ t)
          (ap through_stop (split-behind q l) ∙ through_goes (middle r e) _ s ∙ rw (through_all (middle r e) s, back-kept m.longest r accepts none once (back_of r e) (resumes-if m r e h q l).left))

  -- R and A begin alike through `head`, and where R goes on they end alike from `back` and `tail` on: neither need be compared there.
  begins-with : (X : List ℕ) → altered_protein r e ≡ take (head_of r e) (reference_protein r) ++ X
      → common_prefix (reference_protein r) (altered_protein r e) ≡ head_of r e + common_prefix (drop (head_of r e) (reference_protein r)) (drop (head_of r e) (altered_protein r e))
  begins-with X is =
      let R = reference_protein r in
      let a = head_of r e in
      let long : length (take a R) ≡ a = length-take-le a R pieces-fit.head in
      let behind : drop a (altered_protein r e) ≡ X = ap (drop a) is ∙ drop_at (take a R) X a long in
      ap (λ (l : List ℕ). common_prefix l (altered_protein r e)) (sym (take-append-drop a R))
      ∙ ap (common_prefix (take a R ++ drop a R)) is
      ∙ cp_append (take a R) (drop a R) X
      ∙ rw (long, behind)

  pub head-shared : common_prefix (reference_protein r) (altered_protein r e) ≡ head_of r e + common_prefix (drop (head_of r e) (reference_protein r)) (drop (head_of r e) (altered_protein r e))
  head-shared = by (is_level r e) refl (dec_lt (before_stop (middle r e)) (length (middle r e)))
    where
      by : (l : Bool) → is_level r e ≡ l → Dec (before_stop (middle r e) < length (middle r e))
          → common_prefix (reference_protein r) (altered_protein r e) ≡ head_of r e + common_prefix (drop (head_of r e) (reference_protein r)) (drop (head_of r e) (altered_protein r e))
      by false l d = begins-with _ (pieces-read l)
      by true l (yes d) = begins-with _ (pieces-stopped l d)
      by true l (no d) = begins-with _ (pieces-resumed l (omega arith))

  pub tail-shared : is_level r e ≡ true → length (middle r e) ≤ before_stop (middle r e) → drop (tail_of r e) (altered_protein r e) ≡ drop (back_of r e) (reference_protein r)
  tail-shared l s =
      let R = reference_protein r in
      let front = take (head_of r e) R ++ through_stop (middle r e) in
      let long : length front ≡ tail_of r e =
      length-append (take (head_of r e) R) (through_stop (middle r e))
      ∙ omega (arith, length-take-le (head_of r e) R pieces-fit.head, ap (λ (l : List ℕ). length l) (through_all (middle r e) s), length-middle l, pieces-fit.rises l) in
      ap (drop (tail_of r e)) (pieces-resumed l s ∙ sym (append_assoc (take (head_of r e) R) (through_stop (middle r e)) (drop (back_of r e) R)))
      ∙ drop_at front (drop (back_of r e) R) (tail_of r e) long

-- the letters that are read: of the reference up to the edit, what goes in, of the reference behind it, as far as codon `back`
module _ (m : Limits) (r : Reference) (e : Asked) (h : refusal m r e ≡ 0) (q : keeps_all r e ≡ false) where
  starts : r.cs - 1 + head_of r e * 3 ≤ (cut_swap r e).from
  starts = (reads-if m r e h q).before

  ends : (cut_swap r e).from ≤ size r
  ends = let v = cut-span m r e h in omega (arith, v.rising, v.ends)

  pub read_letters : drop (head_of r e * 3) (altered_coding r e) ≡ part (r.cs - 1 + head_of r e * 3) (cut_swap r e).from r.letters ++ ((cut_swap r e).put ++ drop (cut_swap r e).to r.letters)
  unfolding altered_coding altered_transcript size
  read_letters =
      drop-drop (head_of r e * 3) (r.cs - 1) (altered_transcript r e) ∙ carried_from (cut_swap r e) r.letters ends (r.cs - 1 + head_of r e * 3) starts

  pub middle-letters : is_level r e ≡ true
      → part (head_of r e * 3) (tail_of r e * 3) (altered_coding r e)
      ≡ part (r.cs - 1 + head_of r e * 3) (cut_swap r e).from r.letters ++ ((cut_swap r e).put ++ part (cut_swap r e).to (r.cs - 1 + back_of r e * 3) r.letters)
  unfolding altered_coding altered_transcript size
  middle-letters l =
      let y = resumes-if m r e h q l in
      let first = r.cs - 1 in
      part_behind first (head_of r e * 3) (tail_of r e * 3) (altered_transcript r e)
      ∙ carried-part (cut_swap r e) r.letters ends (first + head_of r e * 3) starts (first + tail_of r e * 3) (first + back_of r e * 3) (omega (arith, y.at, y.behind)) y.at

-- an edit that isn't Unknown has an R with at most one stop
pub known_once : (r : Reference) (e : Asked) → is_unknown r e ≡ false → count (byte "*") (reference_protein r) ≤ 1
unfolding is_unknown
known_once r e h = ltb-false 1 (count (byte "*") (reference_protein r)) (or_left (ltb 1 (count (byte "*") (reference_protein r))) _ h)
