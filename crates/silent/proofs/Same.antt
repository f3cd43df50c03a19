-- Laws of R beside the protein that a plan makes: where the comparison starts, how it goes on, and where it ends.
-- Assumes nothing.
use mathlib.Core.Path.{◌≡◌, refl, sym, ap, ap₂, ◌∙◌}
use mathlib.Core.Bool.{Bool, true, false, ◌&&◌}
use mathlib.Core.List.{List, [], ◌∷◌, ◌++◌}
use Prim.Native.Nat.{ℕ, zero, suc, ◌+◌, ◌-◌, ◌*◌, ◌/◌, ◌%◌, ◌≤◌, ◌<◌}
use native.Mathlib.Omega.{arith}
use lib.Dec.{eqb, leb, leb-suc-suc}
use lib.ListN.{length, take, drop, get_or, length-drop, drop_of_length-le}
use lib.Seq.{length-take-le, get_or-take, get_or-drop, drop-cons, drop-drop, drop-append-add}
use borrow.Author.Tests.{eqb-true, eqb-false, leb-true, leb-false, eq-eqb, ne_eqb, lt-leb, le-leb}
use Rattle.rules.specs.declared.Cds.{Cds}
use Rattle.rules.specs.declared.Exception.{Exception}
use Rattle.rules.specs.declared.Exceptions.{Exceptions}
use Rattle.rules.specs.Bytes.{byte, same, count}
use Rattle.rules.specs.Codons.{codon}
use Rattle.rules.specs.Translation.{exception_list, excepted, residues_from, through_stop, residue_count}
use Rattle.rules.specs.Trims.{common_prefix}
use Rattle.rules.specs.Reference.{Reference, size, cds_size, codons, cds, reference_protein}
use Rattle.rules.specs.Altered.{part, carried}
use Rattle.rules.specs.Exceptions.{suffix_behind}
use Rattle.rules.specs.Views.{reference_of}
use Rattle.rules.proofs.Trims.{same_self, same-is, same_lengths}
use Rattle.rules.proofs.Parts.{length_part}
use Rattle.rules.proofs.Translation.{length_exceptions}
use Rattle.rules.proofs.Reading.{rest_of, residue_at_lem}
use Rattle.rules.proofs.Reference.{accepted, length-cds, protein_read}
use Rattle.rules.proofs.Silent.{residue_at, same_from, same-all, same-on, same_stop, same_parts, same-past, same_rest, same-before, stopless, same-own}
use Rattle.exceptions.proofs.Moving.{none-given}
use Rattle.edits.specs.declared.plans.Plan.{Plan}
use Rattle.edits.specs.Plans.{goes_in}
use Rattle.transcript.specs.Carrying.{carried_by}
use Rattle.transcript.proofs.Transcripts.{length-goes-in}
use Rattle.altered.proofs.Letters.{length-made, before_at}
use Rattle.altered.proofs.Shares.{front-starts, back-starts}
use Rattle.altered.proofs.Stretches.{part_at}
use Rattle.altered.specs.Over.{Makes, Stretch}
use Rattle.places.specs.Places.{codon_at}
use Rattle.sources.specs.Sources.{Placed}
use Rattle.blocks.specs.Blocks.{ReadsAs, Sized, Held, Unexcepted}
use Rattle.blocks.proofs.Blocked.{no_exceptions_lem, codon_behind}
use Rattle.silent.proofs.Kept.{all-before, all-behind}
use Rattle.silent.specs.Comparing.{coding_by, protein_with, Compares, Alike}

-- the transcript that a plan makes
module _ (p : Plan) (s new : List ℕ) (m : Makes p s new) where
  -- behind the edit the letters are the transcript's, at another place
  moved_on : (i j : ℕ) → p.from + p.kept ≤ i → i + p.to ≡ j + (p.from + p.kept) → drop i (carried_by p s new) ≡ drop j s
  unfolding carried_by carried
  moved_on i j h at =
      let n : ℕ = i - (p.from + p.kept) in
      let put = length-goes-in p s new m.source in
      let long = length-take-le p.from s (omega (arith, m.rising, m.ends)) in
      let place : i ≡ length (take p.from s) + (length (goes_in p s new) + n) = omega arith in
      let old : p.to + n ≡ j = omega arith in
      ap (λ (k : ℕ). drop k (take p.from s ++ (goes_in p s new ++ drop p.to s))) place
      ∙ drop-append-add (take p.from s) (goes_in p s new ++ drop p.to s) (length (goes_in p s new) + n)
      ∙ drop-append-add (goes_in p s new) (drop p.to s) n
      ∙ drop-drop n p.to s
      ∙ ap (λ (k : ℕ). drop k s) old

-- without exceptions it doesn't matter at which number codons begin
any-number : (t n m : ℕ) (u : List ℕ) → residues_from t [] n u ≡ residues_from t [] m u
unfolding residues_from excepted
any-number t n m [] = refl
any-number t n m (a ∷ []) = refl
any-number t n m (a ∷ b ∷ []) = refl
any-number t n m (a ∷ b ∷ d ∷ u) = ap (λ (l : List ℕ). codon t a b d ∷ l) (any-number t (suc n) (suc m) u)

-- exceptions that say the same from a number on
agree_from : (t : ℕ) (es fs : List Exception) (k : ℕ) → ((n v : ℕ) → k ≤ n → excepted es n v ≡ excepted fs n v) → (m : ℕ) → k ≤ m → (u : List ℕ) → residues_from t es m u ≡ residues_from t fs m u
unfolding residues_from
agree_from t es fs k h m l [] = refl
agree_from t es fs k h m l (a ∷ []) = refl
agree_from t es fs k h m l (a ∷ b ∷ []) = refl
agree_from t es fs k h m l (a ∷ b ∷ d ∷ u) = ap₂ ◌∷◌ (h m (codon t a b d) l) (agree_from t es fs k h (suc m) (omega arith) u)

-- two ends of a list are the same exactly if they are one
same_drops : (R : List ℕ) (k j : ℕ) → k < length R → j < length R → same (drop k R) (drop j R) ≡ eqb j k
same_drops R k j h l = by (eqb j k) refl
  where
    by : (b : Bool) → eqb j k ≡ b → same (drop k R) (drop j R) ≡ b
    by true q = rw (eqb-true j k q) (same_self (drop k R))
    by false q =
        same_lengths (drop k R) (drop j R) (λ z. eqb-false j k q (omega (arith, length-drop k R, length-drop j R)))

module _ (s : List ℕ) (c : Cds) (e moved : Exceptions) (R : List ℕ) (p : Plan) (new : List ℕ) (x : Compares s c e moved R p new) where
  abbrev first : ℕ
  first = c.cs - 1

  abbrev u : List ℕ
  u = drop first (carried_by p s new)

  -- what is left of the two from codon k on is the same
  abbrev pub left : ℕ → Bool
  left k = same_from c.table (exception_list moved) u R k

  abbrev pub kept : Bool
  kept = same R (protein_with c moved p s new)

  pub length-coding : length u ≡ p.length - first
  length-coding = length-drop first (carried_by p s new) ∙ omega (arith, x.long)

  pub in-transcript : first ≤ p.length
  in-transcript = omega (arith, x.long, length-made p s new x.makes, x.front)

  pub some-residues : 1 ≤ length R
  some-residues = omega (arith, ap length x.read, (protein_read x.longest (reference_of s c e) x.accepted).two)

  pub first_some : 1 ≤ c.cs
  first_some = (accepted x.longest (reference_of s c e) x.accepted).bounds.first

  pub codes : c.table < 3
  codes = omega (arith, (accepted x.longest (reference_of s c e) x.accepted).table)

  pub in-made : (k : ℕ) → k < (p.length - first) / 3 → first + k * 3 + 3 ≤ length (carried_by p s new)
  in-made k h = omega (arith, x.long, in-transcript)

  pub placed : (k : ℕ) → k < (p.length - first) / 3 → Placed p first k
  placed k h =
      let made = length-made p s new x.makes in
      record {
        front = omega (arith, x.front, x.makes.rising);
        small = omega (arith, in-made k h, x.makes.new-short);
        to-small = omega (arith, x.makes.ends, x.makes.old-short);
        put_small = omega (arith, made, x.makes.new-short);
      }

  pub starts-within : (k : ℕ) → first + k * 3 ≤ p.from → k ≤ (p.length - first) / 3
  starts-within k h = omega (arith, x.long, length-made p s new x.makes)

  from_start : left 0 ≡ kept
  unfolding protein_with coding_by
  from_start = sym (same-all c.table (exception_list moved) u R)

  letter-of : (i : ℕ) → get_or u i 0 ≡ get_or (carried_by p s new) (first + i) 0
  letter-of i = get_or-drop first (carried_by p s new) i 0

  abbrev r : Reference
  r = reference_of s c e

  once : count (byte "*") (reference_protein r) ≤ 1
  once = rw (← x.read) x.once

  -- the letters before the edit are shared
  shared : p.from ≤ common_prefix s (carried_by p s new)
  shared = omega (arith, front-starts p s new x.makes)

  -- a residue of R before the last, by its codon
  reference-at : (j : ℕ) → j + 1 < length R → get_or R j 0 ≡ residue_at c.table (exception_list e) (drop first s) R j
  unfolding reference_protein cds residue_count
  reference-at j h =
      let b = (accepted x.longest r x.accepted).bounds in
      let own = drop first s in
      let long : length (take (cds_size r) own) ≡ cds_size r = length-cds r b in
      let in-cds : j * 3 + 3 ≤ cds_size r = omega (arith, ap length x.read, (protein_read x.longest r x.accepted).counted) in
      let letter : (i : ℕ) → i < cds_size r → get_or (take (cds_size r) own) i 0 ≡ get_or own i 0 = λ i l. get_or-take (cds_size r) own i 0 l in
      ap (λ (l : List ℕ). get_or l j 0) x.read
      ∙ residue_at_lem c.table (exception_list e) (take (cds_size r) own) j (omega arith)
      ∙ rw (letter (j * 3) (omega arith), letter (j * 3 + 1) (omega arith), letter (j * 3 + 2) (omega arith))

  -- A's residue there is the same: its letters and its exception stay
  altered-at : (k j : ℕ) → first + k * 3 ≤ p.from → j < k → residue_at c.table (exception_list moved) u R j ≡ residue_at c.table (exception_list e) (drop first s) R j
  altered-at k j h l =
      let alike : (i : ℕ) → i < k * 3 → get_or u i 0 ≡ get_or (drop first s) i 0 = λ i m.
      letter-of i ∙ sym (before_at p s new x.makes (first + i) (omega arith)) ∙ sym (get_or-drop first s i 0) in
      let rises = (accepted x.longest r x.accepted).exceptions in
      rw (alike (j * 3) (omega arith), alike (j * 3 + 1) (omega arith), alike (j * 3 + 2) (omega arith), x.moves)
      (all-before s (carried_by p s new) first k (omega (arith, shared)) (j + 1) (omega arith) (omega arith) 0 _ (exception_list e) _ rises)

  -- where the comparison starts
  pub starts : (k : ℕ) → k + 1 ≤ length R → first + k * 3 ≤ p.from → left k ≡ kept
  starts k few h =
      let many : k ≤ length u / 3 = omega (arith, length-coding, x.long, length-made p s new x.makes) in
      sym (same-before c.table (exception_list moved) u R k many (λ j l.
      let is = reference-at j (omega arith) ∙ sym (altered-at k j h l) in
      (omega arith, is, λ z. stopless x.longest r x.accepted once j (omega (arith, ap length x.read)) (sym (ap (λ (m : List ℕ). get_or m j 0) x.read) ∙ is ∙ z))))
      ∙ from_start

  -- the reference's exceptions are few
  pub few-own : e.count ≤ 16
  few-own = omega (arith, length_exceptions e, (accepted x.longest r x.accepted).few)

  -- a codon that isn't R's last lies in the transcript
  pub own-inside : (k n : ℕ) → k + n < length R → first + k * 3 + n * 3 ≤ length s
  unfolding cds_size size residue_count
  own-inside k n h =
      let b = (accepted x.longest r x.accepted).bounds in
      omega (arith, ap length x.read, (protein_read x.longest r x.accepted).counted, length-cds r b, b.first, b.inside)

  -- n codons without exceptions from codon k on: R's part, and what the plan makes there
  module _ (k n : ℕ) (few : k + n < length R) where
    abbrev own : List ℕ
    own = part k (k + n) R

    length-own : length own ≡ n
    length-own = length_part k (k + n) R (omega arith) ∙ omega arith

    own-reads : Unexcepted (exception_list e) k n → (i : ℕ) → i < n → get_or own i 0 ≡ codon_at c.table (drop (first + k * 3) s) i
    unfolding codon_at
    own-reads clear i l =
        part_at k (k + n) R i (omega arith) ∙ reference-at (k + i) (omega arith) ∙ clear.each i _ l ∙ sym (codon_behind c.table s first k i)

    pub held : n ≤ 256 → Unexcepted (exception_list e) k n → Held c.table s (first + k * 3) own
    held short clear =
        record {
          code = codes;
          few = omega (arith, length-own);
          ends = omega (arith, length-own, own-inside k n few);
          reads = record { each = λ i l. own-reads clear i (omega (arith, length-own)) };
        }

    pub in-stretch : (most size : ℕ) → Sized p (first + k * 3) most size → (size ≡ 0 → ⊥) → n ≤ size → k + n ≤ (p.length - first) / 3 → Stretch p (first + k * 3) (length own * 3) (length (carried_by p s new))
    in-stretch most size sized some less more =
        record {
          behind = sized.behind some;
          inside = λ h. omega (arith, sized.inside h, length-own);
          ends = omega (arith, length-own, x.long, in-transcript);
        }

    pub alike_of : Unexcepted (exception_list moved) k n → k + n < (p.length - first) / 3 → (q : ℕ) → q ≤ length own → ReadsAs c.table (drop (first + k * 3) (carried_by p s new)) own q → Alike c moved p s new R k q
    unfolding coding_by
    alike_of clear more q less reads =
        record {
          few = omega (arith, length-own);
          more = omega (arith, length-own);
          each = λ i l.
              sym (part_at k (k + n) R i (omega (arith, length-own))) ∙ reads.each i l ∙ codon_behind c.table (carried_by p s new) first k i
              ∙ sym (clear.each i _ (omega (arith, length-own)));
        }

  -- the codons of a block are skipped
  pub skips : (k n : ℕ) → k + n < (p.length - first) / 3 → k + n < length R
      → ((i : ℕ) → i < n → get_or R (k + i) 0 ≡ residue_at c.table (exception_list moved) u R (k + i)) → left k ≡ left (k + n)
  skips k zero more few each = let none : k ≡ k + 0 = omega arith in ap left none
  skips k (suc n) more few each =
      let next : k + n + 1 ≡ k + suc n = omega arith in
      let alike = each n (omega arith) in
      skips k n (omega arith) (omega arith) (λ i l. each i (omega arith))
      ∙ same-on c.table (exception_list moved) u R (k + n) (omega (arith, length-coding)) (omega arith) alike
      (λ z. stopless x.longest r x.accepted once (k + n) (omega (arith, ap length x.read)) (sym (ap (λ (m : List ℕ). get_or m (k + n) 0) x.read) ∙ alike ∙ z))
      ∙ ap left next

  pub skipped : (k n : ℕ) → Alike c moved p s new R k n → left k ≡ left (k + n)
  unfolding codon_at coding_by
  skipped k n a = skips k n a.more a.few a.each

  -- a codon of R lies in the transcript
  own-codons : (j : ℕ) → j < length R → j ≤ length (drop first s) / 3
  unfolding cds_size size residue_count
  own-codons j h =
      let b = (accepted x.longest r x.accepted).bounds in
      omega (arith, ap length x.read, (protein_read x.longest r x.accepted).counted, length-drop first s, b.first, b.inside)

  module _ (none : e.count ≡ 0) where
    both-none : exception_list moved ≡ exception_list e
    both-none = x.moves ∙ sym (none-given (common_prefix s (carried_by p s new)) first s (carried_by p s new) e none)

    -- where the codons are the reference's again
    pub ends-here : (k j : ℕ) → p.from + p.kept ≤ first + k * 3 → first + k * 3 + p.to ≡ first + j * 3 + (p.from + p.kept) → k < length R → j < length R → left k ≡ eqb j k
    ends-here k j behind place some few =
        let t = c.table in
        let own = drop first s in
        let is : drop (k * 3) u ≡ drop (j * 3) own =
        drop-drop (k * 3) first (carried_by p s new) ∙ moved_on p s new x.makes (first + k * 3) (first + j * 3) behind place ∙ sym (drop-drop (j * 3) first s) in
        let empty : exception_list moved ≡ [] = both-none ∙ no_exceptions_lem e none in
        let b = (accepted x.longest r x.accepted).bounds in
        let many : j ≤ length own / 3 = own-codons j few in
        let mine : same_from t (exception_list e) own (reference_protein r) j ≡ true = same-own x.longest r x.accepted once own j many (omega (arith, ap length x.read)) refl in
        let left-own : drop j R ≡ through_stop (residues_from t [] (j + 1) (drop (j * 3) own)) =
        ap (drop j) x.read ∙ same-is (drop j (reference_protein r)) (through_stop (residues_from t (exception_list e) (j + 1) (drop (j * 3) own))) mine
        ∙ ap (λ (es : List Exception). through_stop (residues_from t es (j + 1) (drop (j * 3) own))) (no_exceptions_lem e none) in
        rw (empty, is, any-number t (k + 1) (j + 1) (drop (j * 3) own), ← left-own) (same_drops R k j some few)

  -- where as many bases go in as give way, the exceptions behind the edit stay too
  module _ (keeps : p.from + p.kept ≡ p.to) where
    one-long : length (carried_by p s new) ≡ length s
    one-long = omega (arith, length-made p s new x.makes, x.makes.ends)

    own-rest : drop p.to (carried_by p s new) ≡ drop p.to s
    own-rest = moved_on p s new x.makes p.to p.to (omega arith) (omega arith)

    suffix-long : common_prefix s (carried_by p s new) ≤ p.to → length s - suffix_behind (common_prefix s (carried_by p s new)) s (carried_by p s new) ≤ p.to
    suffix-long h =
        let all = back-starts p s new x.makes (common_prefix s (carried_by p s new)) (length s - p.to) (omega arith) (omega (arith, x.makes.ends)) (omega (arith, one-long, x.makes.ends)) in
        omega arith

    stays : (k : ℕ) → p.to ≤ first + k * 3 → (n v : ℕ) → k + 1 ≤ n → excepted (exception_list moved) n v ≡ excepted (exception_list e) n v
    unfolding codons cds_size size
    stays k behind n v h =
        let a = accepted x.longest r x.accepted in
        rw x.moves
        (all-behind s (carried_by p s new) first p.to one-long own-rest suffix-long n (omega arith) (omega arith) 0 _ (exception_list e) v a.exceptions (omega (arith, a.bounds.first, a.bounds.inside)))

    ends-kept : (k : ℕ) → p.to ≤ first + k * 3 → k < length R → left k ≡ true
    ends-kept k behind few =
        let t = c.table in
        let own = drop first s in
        let is : drop (k * 3) u ≡ drop (k * 3) own =
        drop-drop (k * 3) first (carried_by p s new) ∙ moved_on p s new x.makes (first + k * 3) (first + k * 3) (omega arith) (omega arith) ∙ sym (drop-drop (k * 3) first s) in
        let mine : same_from t (exception_list e) own (reference_protein r) k ≡ true = same-own x.longest r x.accepted once own k (own-codons k few) (omega (arith, ap length x.read)) refl in
        rw (is, agree_from t (exception_list moved) (exception_list e) (k + 1) (stays k behind) (k + 1) (omega arith) (drop (k * 3) own), x.read) mine

  -- where the codons are the reference's again, exceptions or none
  pub ends-either : (k j : ℕ) → ((e.count ≡ 0 → ⊥) → p.from + p.kept ≡ p.to) → p.from + p.kept ≤ first + k * 3 → first + k * 3 + p.to ≡ first + j * 3 + (p.from + p.kept) → k < length R → j < length R → left k ≡ eqb j k
  ends-either k j keeps behind place some few = by (eqb e.count 0) refl
    where
      by : (b : Bool) → eqb e.count 0 ≡ b → left k ≡ eqb j k
      by true q = ends-here (eqb-true e.count 0 q) k j behind place some few
      by false q =
          let same_place = keeps (eqb-false e.count 0 q) in
          ends-kept same_place k (omega arith) some ∙ sym (eq-eqb j k (omega arith))

  -- a residue that is read
  pub read_is : (k v : ℕ)
      → v ≡ excepted (exception_list moved) (k + 1) (codon c.table (get_or (carried_by p s new) (first + k * 3) 0) (get_or (carried_by p s new) (first + k * 3 + 1) 0) (get_or (carried_by p s new) (first + k * 3 + 2) 0))
      → v ≡ residue_at c.table (exception_list moved) u R k
  read_is k v is =
      let two : first + k * 3 + 1 ≡ first + (k * 3 + 1) = omega arith in
      let three : first + k * 3 + 2 ≡ first + (k * 3 + 2) = omega arith in
      is ∙ rw (letter-of (k * 3), letter-of (k * 3 + 1), letter-of (k * 3 + 2), two, three)

  -- a turn
  module _ (k v : ℕ) (more : k < (p.length - first) / 3) (read : v ≡ residue_at c.table (exception_list moved) u R k) where
    in-coding : k < length u / 3
    in-coding = omega (arith, length-coding)

    pub parts : k < length R → (v ≡ get_or R k 0 → ⊥) → left k ≡ false
    parts h differ = same_parts c.table (exception_list moved) u R k in-coding h (λ z. differ (read ∙ sym z))

    pub stops : k < length R → v ≡ get_or R k 0 → v ≡ byte "*" → left k ≡ eqb (k + 1) (length R)
    stops h same z = same_stop c.table (exception_list moved) u R k in-coding h (sym same ∙ read) (sym read ∙ z)

    pub goes_on : k < length R → v ≡ get_or R k 0 → (v ≡ byte "*" → ⊥) → left k ≡ left (k + 1)
    goes_on h same later = same-on c.table (exception_list moved) u R k in-coding h (sym same ∙ read) (λ z. later (read ∙ z))

  pub past : (k : ℕ) → k < (p.length - first) / 3 → length R ≤ k → left k ≡ false
  past k more h = same-past c.table (exception_list moved) u R k (omega (arith, length-coding)) h

  pub ends : (k : ℕ) → k ≡ (p.length - first) / 3 → left k ≡ same (drop k R) (rest_of ((p.length - first) % 3))
  ends k h = same_rest c.table (exception_list moved) u R k (omega (arith, length-coding)) ∙ ap (λ (n : ℕ). same (drop k R) (rest_of (n % 3))) length-coding

-- what is left of R against a rest: an X, or nothing
same_nothing : (R : List ℕ) (k : ℕ) → leb (length R) k ≡ same (drop k R) []
unfolding same
same_nothing [] zero = refl
same_nothing [] (suc k) = le-leb 0 (suc k) (omega arith)
same_nothing (x ∷ R) zero = lt-leb (suc (length R)) 0 (omega arith)
same_nothing (x ∷ R) (suc k) = leb-suc-suc (length R) k ∙ same_nothing R k

pub no-rest : (R : List ℕ) (k rest : ℕ) → rest ≡ 0 → leb (length R) k ≡ same (drop k R) (rest_of rest)
no-rest R k rest h = rw h (same_nothing R k)

pub rest_past : (R : List ℕ) (k rest : ℕ) → (rest ≡ 0 → ⊥) → length R ≤ k → false ≡ same (drop k R) (rest_of rest)
unfolding same
rest_past R k zero n h = absurd (n refl)
rest_past R k (suc rest) n h = rw (drop_of_length-le R {i = k} h)

pub one_rest : (R : List ℕ) (k rest : ℕ) → (rest ≡ 0 → ⊥) → k < length R → (eqb (get_or R k 0) (byte "X") && eqb (length R - k) 1) ≡ same (drop k R) (rest_of rest)
unfolding same
one_rest R k zero n h = absurd (n refl)
one_rest R k (suc rest) n h =
    rw (drop-cons R k 0 h) (ap (λ (b : Bool). eqb (get_or R k 0) (byte "X") && b) (left_one ∙ same_nothing R (suc k)))
  where
    left_one : eqb (length R - k) 1 ≡ leb (length R) (suc k)
    left_one = by (leb (length R) (suc k)) refl
      where
        by : (b : Bool) → leb (length R) (suc k) ≡ b → eqb (length R - k) 1 ≡ b
        by true q = eq-eqb (length R - k) 1 (omega (arith, leb-true (length R) (suc k) q))
        by false q = ne_eqb (length R - k) 1 (λ z. omega (arith, leb-false (length R) (suc k) q))
