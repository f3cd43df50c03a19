-- The codons that are looked up: which are reused, and how many are read in each case of the pieces.
-- Assumes nothing.
use Rattle.std.specs.Prelude.{if◌then◌else◌}
use mathlib.Core.Path.{◌≡◌, refl, sym, ap, ◌∙◌}
use mathlib.Core.Bool.{Bool, true, false, ◌&&◌, ◌||◌, not}
use mathlib.Core.List.{List, [], ◌++◌}
use Prim.Native.Nat.{ℕ, zero, suc, ◌+◌, ◌-◌, ◌*◌, ◌/◌, ◌%◌, ◌≤◌, ◌<◌, min}
use native.Mathlib.Decide.{dec_le, dec_lt}
use native.Mathlib.Omega.{arith}
use lib.Dec.{eqb, leb}
use lib.ListN.{length, take, drop, length-append, length-drop}
use lib.Seq.{length-take-le}
use borrow.Author.Tests.{eq-eqb, ne_eqb, le-leb, lt-leb, lt-ltb, eqb-true, leb-true}
use Rattle.rules.specs.declared.Kind.TheVariants.{Identity}
use Rattle.rules.specs.Bytes.{byte, count}
use Rattle.rules.specs.Translation.{translated, before_stop, through_stop}
use Rattle.rules.specs.Reference.{Reference, at_stop, size, cds_size, codons, reference_protein}
use Rattle.rules.specs.Edit.{Asked, is, kind_of}
use Rattle.rules.specs.Altered.{cut_swap}
use Rattle.rules.specs.Exceptions.{in_frame, codon_index}
use Rattle.rules.specs.Protein.{altered_protein}
use Rattle.rules.specs.Reuse.{lies_before, lies_behind, origin, is_of_cds, is_reused, altered_coding, codons_through_stop, count_to, looked_up}
use Rattle.rules.proofs.PieceNumbers.{keeps_all, behind_put, head_of, tail_of, back_of, is_level, middle}
use Rattle.rules.specs.declared.Limits.{Limits}
use Rattle.rules.specs.Refusal.{refusal, reference_refusal}
use Rattle.rules.proofs.Tests.{and_left, and_right, or_left}
use Rattle.rules.proofs.Translation.{through_le}
use Rattle.rules.proofs.Plain.{through_all}
use Rattle.rules.proofs.Refusing.{none-refused, reference-accepted}
use Rattle.rules.proofs.Kept.{or_cases, cut_ends, cut-span, length-coding, identity-coding, CodonsFit, codons-fit}
use Rattle.rules.proofs.Pieces.{reads-if, Resumes, resumes-if, pieces-fit, length-middle, all-kept, pieces-read, pieces-stopped, pieces-resumed}

-- the numbers from a to b pass, and no others below n
record Between (p : ℕ → Bool) (a b n : ℕ) : Type 0 where
  pub below : (k : ℕ) → k < a → p k ≡ false
  pub between : (k : ℕ) → a ≤ k → k < b → p k ≡ true
  pub behind : (k : ℕ) → b ≤ k → k < n → p k ≡ false

count_between : (p : ℕ → Bool) (a b n : ℕ) → a ≤ b → b ≤ n → Between p a b n → count_to p n ≡ b - a
unfolding count_to
count_between p a b zero h k w = omega arith
count_between p a b (suc n) h k w = by (dec_le b n) (dec_le a n) (λ x y i j v. count_between p x y n i j v)
  where
    by : Dec (b ≤ n) → Dec (a ≤ n) → ((x y : ℕ) → x ≤ y → y ≤ n → Between p x y n → count_to p n ≡ y - x) → (if p n then suc (count_to p n) else count_to p n) ≡ b - a
    by (yes i) j f = rw (w.behind n i (omega arith)) (f a b h i (record { below = w.below; between = w.between; behind = λ x y z. w.behind x y (omega arith) }))
    by (no i) (yes j) f =
        rw (w.between n j (omega arith))
        (ap suc (f a n j (omega arith) (record { below = w.below; between = λ x y z. w.between x y (omega arith); behind = λ x y z. absurd (omega arith) })) ∙ omega arith)
    by (no i) (no j) f =
        rw (w.below n (omega arith))
        (f n n (omega arith) (omega arith) (record { below = λ x y. w.below x (omega arith); between = λ x y z. absurd (omega arith); behind = λ x y z. absurd (omega arith) }) ∙ omega arith)

pub none_below : (p : ℕ → Bool) (n : ℕ) → ((k : ℕ) → k < n → p k ≡ false) → count_to p n ≡ 0
none_below p n h =
    count_between p n n n (omega arith) (omega arith) (record { below = h; between = λ k x y. absurd (omega arith); behind = λ k x y. absurd (omega arith) }) ∙ omega arith

off : (a b : Bool) → a ≡ false → (a && b) ≡ false
off a b h = rw h

-- one of the CDS is in its frame, and wholly inside it
of_cds : (r : Reference) (i : ℕ) → is_of_cds r i ≡ true → (i % 3 ≡ (r.cs - 1) % 3) × (i + 3 ≤ r.ce)
unfolding is_of_cds in_frame
of_cds r i c =
    let frame = eqb (i % 3) ((r.cs - 1) % 3) in
    let fits = leb (i + 3) r.ce in
    (eqb-true (i % 3) ((r.cs - 1) % 3) (and_left frame fits c), leb-true (i + 3) r.ce (and_right frame fits c))

-- which codons are reused
module _ (r : Reference) (e : Asked) (k : ℕ) where
  -- with exceptions none is
  read-excepted : (length r.exceptions ≡ 0 → ⊥) → is_reused r e k ≡ false
  unfolding is_reused
  read-excepted d = off (eqb (length r.exceptions) 0) _ (ne_eqb (length r.exceptions) 0 d)

  abbrev at : ℕ
  at = r.cs - 1 + k * 3

  index_is : codon_index (r.cs - 1) (k + 1) ≡ at
  unfolding codon_index
  index_is = omega arith

  -- a codon of the CDS
  of-cds-if : (i j : ℕ) → i ≡ r.cs - 1 + j * 3 → 1 ≤ r.cs → j < codons r → is_of_cds r i ≡ true
  unfolding is_of_cds in_frame codons cds_size
  of-cds-if i j q b l =
      rw (eq-eqb (i % 3) ((r.cs - 1) % 3) (omega arith), le-leb (i + 3) r.ce (omega arith))

  -- without exceptions an identity's CDS codon is reused
  pub reused-identity : r.exceptions ≡ [] → 1 ≤ r.cs → is Identity (kind_of e) ≡ true → k < codons r → is_reused r e k ≡ true
  unfolding is_reused
  reused-identity none b i l =
      let inside : is_of_cds r at ≡ true = of-cds-if at k refl b l in
      let plain : eqb (length r.exceptions) 0 ≡ true = rw none in
      rw (plain, index_is, i, inside)

  -- so is a CDS codon wholly before the edit
  pub reused-before : r.exceptions ≡ [] → 1 ≤ r.cs → at + 3 ≤ (cut_swap r e).from → k < codons r → is_reused r e k ≡ true
  unfolding is_reused lies_before
  reused-before none b i l =
      let inside : is_of_cds r at ≡ true = of-cds-if at k refl b l in
      let plain : eqb (length r.exceptions) 0 ≡ true = rw none in
      rw (plain, index_is, le-leb (at + 3) (cut_swap r e).from i, inside) (by (is Identity (kind_of e)))
    where
      by : (a : Bool) → (((a || true) && true) || (lies_behind (cut_swap r e) at && is_of_cds r (origin (cut_swap r e) at))) ≡ true
      by true = refl
      by false = refl

  -- and one wholly behind it that was codon j of the CDS
  pub reused-behind : (j : ℕ) → r.exceptions ≡ [] → 1 ≤ r.cs → (cut_swap r e).from + length (cut_swap r e).put ≤ at
      → at + (cut_swap r e).to ≡ r.cs - 1 + j * 3 + ((cut_swap r e).from + length (cut_swap r e).put) → j < codons r → is_reused r e k ≡ true
  unfolding is_reused lies_behind origin
  reused-behind j none b i q l =
      let inside : is_of_cds r (at + (cut_swap r e).to - ((cut_swap r e).from + length (cut_swap r e).put)) ≡ true = of-cds-if _ j (omega arith) b l in
      let plain : eqb (length r.exceptions) 0 ≡ true = rw none in
      rw (plain, index_is, le-leb ((cut_swap r e).from + length (cut_swap r e).put) at i, inside) (by ((is Identity (kind_of e) || lies_before (cut_swap r e) at) && is_of_cds r at))
    where
      by : (a : Bool) → (a || true) ≡ true
      by true = refl
      by false = refl

  -- one that isn't before the edit is reused only if it lies behind it and was one of the CDS
  read-if : is Identity (kind_of e) ≡ false → (cut_swap r e).from < at + 3 → (lies_behind (cut_swap r e) at && is_of_cds r (origin (cut_swap r e) at)) ≡ false → is_reused r e k ≡ false
  unfolding is_reused lies_before
  read-if i l q =
      rw (index_is, i, lt-leb (at + 3) (cut_swap r e).from l, q) (by (eqb (length r.exceptions) 0))
    where
      by : (a : Bool) → (a && false) ≡ false
      by true = refl
      by false = refl

  -- one that the edit touches isn't
  read-touched : is Identity (kind_of e) ≡ false → (cut_swap r e).from < at + 3 → at < (cut_swap r e).from + length (cut_swap r e).put → is_reused r e k ≡ false
  unfolding lies_behind
  read-touched i l q = read-if i l (rw (lt-leb ((cut_swap r e).from + length (cut_swap r e).put) at q) refl)

-- codon k at index first + 3k, behind what ends at q, and codon j that lies as far behind `to`
tail_numbers : (first q to k j t : ℕ) → first ≤ q → first ≤ to → q ≤ first + k * 3 → first + k * 3 + to ≡ first + j * 3 + q → t ≡ (q - first + 2) / 3
    → (q % 3 ≡ to % 3) × (t ≤ k) × ((t * 3 + to - q) / 3 + (k - t) ≡ j)
tail_numbers first q to k j t a b h e s = (omega arith, omega arith, omega arith)

in_frame_lem : (first at : ℕ) → first ≤ at → at % 3 ≡ first % 3 → first + (at - first) / 3 * 3 ≡ at
in_frame_lem first at h k = omega arith

-- of a CDS that ends with the transcript, the codons behind the edit are those of the CDS
still_inside : (first from p to L t b k : ℕ) → first ≤ from → to ≤ L → first + t * 3 + to ≡ first + b * 3 + (from + p) → t ≤ k → k < (from + (p + (L - to)) - first) / 3 → b + (k - t) < (L - first) / 3
still_inside first from p to L t b k a c q l i = omega arith

still_counted : (t b k R n : ℕ) → R ≡ n → t ≤ k → k < t + (R - b) → b < n → b + (k - t) < n
still_counted t b k R n q l i j = omega arith

codons_of : (r : Reference) → 1 ≤ r.cs → r.ce ≡ size r → (n : ℕ) → n < (size r - (r.cs - 1)) / 3 → n < codons r
unfolding codons cds_size
codons_of r h q n l = omega arith

le_at : (k a b : ℕ) → a ≡ b → k < a / 3 → k < b / 3
le_at k a b q h = omega arith

less : (a b c : ℕ) → a < b → b ≤ c → a < c
less a b c h k = omega arith

-- through a stop in the middle, or on behind it
read_so_many : (A head few tail U : ℕ) → A ≡ head + few → few ≤ tail - head → head ≤ tail → tail * 3 ≤ U → min A (U / 3) ≡ head + few
read_so_many A head few tail U q l i j = omega arith

read_past : (A tail more U : ℕ) → A ≡ tail + more → tail * 3 ≤ U → (min A (U / 3) ≤ tail + more) × (min A (U / 3) ≤ U / 3) × (tail ≤ min A (U / 3))
read_past A tail more U q l = (omega arith, omega arith, omega arith)

-- the codons that are looked up
abbrev pub looks : Reference → Asked → ℕ → Bool
looks r e k = not (is_reused r e k)

module _ (m : Limits) (r : Reference) (e : Asked) (h : refusal m r e ≡ 0) where
  begins : 1 ≤ r.cs
  begins = (reference-accepted m r e h).bounds.first

  -- where one behind the edit was one of the CDS, R goes on
  level-if : (k : ℕ) → keeps_all r e ≡ false → lies_behind (cut_swap r e) (r.cs - 1 + k * 3) ≡ true → is_of_cds r (origin (cut_swap r e) (r.cs - 1 + k * 3)) ≡ true → is_level r e ≡ true
  unfolding is_level behind_put lies_behind origin codons cds_size
  level-if k q z c =
      let v = cut-span m r e h in
      let x = reads-if m r e h q in
      let first = r.cs - 1 in
      let end = (cut_swap r e).from + length (cut_swap r e).put in
      let l : end ≤ first + k * 3 = leb-true end (first + k * 3) z in
      let old : ℕ = first + k * 3 + (cut_swap r e).to - end in
      let i = of_cds r old c in
      let place = in_frame_lem first old (omega (arith, v.front, v.rising)) i.0 in
      let last : old + 3 ≤ r.ce = i.1 in
      let n = tail_numbers first end (cut_swap r e).to k ((old - first) / 3) (tail_of r e) (omega (arith, v.front)) (omega (arith, v.front, v.rising)) l (omega arith) x.tail-is in
      rw (q, eq-eqb (end % 3) ((cut_swap r e).to % 3) n.0, lt-ltb (back_of r e) (codons r) (omega (arith, n.2, x.back_is, begins)))

  module _ (q : keeps_all r e ≡ false) where
    -- codons before the edit are reused
    head-reused : r.exceptions ≡ [] → (k : ℕ) → k < head_of r e → looks r e k ≡ false
    head-reused none k l = let x = reads-if m r e h q in ap not (reused-before r e k none begins (omega (arith, x.before)) (omega (arith, x.few)))

    not-before : (k : ℕ) → head_of r e ≤ k → (cut_swap r e).from < r.cs - 1 + k * 3 + 3
    not-before k l = let x = reads-if m r e h q in omega (arith, x.head-is, (cut-span m r e h).front)

    -- where R doesn't go on, all others are read
    behind-read : is_level r e ≡ false → (k : ℕ) → head_of r e ≤ k → looks r e k ≡ true
    behind-read f k l = ap not (read-if r e k (reads-if m r e h q).other (not-before k l) (by (is_of_cds r (origin (cut_swap r e) (r.cs - 1 + k * 3))) (lies_behind (cut_swap r e) (r.cs - 1 + k * 3)) refl refl))
      where
        by : (a b : Bool) → is_of_cds r (origin (cut_swap r e) (r.cs - 1 + k * 3)) ≡ a → lies_behind (cut_swap r e) (r.cs - 1 + k * 3) ≡ b → (b && a) ≡ false
        by a false y z = refl
        by false true y z = refl
        by true true y z = sym (level-if k q z y) ∙ f

    -- where it goes on, those between are
    middle-read : (k : ℕ) → head_of r e ≤ k → k < tail_of r e → looks r e k ≡ true
    middle-read k l i = let x = reads-if m r e h q in ap not (read-touched r e k x.other (not-before k l) (omega (arith, x.tail-is)))

    -- and the codons of the CDS behind it are reused
    tail-reused : r.exceptions ≡ [] → is_level r e ≡ true → (k : ℕ) → tail_of r e ≤ k → back_of r e + (k - tail_of r e) < codons r → looks r e k ≡ false
    tail-reused none f k l i =
        let y = resumes-if m r e h q f in
        ap not (reused-behind r e k (back_of r e + (k - tail_of r e)) none begins (omega (arith, y.behind)) (omega (arith, y.at)) i)

-- so many are read in each case
module _ (m : Limits) (r : Reference) (e : Asked) (h : refusal m r e ≡ 0) (none : r.exceptions ≡ []) (once : count (byte "*") (reference_protein r) ≤ 1) where
  long-head : length (take (head_of r e) (reference_protein r)) ≡ head_of r e
  long-head = length-take-le (head_of r e) (reference_protein r) (pieces-fit m r e h none once).head

  -- all behind the edit is read: its whole codons through the first stop
  pub looked-read : is_level r e ≡ false
      → looked_up r e ≡ min (length (through_stop (translated r.table [] (drop (head_of r e * 3) (altered_coding r e))))) (length (drop (head_of r e * 3) (altered_coding r e)) / 3)
  unfolding looked_up codons_through_stop is_level
  looked-read l =
      let q : keeps_all r e ≡ false = or_left (keeps_all r e) _ l in
      let R = reference_protein r in
      let u = altered_coding r e in
      let a = head_of r e in
      let T = through_stop (translated r.table [] (drop (a * 3) u)) in
      let n = codons_through_stop r e in
      let long : length (altered_protein r e) ≡ a + length T = ap length (pieces-read m r e h none once l) ∙ length-append (take a R) T ∙ ap (λ (k : ℕ). k + length T) long-head in
      let read : n ≡ a + min (length T) (length (drop (a * 3) u) / 3) = omega (arith, long, length-drop (a * 3) u, (pieces-fit m r e h none once).coding) in
      count_between (looks r e) a n n (omega arith) (omega arith)
      (record { below = head-reused m r e h q none; between = λ k x y. behind-read m r e h q l k x; behind = λ k x y. absurd (omega arith) }) ∙ omega arith

  -- nothing is read where all of R is kept
  few-kept : keeps_all r e ≡ true → codons_through_stop r e ≤ codons r
  unfolding codons_through_stop keeps_all codons cds_size size
  few-kept q = by (eqb r.end at_stop) refl
    where
      accepts : reference_refusal m.longest r ≡ 0
      accepts = (none-refused m r e h).0

      f : CodonsFit r
      f = codons-fit m.longest r accepts none once

      by : (b : Bool) → eqb r.end at_stop ≡ b → min (length (altered_protein r e)) (length (altered_coding r e) / 3) ≤ codons r
      by true z = omega (arith, ap (λ (l : List ℕ). length l) (all-kept m r e h none once q), f.whole (eqb-true r.end at_stop z))
      by false z =
          or_cases (is Identity (kind_of e)) (eqb r.end at_stop && leb r.ce (cut_swap r e).from) (min (length (altered_protein r e)) (length (altered_coding r e) / 3) ≤ codons r) q
          (λ i. omega (arith, ap (λ (l : List ℕ). length l) (identity-coding m r e h i), length-drop (r.cs - 1) r.letters, cut_ends m.longest r accepts z, begins m r e h))
          (λ k. let no : false ≡ true = sym z ∙ and_left (eqb r.end at_stop) (leb r.ce (cut_swap r e).from) k in let z : ◌≡◌ {A = ℕ} 0 1 = cc in absurd (omega arith))

  kept-reused : keeps_all r e ≡ true → (k : ℕ) → k < codons r → looks r e k ≡ false
  unfolding keeps_all codons cds_size
  kept-reused q k l =
      let stop = eqb r.end at_stop in
      let past = leb r.ce (cut_swap r e).from in
      or_cases (is Identity (kind_of e)) (stop && past) (looks r e k ≡ false) q
      (λ i. ap not (reused-identity r e k none (begins m r e h) i l))
      (λ i. ap not (reused-before r e k none (begins m r e h) (omega (arith, leb-true r.ce (cut_swap r e).from (and_right stop past i), begins m r e h)) l))

  none-looked : keeps_all r e ≡ true → looked_up r e ≡ 0
  unfolding looked_up
  none-looked q = let few = few-kept q in none_below (looks r e) (codons_through_stop r e) (λ k x. kept-reused q k (omega arith))

  -- R goes on behind the edit, and isn't left again
  tail-inside : keeps_all r e ≡ false → is_level r e ≡ true → (k : ℕ) → tail_of r e ≤ k → k < tail_of r e + (length (reference_protein r) - back_of r e) → k < length (altered_coding r e) / 3
      → back_of r e + (k - tail_of r e) < codons r
  tail-inside q l k x y z = by (eqb r.end at_stop) refl
    where
      f : CodonsFit r
      f = codons-fit m.longest r (none-refused m r e h).0 none once

      o : Resumes r e
      o = resumes-if m r e h q l

      by : (b : Bool) → eqb r.end at_stop ≡ b → back_of r e + (k - tail_of r e) < codons r
      by true i = still_counted (tail_of r e) (back_of r e) k (length (reference_protein r)) (codons r) (f.whole (eqb-true r.end at_stop i)) x y o.left
      by false i =
          let v = cut-span m r e h in
          codons_of r (begins m r e h) (cut_ends m.longest r (none-refused m r e h).0 i) _
          (still_inside (r.cs - 1) (cut_swap r e).from (length (cut_swap r e).put) (cut_swap r e).to (size r) (tail_of r e) (back_of r e) k v.front v.ends o.at x
          (le_at _ _ _ (length-coding m r e h) z))

  -- the codons between are read, through the first stop
  middle-stopped : keeps_all r e ≡ false → is_level r e ≡ true → before_stop (middle r e) < length (middle r e) → looked_up r e ≡ length (through_stop (middle r e))
  unfolding looked_up codons_through_stop
  middle-stopped q l d =
      let M = middle r e in
      let R = reference_protein r in
      let n = codons_through_stop r e in
      let fits = pieces-fit m r e h none once in
      let few : length (through_stop M) ≤ tail_of r e - head_of r e = omega (arith, through_le M, length-middle m r e h none once l) in
      let whole : length (altered_protein r e) ≡ head_of r e + length (through_stop M) = ap length (pieces-stopped m r e h none once l d) ∙ length-append (take (head_of r e) R) (through_stop M) ∙ ap (λ (k : ℕ). k + length (through_stop M)) long-head in
      let read : n ≡ head_of r e + length (through_stop M) = read_so_many (length (altered_protein r e)) (head_of r e) (length (through_stop M)) (tail_of r e) (length (altered_coding r e)) whole few (fits.rises l) (fits.tail l) in
      ap (count_to (looks r e)) read
      ∙ count_between (looks r e) (head_of r e) (head_of r e + length (through_stop M)) (head_of r e + length (through_stop M)) (omega arith) (omega arith)
      (record { below = head-reused m r e h q none; between = λ k x y. middle-read m r e h q k x (omega (arith, fits.rises l)); behind = λ k x y. absurd (omega arith) }) ∙ omega arith

  middle-resumed : keeps_all r e ≡ false → is_level r e ≡ true → length (middle r e) ≤ before_stop (middle r e) → looked_up r e ≡ length (through_stop (middle r e))
  unfolding looked_up codons_through_stop
  middle-resumed q l d =
      let M = middle r e in
      let R = reference_protein r in
      let n = codons_through_stop r e in
      let fits = pieces-fit m r e h none once in
      let short : length (through_stop M) ≡ tail_of r e - head_of r e = ap length (through_all M d) ∙ length-middle m r e h none once l in
      let whole : length (altered_protein r e) ≡ tail_of r e + (length R - back_of r e) =
      ap length (pieces-resumed m r e h none once l d)
      ∙ length-append (take (head_of r e) R) (through_stop M ++ drop (back_of r e) R)
      ∙ omega (arith, long-head, length-append (through_stop M) (drop (back_of r e) R), length-drop (back_of r e) R, fits.rises l) in
      let within : (n ≤ tail_of r e + (length R - back_of r e)) × (n ≤ length (altered_coding r e) / 3) × (tail_of r e ≤ n) = read_past (length (altered_protein r e)) (tail_of r e) (length R - back_of r e) (length (altered_coding r e)) whole (fits.tail l) in
      count_between (looks r e) (head_of r e) (tail_of r e) n (fits.rises l) within.2
      (record {
        below = head-reused m r e h q none;
        between = λ k x y. middle-read m r e h q k x y;
        behind = λ k x y. tail-reused m r e h q none l k x (tail-inside q l k x (less k n _ y within.0) (less k n _ y within.1));
      })
      ∙ sym short

  pub looked-middle : is_level r e ≡ true → looked_up r e ≡ length (through_stop (middle r e))
  unfolding head_of tail_of
  looked-middle l = by (keeps_all r e) refl (dec_lt (before_stop (middle r e)) (length (middle r e)))
    where
      by : (q : Bool) → keeps_all r e ≡ q → Dec (before_stop (middle r e) < length (middle r e)) → looked_up r e ≡ length (through_stop (middle r e))
      by true q d =
          let same : tail_of r e - head_of r e ≡ 0 = rw q (omega arith) in
          none-looked q ∙ omega (arith, through_le (middle r e), length-middle m r e h none once l)
      by false q (yes d) = middle-stopped q l d
      by false q (no d) = middle-resumed q l (omega arith)

  -- an identity looks up none
  pub identity-looks : is Identity (kind_of e) ≡ true → looked_up r e ≡ 0
  unfolding keeps_all
  identity-looks i = none-looked (rw i)

-- with exceptions every whole codon through the first stop is looked up
pub excepted_looks : (r : Reference) (e : Asked) → (length r.exceptions ≡ 0 → ⊥) → looked_up r e ≡ codons_through_stop r e
unfolding looked_up
excepted_looks r e d =
    let n = codons_through_stop r e in
    count_between (looks r e) 0 n n (omega arith) (omega arith)
    (record { below = λ k x. absurd (omega arith); between = λ k x y. ap not (read-excepted r e k d); behind = λ k x y. absurd (omega arith) }) ∙ omega arith
