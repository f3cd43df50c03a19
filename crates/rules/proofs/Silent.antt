-- Laws of Silent, told residue by residue before A is written: R and A are the same up to a codon, part there, stop there, or end there.
-- Assumes nothing.
use mathlib.Core.Path.{◌≡◌, refl, sym, ap, ◌∙◌}
use mathlib.Core.Bool.{Bool, true, false, ◌&&◌}
use mathlib.Core.List.{List, [], ◌∷◌, ◌++◌}
use Prim.Native.Nat.{ℕ, zero, suc, ◌+◌, ◌-◌, ◌*◌, ◌/◌, ◌%◌, ◌≤◌, ◌<◌}
use native.Mathlib.Numerals.{add-one}
use native.Mathlib.Omega.{arith}
use lib.Dec.{eqb, eqb-suc-suc}
use lib.ListN.{length, take, drop, get_or, length-drop, drop_of_length-le, take-append-drop}
use lib.Seq.{drop-cons, take_all, get_or-take}
use borrow.Author.Tests.{eqb-true, eqb-false, eq-eqb, ne_eqb}
use Rattle.rules.specs.declared.Exception.{Exception}
use Rattle.rules.specs.Bytes.{byte, same, count}
use Rattle.rules.specs.Codons.{codon}
use Rattle.rules.specs.Translation.{excepted, residues_from, translated, residue_count, through_stop}
use Rattle.rules.specs.Reference.{Reference, at_stop, is_short_end, size, cds_size, cds, reference_protein, is_cut_short}
use Rattle.rules.specs.Refusal.{reference_refusal}
use Rattle.rules.proofs.Tests.{and_left, and_right}
use Rattle.rules.proofs.Trims.{same_self}
use Rattle.rules.proofs.Reference.{accepted, length-cds, whole-codons, protein_read}
use Rattle.rules.proofs.Reading.{rest_of, residue_at_lem, translated-append, residues-more, residues-rest, through_here, through_later, through_rest}

-- nothing is the same as something
same_none : (x : ℕ) (xs : List ℕ) → same [] (x ∷ xs) ≡ false
unfolding same
same_none x xs = refl

same_cons : (x y : ℕ) (xs ys : List ℕ) → same (x ∷ xs) (y ∷ ys) ≡ (eqb x y && same xs ys)
unfolding same
same_cons x y xs ys = refl

-- only the empty list is the same as it
same-empty : (n : ℕ) (R : List ℕ) → same (drop n R) [] ≡ true → n < length R → ⊥
unfolding same
same-empty zero [] h k = omega arith
same-empty zero (x ∷ R) h k = let z : ◌≡◌ {A = ℕ} 0 1 = cc in omega arith
same-empty (suc n) [] h k = omega arith
same-empty (suc n) (x ∷ R) h k = same-empty n R h (omega arith)

left_of_end : (n : ℕ) (R : List ℕ) → n ≤ length R → same (drop n R) [] ≡ eqb n (length R)
unfolding same
left_of_end zero [] h = refl
left_of_end zero (x ∷ R) h = sym (ne_eqb 0 (suc (length R)) (λ z. omega arith))
left_of_end (suc n) [] h = absurd (omega arith)
left_of_end (suc n) (x ∷ R) h = left_of_end n R (omega arith) ∙ sym (eqb-suc-suc n (length R))

-- R beside the translation of a coding part
module _ (t : ℕ) (es : List Exception) (u R : List ℕ) where
  -- the residue of codon k, counted from 0
  abbrev pub residue_at : ℕ → ℕ
  residue_at k = excepted es (k + 1) (codon t (get_or u (k * 3) 0) (get_or u (k * 3 + 1) 0) (get_or u (k * 3 + 2) 0))

  -- what is left of the two from codon k on is the same
  abbrev pub same_from : ℕ → Bool
  same_from k = same (drop k R) (through_stop (residues_from t es (k + 1) (drop (k * 3) u)))

  pub same-all : same R (through_stop (translated t es u)) ≡ same_from 0
  unfolding translated
  same-all = refl

  module _ (k : ℕ) (h : k < length u / 3) where
    stops-here : residue_at k ≡ byte "*" → through_stop (residues_from t es (k + 1) (drop (k * 3) u)) ≡ residue_at k ∷ []
    stops-here z = ap through_stop (residues-more t es u k h) ∙ through_here (residue_at k) _ z

    goes_on : (residue_at k ≡ byte "*" → ⊥) → through_stop (residues_from t es (k + 1) (drop (k * 3) u)) ≡ residue_at k ∷ through_stop (residues_from t es (k + 1 + 1) (drop ((k + 1) * 3) u))
    goes_on z = ap through_stop (residues-more t es u k h) ∙ through_later (residue_at k) _ z

    -- they go on alike
    pub same-on : k < length R → get_or R k 0 ≡ residue_at k → (residue_at k ≡ byte "*" → ⊥) → same_from k ≡ same_from (k + 1)
    same-on i is z =
        let left = through_stop (residues_from t es (k + 1 + 1) (drop ((k + 1) * 3) u)) in
        rw (goes_on z, drop-cons R k 0 i)
        (same_cons (get_or R k 0) (residue_at k) (drop (suc k) R) left ∙ rw (eq-eqb (get_or R k 0) (residue_at k) is) (ap (λ (n : ℕ). same (drop n R) left) (sym (add-one k))))

    -- A stops
    pub same_stop : k < length R → get_or R k 0 ≡ residue_at k → residue_at k ≡ byte "*" → same_from k ≡ eqb (k + 1) (length R)
    same_stop i is z =
        rw (stops-here z, drop-cons R k 0 i)
        (same_cons (get_or R k 0) (residue_at k) (drop (suc k) R) [] ∙ rw (eq-eqb (get_or R k 0) (residue_at k) is) (left_of_end (suc k) R (omega arith) ∙ ap (λ (n : ℕ). eqb n (length R)) (sym (add-one k))))

    -- they part
    pub same_parts : k < length R → (get_or R k 0 ≡ residue_at k → ⊥) → same_from k ≡ false
    same_parts i differ = rw (drop-cons R k 0 i) (by (eqb (residue_at k) (byte "*")) refl)
      where
        by : (b : Bool) → eqb (residue_at k) (byte "*") ≡ b → same (get_or R k 0 ∷ drop (suc k) R) (through_stop (residues_from t es (k + 1) (drop (k * 3) u))) ≡ false
        by true q = rw (stops-here (eqb-true (residue_at k) (byte "*") q)) (same_cons (get_or R k 0) (residue_at k) (drop (suc k) R) [] ∙ rw (ne_eqb (get_or R k 0) (residue_at k) differ))
        by false q = rw (goes_on (eqb-false (residue_at k) (byte "*") q)) (same_cons (get_or R k 0) (residue_at k) (drop (suc k) R) _ ∙ rw (ne_eqb (get_or R k 0) (residue_at k) differ))

    -- R has ended
    pub same-past : length R ≤ k → same_from k ≡ false
    same-past i = rw (drop_of_length-le R {i = k} i) (by (eqb (residue_at k) (byte "*")) refl)
      where
        by : (b : Bool) → eqb (residue_at k) (byte "*") ≡ b → same [] (through_stop (residues_from t es (k + 1) (drop (k * 3) u))) ≡ false
        by true q = rw (stops-here (eqb-true (residue_at k) (byte "*") q)) (same_none (residue_at k) [])
        by false q = rw (goes_on (eqb-false (residue_at k) (byte "*") q)) (same_none (residue_at k) _)

  -- A has no whole codon more
  pub same_rest : (k : ℕ) → k ≡ length u / 3 → same_from k ≡ same (drop k R) (rest_of (length u % 3))
  same_rest k h = rw (residues-rest t es u k (k + 1) h) (ap (same (drop k R)) (through_rest (length u % 3)))

  -- the first k residues are alike, and none is a stop
  pub same-before : (k : ℕ) → k ≤ length u / 3 → ((j : ℕ) → j < k → (j < length R) × (get_or R j 0 ≡ residue_at j) × (residue_at j ≡ byte "*" → ⊥)) → same_from 0 ≡ same_from k
  same-before zero h all = refl
  same-before (suc k) h all =
      let this = all k (omega arith) in
      same-before k (omega arith) (λ j l. all j (omega arith)) ∙ same-on k (omega arith) this.0 this.1 this.2 ∙ ap same_from (add-one k)

-- how often a list has a `*`
count_here : (x : ℕ) (xs : List ℕ) → x ≡ byte "*" → count (byte "*") (x ∷ xs) ≡ suc (count (byte "*") xs)
unfolding count
count_here x xs h = rw (eq-eqb (byte "*") x (sym h))

count_later : (x : ℕ) (xs : List ℕ) → (x ≡ byte "*" → ⊥) → count (byte "*") (x ∷ xs) ≡ count (byte "*") xs
unfolding count
count_later x xs h = rw (ne_eqb (byte "*") x (λ z. h (sym z)))

count_some : (x : ℕ) (xs : List ℕ) → count (byte "*") xs ≤ count (byte "*") (x ∷ xs)
count_some x xs = by (eqb x (byte "*")) refl
  where
    by : (b : Bool) → eqb x (byte "*") ≡ b → count (byte "*") xs ≤ count (byte "*") (x ∷ xs)
    by true h = omega (arith, count_here x xs (eqb-true x (byte "*") h))
    by false h = omega (arith, count_later x xs (eqb-false x (byte "*") h))

pub one_stop : (xs : List ℕ) (j : ℕ) → j < length xs → get_or xs j 0 ≡ byte "*" → 1 ≤ count (byte "*") xs
one_stop [] j h z = absurd (omega arith)
one_stop (x ∷ xs) zero h z = omega (arith, count_here x xs z)
one_stop (x ∷ xs) (suc j) h z = omega (arith, one_stop xs j (omega arith) z, count_some x xs)

two_stops : (xs : List ℕ) (i j : ℕ) → i < j → j < length xs → get_or xs i 0 ≡ byte "*" → get_or xs j 0 ≡ byte "*" → 2 ≤ count (byte "*") xs
two_stops [] i j l h y z = absurd (omega arith)
two_stops (x ∷ xs) i zero l h y z = absurd (omega arith)
two_stops (x ∷ xs) zero (suc j) l h y z = omega (arith, count_here x xs y, one_stop xs j (omega arith) z)
two_stops (x ∷ xs) (suc i) (suc j) l h y z = omega (arith, two_stops xs i j (omega arith) (omega arith) y z, count_some x xs)

-- a list without one is read to its end, and one whose last is its only one no further than that
through_none : (xs : List ℕ) → count (byte "*") xs ≡ 0 → through_stop xs ≡ xs
unfolding through_stop
through_none [] h = refl
through_none (x ∷ xs) h =
    let later : x ≡ byte "*" → ⊥ = λ z. omega (arith, count_here x xs z) in
    through_later x xs later ∙ ap (x ∷◌) (through_none xs (sym (count_later x xs later) ∙ h))

pub through_last : (xs ys : List ℕ) → 1 ≤ length xs → get_or xs (length xs - 1) 0 ≡ byte "*" → count (byte "*") xs ≤ 1 → through_stop (xs ++ ys) ≡ xs
through_last [] ys h z c = absurd (omega arith)
through_last (x ∷ []) ys h z c = through_here x ys z
through_last (x ∷ y ∷ xs) ys h z c =
    let place : suc (suc (length xs)) - 1 ≡ suc (length xs) = omega arith in
    let next : suc (length xs) - 1 ≡ length xs = omega arith in
    let last : get_or (x ∷ y ∷ xs) (suc (length xs)) 0 ≡ byte "*" = ap (λ (n : ℕ). get_or (x ∷ y ∷ xs) n 0) (sym place) ∙ z in
    let later : x ≡ byte "*" → ⊥ = λ q. omega (arith, two_stops (x ∷ y ∷ xs) 0 (suc (length xs)) (omega arith) (omega arith) q last) in
    through_later x (y ∷ xs ++ ys) later
    ∙ ap (x ∷◌) (through_last (y ∷ xs) ys (omega arith) (ap (λ (n : ℕ). get_or (y ∷ xs) n 0) next ∙ last) (omega (arith, count_later x (y ∷ xs) later)))

-- a reference whose R has at most one stop
module _ (longest : ℕ) (r : Reference) (accepts : reference_refusal longest r ≡ 0) (once : count (byte "*") (reference_protein r) ≤ 1) where
  abbrev R : List ℕ
  R = reference_protein r

  -- the transcript from the CDS's first base on
  abbrev pub own : List ℕ
  own = drop (r.cs - 1) r.letters

  -- no residue but the last is a stop
  pub stopless : (j : ℕ) → j + 1 < length R → get_or R j 0 ≡ byte "*" → ⊥
  stopless j h z = by (eqb r.end at_stop) refl
    where
      by : (b : Bool) → eqb r.end at_stop ≡ b → ⊥
      by true e = omega (arith, two_stops R j (length R - 1) (omega arith) (omega arith) z ((protein_read longest r accepts).last (eqb-true r.end at_stop e)))
      by false e = omega (arith, one_stop R j (omega arith) z, (protein_read longest r accepts).none e)

  -- the CDS is the beginning of it, and in a CDS cut short all of it
  stop-read : r.end ≡ at_stop → through_stop (translated r.table r.exceptions own) ≡ R
  unfolding cds reference_protein
  stop-read e =
      let b = (accepted longest r accepts).bounds in
      let p = protein_read longest r accepts in
      let long : length (take (cds_size r) own) ≡ cds_size r = length-cds r b in
      let all : own ≡ take (cds_size r) own ++ drop (cds_size r) own = sym (take-append-drop (cds_size r) own) in
      ap (λ (s : List ℕ). through_stop (translated r.table r.exceptions s)) all
      ∙ ap through_stop (translated-append r.table r.exceptions (take (cds_size r) own) (drop (cds_size r) own) (ap (λ (n : ℕ). n % 3) long ∙ whole-codons r b e))
      ∙ through_last R _ (omega (arith, p.two)) (p.last e) once

  cut-read : eqb r.end at_stop ≡ false → through_stop (translated r.table r.exceptions own) ≡ R
  unfolding cds reference_protein is_cut_short cds_size size
  cut-read e =
      let a = accepted longest r accepts in
      let ends : r.ce ≡ length r.letters =
      eqb-true r.ce (length r.letters) (and_right (is_short_end r.end) (eqb r.ce (length r.letters)) (and_left (is_short_end r.end && eqb r.ce (length r.letters)) _ (a.cut e))) in
      let all : take (cds_size r) own ≡ own = take_all (cds_size r) own (omega (arith, length-drop (r.cs - 1) r.letters, a.bounds.first)) in
      ap (λ (s : List ℕ). through_stop (translated r.table r.exceptions s)) (sym all) ∙ through_none R ((protein_read longest r accepts).none e)

  -- the protein of the transcript as it is
  pub own-protein : through_stop (translated r.table r.exceptions own) ≡ R
  own-protein = by (eqb r.end at_stop) refl
    where
      by : (b : Bool) → eqb r.end at_stop ≡ b → through_stop (translated r.table r.exceptions own) ≡ R
      by true e = stop-read (eqb-true r.end at_stop e)
      by false e = cut-read e

  -- a residue that isn't the last, by its codon
  reference-at : (j : ℕ) → j + 1 < length R → get_or R j 0 ≡ residue_at r.table r.exceptions own R j
  unfolding reference_protein cds residue_count
  reference-at j h =
      let b = (accepted longest r accepts).bounds in
      let long : length (take (cds_size r) own) ≡ cds_size r = length-cds r b in
      let in-cds : j * 3 + 3 ≤ cds_size r = omega (arith, (protein_read longest r accepts).counted) in
      let letter : (i : ℕ) → i < cds_size r → get_or (take (cds_size r) own) i 0 ≡ get_or own i 0 = λ i l. get_or-take (cds_size r) own i 0 l in
      residue_at_lem r.table r.exceptions (take (cds_size r) own) j (omega arith)
      ∙ rw (letter (j * 3) (omega arith), letter (j * 3 + 1) (omega arith), letter (j * 3 + 2) (omega arith))

  -- of a coding part whose first k codons are the transcript's, R's first k residues are
  module _ (u : List ℕ) (k : ℕ) (many : k ≤ length u / 3) (few : k + 1 ≤ length R) (alike : (i : ℕ) → i < k * 3 → get_or u i 0 ≡ get_or own i 0) where
    pub same-codons : same_from r.table r.exceptions u R 0 ≡ same_from r.table r.exceptions u R k
    same-codons = same-before r.table r.exceptions u R k many (λ j l.
        let is = reference-at j (omega arith) ∙ sym (rw (alike (j * 3) (omega arith), alike (j * 3 + 1) (omega arith), alike (j * 3 + 2) (omega arith)) refl) in
        (omega arith, is, λ z. stopless j (omega arith) (is ∙ z)))

  -- where what is left is the transcript's own, it is R's
  pub same-own : (u : List ℕ) (k : ℕ) → k ≤ length own / 3 → k + 1 ≤ length R → drop (k * 3) u ≡ drop (k * 3) own → same_from r.table r.exceptions u R k ≡ true
  same-own u k many few is =
      ap (λ (s : List ℕ). same (drop k R) (through_stop (residues_from r.table r.exceptions (k + 1) s))) is
      ∙ sym (same-codons own k many few (λ i l. refl))
      ∙ sym (same-all r.table r.exceptions own R)
      ∙ ap (same R) own-protein
      ∙ same_self R
