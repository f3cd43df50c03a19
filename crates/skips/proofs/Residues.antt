-- The residue of a codon, by the number of its letters.
-- Assumes nothing.
use mathlib.Core.Path.{◌≡◌, refl, sym, ap, ◌∙◌}
use mathlib.Core.Bool.{true, false}
use mathlib.Core.List.{List, [], ◌++◌}
use Prim.Native.Nat.{ℕ, zero, suc, ◌+◌, ◌-◌, ◌*◌, ◌%◌, ◌<◌, ◌≤◌}
use native.Mathlib.Decide.{dec_lt}
use native.Mathlib.Omega.{arith}
use lib.Dec.{eqb}
use lib.ListN.{length, get_or, get_or-eq_default}
use lib.Seq.{get_or_at}
use borrow.Author.Tests.{eq-eqb, ne_eqb}
use Rattle.rules.specs.declared.Exception.{Exception}
use Rattle.rules.specs.Bytes.{same, all}
use Rattle.rules.specs.Letters.{letter_set, is_letter}
use Rattle.rules.specs.Codons.{residue_x, codon}
use Rattle.rules.specs.Translation.{exception_list, excepted, translated, residue_count, whole_codons}
use Rattle.rules.specs.Reference.{cds, reference_protein}
use Rattle.rules.specs.Packed.{letters_by}
use Rattle.rules.specs.Views.{bare}
use Rattle.rules.specs.Editions.{codon_letters, codon_residue, is_equal_codon}
use Rattle.rules.proofs.Lists.{all_at}
use Rattle.rules.proofs.Translation.{length-translated}
use Rattle.rules.proofs.Reading.{rest_of, whole-and-rest, length_whole, residue_at_lem}
use Rattle.codons.specs.Tables.{HoldsCode}
use Rattle.entries.specs.Entries.{base_at, entry_of, residue_by}
use Rattle.entries.proofs.Entries.{none_set, by-none, by-cut, by_whole}
use Rattle.alike.specs.declared.Edition.{Edition}
use Rattle.alike.specs.Reading.{edition_of}
use Rattle.alike.proofs.Letters.{set_some, set_small, same-letters}
use Rattle.alike.proofs.Judged.{letters-of-cds, entry-of}
use Rattle.skips.specs.Walks.{Reads}

-- the residue of codon i + 1 of letters
module _ (t : ℕ) (es : List Exception) (u : List ℕ) (residues : List ℕ) (code : HoldsCode t residues) (good : all is_letter u ≡ true) (i entry : ℕ) (is : entry ≡ letter_set (get_or u (i * 3) 0) * 256 + letter_set (get_or u (i * 3 + 1) 0) * 16 + letter_set (get_or u (i * 3 + 2) 0)) where
  there : (k : ℕ) → k < length u → (0 < letter_set (get_or u k 0)) × (letter_set (get_or u k 0) < 16)
  there k h = (set_some (get_or u k 0) (all_at is_letter u k good h), set_small (get_or u k 0) (all_at is_letter u k good h))

  behind : (k : ℕ) → length u ≤ k → letter_set (get_or u k 0) ≡ 0
  behind k h = ap letter_set (get_or-eq_default u 0 {n = k} h) ∙ none_set

  read_none : length u ≤ i * 3 → residue_by residues es entry (i + 1) ≡ get_or (translated t es u) i 0
  unfolding residue_count
  read_none h =
      by-none residues es entry (i + 1) (omega (arith, is, behind (i * 3) h, behind (i * 3 + 1) (omega arith), behind (i * 3 + 2) (omega arith)))
      ∙ sym (get_or-eq_default (translated t es u) 0 {n = i} (omega (arith, length-translated t es u)))

  read-cut : i * 3 < length u → length u ≤ i * 3 + 2 → residue_by residues es entry (i + 1) ≡ get_or (translated t es u) i 0
  unfolding residue_count
  read-cut h k =
      let third = behind (i * 3 + 2) k in
      let first = there (i * 3) h in
      let whole : length (translated t es (whole_codons u)) ≡ i = length-translated t es (whole_codons u) ∙ omega (arith, length_whole u) in
      by-cut residues es entry (i + 1) (λ z. omega (arith, is, first.0)) (omega (arith, is, third))
      ∙ sym (rw (whole-and-rest t es u) (some-rest (length u % 3) (omega arith) whole))
    where
      some-rest : (m : ℕ) → (m ≡ 0 → ⊥) → length (translated t es (whole_codons u)) ≡ i → get_or (translated t es (whole_codons u) ++ rest_of m) i 0 ≡ residue_x
      some-rest zero rest w = absurd (rest refl)
      some-rest (suc m) rest w = get_or_at (translated t es (whole_codons u)) residue_x [] 0 i w

  read_whole : i * 3 + 2 < length u → residue_by residues es entry (i + 1) ≡ get_or (translated t es u) i 0
  unfolding codon
  read_whole h =
      let a = there (i * 3) (omega arith) in
      let b = there (i * 3 + 1) (omega arith) in
      let c = there (i * 3 + 2) h in
      by_whole residues es entry (i + 1) (λ z. omega (arith, is, a.0)) (λ z. omega (arith, is, c.0, c.1))
      ∙ ap (excepted es (i + 1)) (ap (λ (e : ℕ). get_or residues e 0) is ∙ code.entry _ _ _ a.1 b.1 c.1)
      ∙ sym (residue_at_lem t es u i (omega arith))

  pub residue-read : residue_by residues es entry (i + 1) ≡ get_or (translated t es u) i 0
  residue-read = by (dec_lt (i * 3) (length u)) (dec_lt (i * 3 + 2) (length u))
    where
      by : Dec (i * 3 < length u) → Dec (i * 3 + 2 < length u) → residue_by residues es entry (i + 1) ≡ get_or (translated t es u) i 0
      by (no h) d = read_none (omega arith)
      by (yes h) (yes k) = read_whole k
      by (yes h) (no k) = read-cut h (omega arith)

-- the residue of codon n of an edition
pub residue_of : (s : List ℕ) (x : Edition) (residues : List ℕ) → Reads s x residues → (n entry : ℕ) → 1 ≤ n → entry ≡ entry_of (bare (letters_by x.form s) x.cds) n
    → residue_by residues (exception_list x.e) entry n ≡ codon_residue (edition_of s x) n
unfolding codon_residue reference_protein entry_of base_at
residue_of s x residues reads n entry one is =
    let next : n - 1 + 1 ≡ n = omega arith in
    ap (residue_by residues (exception_list x.e) entry) (sym next)
    ∙ residue-read x.cds.table (exception_list x.e) (cds (edition_of s x)) residues reads.code (letters-of-cds s x reads.fits) (n - 1) entry (is ∙ entry-of s x reads.fits n)

-- whether a codon is equal in two editions
module _ (first second : List ℕ) (r s : Edition) (a b : List ℕ) (x : Reads first r a) (y : Reads second s b) (n p q : ℕ) (one : 1 ≤ n)
    (is : p ≡ entry_of (bare (letters_by r.form first) r.cds) n) (are : q ≡ entry_of (bare (letters_by s.form second) s.cds) n) where
  letters-by : same (codon_letters (edition_of first r) n) (codon_letters (edition_of second s) n) ≡ eqb p q
  letters-by =
      same-letters (edition_of first r) (edition_of second s) n (letters-of-cds first r x.fits) (letters-of-cds second s y.fits) one
      ∙ rw (is, are, entry-of first r x.fits n, entry-of second s y.fits n)

  pub other-letters : (p ≡ q → ⊥) → is_equal_codon (edition_of first r) (edition_of second s) n ≡ false
  unfolding is_equal_codon
  other-letters h = rw (letters-by, ne_eqb p q h)

  module _ (h : p ≡ q) (c d : ℕ) (e : c ≡ residue_by a (exception_list r.e) p n) (f : d ≡ residue_by b (exception_list s.e) q n) where
    by-residues : is_equal_codon (edition_of first r) (edition_of second s) n ≡ eqb c d
    unfolding is_equal_codon
    by-residues =
        rw (letters-by, eq-eqb p q h, e ∙ residue_of first r a x n p one is, f ∙ residue_of second s b y n q one are)

    pub other-residues : (c ≡ d → ⊥) → is_equal_codon (edition_of first r) (edition_of second s) n ≡ false
    other-residues k = by-residues ∙ ne_eqb c d k

    pub same-residues : c ≡ d → is_equal_codon (edition_of first r) (edition_of second s) n ≡ true
    same-residues k = by-residues ∙ eq-eqb c d k
