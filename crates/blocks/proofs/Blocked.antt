-- Laws of codons read in blocks.
-- Assumes nothing.
use mathlib.Core.Path.{◌≡◌, refl, sym, ap, ◌∙◌}
use mathlib.Core.Bool.{Bool, true}
use mathlib.Core.List.{List, [], ◌∷◌}
use Prim.Native.Nat.{ℕ, ◌+◌, ◌*◌, ◌/◌, ◌≤◌, ◌<◌}
use native.Mathlib.Omega.{arith}
use lib.ListN.{length, take, drop, get_or}
use lib.Seq.{get_or-take, get_or-drop}
use Rattle.rules.specs.declared.Exception.{Exception}
use Rattle.rules.specs.declared.Exceptions.{Exceptions}
use Rattle.rules.specs.Bytes.{all, same, over}
use Rattle.rules.specs.Letters.{is_letter}
use Rattle.rules.specs.Translation.{exception_list, excepted, residue_count, folded_translated}
use Rattle.rules.specs.Trims.{common_prefix}
use Rattle.rules.specs.Altered.{part}
use Rattle.rules.proofs.Trims.{same-is, cp_take}
use Rattle.rules.proofs.Over.{read_back, fits_over}
use Rattle.rules.proofs.Reading.{residue_at_lem}
use Rattle.rules.proofs.Translation.{length_exceptions, length-translated}
use Rattle.letters.specs.Sets.{is_base}
use Rattle.excepted.specs.Exceptions.{next_from}
use Rattle.excepted.proofs.Putting.{next_clear}
use Rattle.places.specs.Places.{codon_at, fold_to_bases}
use Rattle.places.proofs.Strict.{strict-translated, whole_bases, bases_fold}
use Rattle.altered.proofs.Stretches.{part_at}
use Rattle.blocks.specs.Blocks.{ReadsAs, Unexcepted}

-- the codons of a part, by place
pub codon-part : (t : ℕ) (s : List ℕ) (at n i : ℕ) → i < n → codon_at t (part at (at + n * 3) s) i ≡ codon_at t (drop at s) i
unfolding codon_at
codon-part t s at n i h =
    let letter : (j : ℕ) → j < n * 3 → get_or (part at (at + n * 3) s) j 0 ≡ get_or (drop at s) j 0 = λ j l. part_at at (at + n * 3) s j (omega arith) ∙ sym (get_or-drop at s j 0) in
    rw (letter (i * 3) (omega arith), letter (i * 3 + 1) (omega arith), letter (i * 3 + 2) (omega arith))

-- the codons behind a codon's place
pub codon_behind : (t : ℕ) (s : List ℕ) (first k i : ℕ) → codon_at t (drop (first + k * 3) s) i ≡ codon_at t (drop first s) (k + i)
unfolding codon_at
codon_behind t s first k i =
    let letter : (d : ℕ) → get_or (drop (first + k * 3) s) (i * 3 + d) 0 ≡ get_or (drop first s) ((k + i) * 3 + d) 0 = λ d.
    let place : first + k * 3 + (i * 3 + d) ≡ first + ((k + i) * 3 + d) = omega arith in
    get_or-drop (first + k * 3) s (i * 3 + d) 0 ∙ ap (λ (j : ℕ). get_or s j 0) place ∙ sym (get_or-drop first s ((k + i) * 3 + d) 0) in
    let one : i * 3 ≡ i * 3 + 0 = omega arith in
    let own : (k + i) * 3 + 0 ≡ (k + i) * 3 = omega arith in
    let whole : get_or (drop (first + k * 3) s) (i * 3) 0 ≡ get_or (drop first s) ((k + i) * 3) 0 = ap (λ (j : ℕ). get_or (drop (first + k * 3) s) j 0) one ∙ letter 0 ∙ ap (λ (j : ℕ). get_or (drop first s) j 0) own in
    rw (whole, letter 1, letter 2)

-- a block of letters that are the reference's reads as the reference does
pub same_read : (t : ℕ) (s made own : List ℕ) (at n : ℕ) (b : List ℕ) → b ≡ part at (at + n * 3) made → same (part at (at + n * 3) s) b ≡ true → ReadsAs t (drop at s) own n → ReadsAs t (drop at made) own n
same_read t s made own at n b is alike reads =
    let equal : part at (at + n * 3) s ≡ part at (at + n * 3) made = same-is (part at (at + n * 3) s) b alike ∙ is in
    record {
      each = λ i l. reads.each i l ∙ sym (codon-part t s at n i l) ∙ ap (λ (u : List ℕ). codon_at t u i) equal ∙ codon-part t made at n i l;
    }

-- what a block reads as, the codons there read as
pub block_read : (t : ℕ) (made own : List ℕ) (at n r : ℕ) (b : List ℕ) → b ≡ part at (at + n * 3) made → r ≤ n → ReadsAs t b own r → ReadsAs t (drop at made) own r
block_read t made own at n r b is few reads =
    record { each = λ i l. reads.each i l ∙ ap (λ (u : List ℕ). codon_at t u i) is ∙ codon-part t made at n i (omega arith) }

-- a block that is read, without exceptions
module _ (t : ℕ) (b : List ℕ) (letters : all is_letter b ≡ true) where
  pub plain-block : (plain : Bool) → plain ≡ all is_base b → plain ≡ true → fold_to_bases b ≡ true
  plain-block plain is h = whole_bases b (bases_fold b (sym is ∙ h))

  -- the residues that are read back are the codons'
  pub read-codon : (i : ℕ) → i < length b / 3 → get_or (folded_translated t [] b) i 0 ≡ codon_at t b i
  unfolding codon_at excepted
  read-codon i h = ap (λ (u : List ℕ). get_or u i 0) (strict-translated b letters t []) ∙ residue_at_lem t [] b i h

  pub length-read : (n : ℕ) → length b ≡ n * 3 → length (folded_translated t [] b) ≡ n
  unfolding residue_count
  length-read n h = ap length (strict-translated b letters t []) ∙ length-translated t [] b ∙ omega arith

  pub fits_read : (own d out : List ℕ) → length b ≡ length own * 3 → out ≡ over (folded_translated t [] b) d → length own ≤ length out
  fits_read own d out size is = fits_over (folded_translated t [] b) d out (length own) (sym (length-read (length own) size)) is

  pub prefix-read : (own d out : List ℕ) (n r : ℕ) → length b ≡ n * 3 → out ≡ over (folded_translated t [] b) d → r ≡ common_prefix (take n out) own → r ≤ n → ReadsAs t b own r
  prefix-read own d out n r size is prefix few =
      let back : take n out ≡ folded_translated t [] b = read_back (folded_translated t [] b) d out n (sym (length-read n size)) is in
      let firsts : take r (folded_translated t [] b) ≡ take r own = cp_take r (folded_translated t [] b) own (omega (arith, prefix, ap (λ (u : List ℕ). common_prefix u own) back)) in
      record {
        each = λ i l. sym (get_or-take r own i 0 l) ∙ ap (λ (u : List ℕ). get_or u i 0) (sym firsts) ∙ get_or-take r (folded_translated t [] b) i 0 l ∙ read-codon i (omega arith);
      }

-- none are counted, none are there
pub no_exceptions_lem : (e : Exceptions) → e.count ≡ 0 → exception_list e ≡ []
no_exceptions_lem e h = by (exception_list e) (length_exceptions e ∙ h)
  where
    by : {A : Type 0} (xs : List A) → length xs ≡ 0 → xs ≡ []
    by [] k = refl
    by (x ∷ xs) k = absurd (omega arith)

-- codons before the next with an exception
pub clear_next : (es : List Exception) (k past next n : ℕ) → k < past → next ≡ next_from es (k + 1) past → k + n < next → Unexcepted es k n
clear_next es k past next n h is l =
    let clear = next_clear es k past next h is in
    record { each = λ i v m. clear.none (k + i + 1) v (omega arith) (omega arith) }

pub next_ahead : (es : List Exception) (k past next : ℕ) → k < past → next ≡ next_from es (k + 1) past → k < next
next_ahead es k past next h is = (next_clear es k past next h is).ahead
