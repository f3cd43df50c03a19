-- Laws of what is known without R: a protein that ends in a `*` has more than one exactly if its first isn't its last residue.
-- Assumes nothing.
use Rattle.std.specs.Prelude.{if◌then◌else◌}
use mathlib.Core.Path.{◌≡◌, refl, sym, ap, ◌∙◌}
use mathlib.Core.Bool.{Bool, true, false}
use mathlib.Core.List.{List, [], ◌∷◌, ◌++◌, append-nil}
use Prim.Native.Nat.{ℕ, suc, ◌+◌, ◌-◌, ◌/◌, ◌%◌, ◌≤◌}
use native.Mathlib.Omega.{arith}
use lib.Dec.{eqb, ltb}
use lib.ListN.{length, get_or, take, drop, length-take, length-drop}
use borrow.Author.Tests.{eqb-true, eqb-false, eq-eqb, ne_eqb, lt-ltb, le-ltb, ltb-true, ltb-false}
use Rattle.rules.specs.declared.Form.{Form}
use Rattle.rules.specs.declared.Cds.{Cds}
use Rattle.rules.specs.declared.Exceptions.{Exceptions}
use Rattle.rules.specs.Bytes.{byte, all, count}
use Rattle.rules.specs.Letters.{is_letter}
use Rattle.rules.specs.Translation.{exception_list, translated, residue_count, before_stop, whole_codons, folded_translated}
use Rattle.rules.specs.Reference.{cds_size, reference_protein}
use Rattle.rules.specs.Views.{reference_of}
use Rattle.rules.proofs.Tests.{all_take}
use Rattle.rules.proofs.Translation.{length-translated}
use Rattle.rules.proofs.Reading.{rest_of, whole-and-rest}
use Rattle.rules.proofs.Reference.{ReferenceProtein, length-cds, whole-codons}
use Rattle.letters.specs.Sets.{is_base}
use Rattle.places.proofs.Strict.{strict-translated}
use Rattle.reference.specs.declared.Known.{Known}
use Rattle.reference.specs.Known.{known_of, Readable}
use Rattle.reference.proofs.Reading.{cds-part, part-letters}

-- a `*` at the end is one at least
last_counts : (x : ℕ) (l : List ℕ) → get_or (x ∷ l) (length l) 0 ≡ byte "*" → 1 ≤ count (byte "*") (x ∷ l)
unfolding count
last_counts x [] h = rw (eq-eqb (byte "*") x (sym h)) (omega arith)
last_counts x (y ∷ l) h = by (eqb (byte "*") x) (last_counts y l h)
  where
    by : (t : Bool) → 1 ≤ count (byte "*") (y ∷ l) → 1 ≤ (if t then suc (count (byte "*") (y ∷ l)) else count (byte "*") (y ∷ l))
    by true k = omega arith
    by false k = k

less : (a b : ℕ) → ltb (suc a + 1) (suc (suc b)) ≡ ltb (a + 1) (suc b)
less a b = by (ltb (a + 1) (suc b)) refl
  where
    by : (t : Bool) → ltb (a + 1) (suc b) ≡ t → ltb (suc a + 1) (suc (suc b)) ≡ ltb (a + 1) (suc b)
    by true h = lt-ltb (suc a + 1) (suc (suc b)) (omega (arith, ltb-true (a + 1) (suc b) h)) ∙ sym h
    by false h = le-ltb (suc a + 1) (suc (suc b)) (omega (arith, ltb-false (a + 1) (suc b) h)) ∙ sym h

several_of : (x : ℕ) (l : List ℕ) → get_or (x ∷ l) (length l) 0 ≡ byte "*" → ltb (before_stop (x ∷ l) + 1) (suc (length l)) ≡ ltb 1 (count (byte "*") (x ∷ l))
unfolding before_stop count
several_of x [] h = rw (eq-eqb x (byte "*") h, eq-eqb (byte "*") x (sym h))
several_of x (y ∷ l) h = at (eqb x (byte "*")) refl (several_of y l h) (last_counts y l h)
  where
    at : (b : Bool) → eqb x (byte "*") ≡ b → ltb (before_stop (y ∷ l) + 1) (suc (length l)) ≡ ltb 1 (count (byte "*") (y ∷ l)) → 1 ≤ count (byte "*") (y ∷ l)
        → ltb ((if b then 0 else suc (before_stop (y ∷ l))) + 1) (suc (suc (length l))) ≡ ltb 1 (if eqb (byte "*") x then suc (count (byte "*") (y ∷ l)) else count (byte "*") (y ∷ l))
    at true e k n =
        rw (eq-eqb (byte "*") x (sym (eqb-true x (byte "*") e)))
        (lt-ltb (0 + 1) (suc (suc (length l))) (omega arith) ∙ sym (lt-ltb 1 (suc (count (byte "*") (y ∷ l))) (omega arith)))
    at false e k n = rw (ne_eqb (byte "*") x (λ z. eqb-false x (byte "*") e (sym z))) (less (before_stop (y ∷ l)) (length l) ∙ k)

several_in : (l : List ℕ) → 1 ≤ length l → get_or l (length l - 1) 0 ≡ byte "*" → ltb (before_stop l + 1) (length l) ≡ ltb 1 (count (byte "*") l)
several_in [] some h = absurd (omega arith)
several_in (x ∷ l) some h =
    let back : suc (length l) - 1 ≡ length l = omega arith in
    several_of x l (ap (λ (n : ℕ). get_or (x ∷ l) n 0) (sym back) ∙ h)

before_le : (l : List ℕ) → before_stop l ≤ length l
unfolding before_stop
before_le [] = omega arith
before_le (x ∷ l) = by (eqb x (byte "*")) (before_le l)
  where
    by : (t : Bool) → before_stop l ≤ length l → (if t then 0 else suc (before_stop l)) ≤ suc (length l)
    by true h = omega arith
    by false h = omega arith

module _ (s : List ℕ) (c : Cds) (e : Exceptions) (x : Readable s c e) (R : ReferenceProtein (reference_of s c e)) where
  abbrev part : List ℕ
  part = take (c.ce - (c.cs - 1)) (drop (c.cs - 1) s)

  -- no `*` at all
  pub none-several : (c.end ≡ 0 → ⊥) → false ≡ ltb 1 (count (byte "*") (reference_protein (reference_of s c e)))
  none-several h =
      let none = R.none (ne_eqb c.end 0 h) in
      sym (le-ltb 1 (count (byte "*") (reference_protein (reference_of s c e))) (omega (arith, none)))

  -- the search ends within the codons
  pub stop-within : (r : ℕ) → r ≡ before_stop (folded_translated c.table (exception_list e) (whole_codons part)) → r ≤ length s
  unfolding whole_codons residue_count
  stop-within r is =
      let letters : all is_letter (whole_codons part) ≡ true = all_take is_letter (length part - length part % 3) part (part-letters s c e x) in
      let strict = strict-translated (whole_codons part) letters c.table (exception_list e) in
      let xs = translated c.table (exception_list e) (whole_codons part) in
      let many : length xs ≡ residue_count (length (whole_codons part)) = length-translated c.table (exception_list e) (whole_codons part) in
      omega (arith, is, ap before_stop strict, before_le xs, many, length-take (length part - length part % 3) part, length-take (c.ce - (c.cs - 1)) (drop (c.cs - 1) s), length-drop (c.cs - 1) s)

  -- the last codon is a `*`
  pub first-tells : (r : ℕ) → r ≡ before_stop (folded_translated c.table (exception_list e) (whole_codons part)) → c.end ≡ 0
      → ltb (r + 1) ((c.ce - (c.cs - 1)) / 3) ≡ ltb 1 (count (byte "*") (reference_protein (reference_of s c e)))
  unfolding reference_protein whole_codons residue_count cds_size
  first-tells r is at =
      let t = c.table in
      let es = exception_list e in
      let letters : all is_letter (whole_codons part) ≡ true = all_take is_letter (length part - length part % 3) part (part-letters s c e x) in
      let strict : folded_translated t es (whole_codons part) ≡ translated t es (whole_codons part) = strict-translated (whole_codons part) letters t es in
      let long : length part ≡ c.ce + 1 - c.cs = ap length (cds-part s c e x) ∙ length-cds (reference_of s c e) x.sound.bounds in
      let even : length part % 3 ≡ 0 = ap (λ (n : ℕ). n % 3) long ∙ whole-codons (reference_of s c e) x.sound.bounds at in
      let all : translated t es part ≡ translated t es (whole_codons part) =
      whole-and-rest t es part ∙ ap (λ (n : ℕ). translated t es (whole_codons part) ++ rest_of n) even ∙ append-nil (translated t es (whole_codons part)) in
      let read : reference_protein (reference_of s c e) ≡ translated t es (whole_codons part) = ap (translated t es) (sym (cds-part s c e x)) ∙ all in
      let many : length (reference_protein (reference_of s c e)) ≡ (c.ce - (c.cs - 1)) / 3 = R.counted ∙ omega (arith, even, long, x.sound.bounds.first) in
      let first : r ≡ before_stop (reference_protein (reference_of s c e)) = is ∙ ap before_stop strict ∙ sym (ap before_stop read) in
      rw (first, ← many) (several_in (reference_protein (reference_of s c e)) (omega (arith, R.two)) (R.last at))

pub known_is : (f : Form) (s : List ℕ) (c : Cds) (e : Exceptions) (n : ℕ) (plain several : Bool) → 1 ≤ c.cs → n ≡ (c.ce - (c.cs - 1) + 2) / 3 → plain ≡ all is_base s
    → several ≡ ltb 1 (count (byte "*") (reference_protein (reference_of s c e))) → ◌≡◌ {A = Known} record { form = f; cds = c; residues = n; plain = plain; several = several } (known_of f s c e)
unfolding known_of residue_count cds_size
known_is f s c e n plain several first is p q =
    let count : n ≡ (c.ce + 1 - c.cs + 2) / 3 = omega arith in
    rw (count, p, q)
