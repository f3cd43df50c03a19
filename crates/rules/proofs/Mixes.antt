-- E2 moves no stop: the codon rule gives `*` for the same sets as document 01's, so a translation has its stops where it had them, exceptions or
-- none, and what reads the stops alone (refusals 6 and 28, Unknown, the stop cut, the length of A) is what it was. Assumes nothing.
use Rattle.std.specs.Prelude.{if◌then◌else◌}
use mathlib.Core.Path.{◌≡◌, refl, sym, ap, ◌∙◌}
use mathlib.Core.Bool.{Bool, true, false}
use mathlib.Core.List.{List, [], ◌∷◌, map}
use Prim.Native.Nat.{ℕ, suc}
use lib.Dec.{eqb}
use lib.ListN.{length, length-map}
use borrow.Author.Tests.{eq-eqb, eqb-true, eqb-false, ne_eqb}
use Rattle.rules.specs.declared.Exception.{Exception}
use Rattle.rules.specs.Bytes.{byte, count}
use Rattle.rules.specs.Letters.{letter_set}
use Rattle.rules.specs.Codons.{residue_x, residues, all_are, exactly, mixed, agreed, codon_rule, codon}
use Rattle.rules.specs.Translation.{excepted, residues_from, translated, before_stop, through_stop}

-- document 01's rule: every mix is X
abbrev pub agreed_before : List ℕ → ℕ
agreed_before [] = residue_x
agreed_before (r ∷ rs) = if all_are r rs then r else residue_x

abbrev pub codon_before : ℕ → ℕ → ℕ → ℕ → ℕ
codon_before t a b c = agreed_before (residues t (letter_set a) (letter_set b) (letter_set c))

abbrev pub is_stop : ℕ → Bool
is_stop r = eqb r (byte "*")

-- no mix is a stop
mixed_no_stop : (rs : List ℕ) → is_stop (mixed rs) ≡ false
mixed_no_stop rs = by (exactly (byte "D") (byte "N") rs) (exactly (byte "E") (byte "Q") rs)
  where
    by : (b z : Bool) → is_stop (if b then byte "B" else if z then byte "Z" else residue_x) ≡ false
    by true z = refl
    by false true = refl
    by false false = refl

pub agreed_stops : (rs : List ℕ) → is_stop (agreed rs) ≡ is_stop (agreed_before rs)
agreed_stops [] = refl
agreed_stops (r ∷ rs) = by (all_are r rs)
  where
    by : (one : Bool) → is_stop (if one then r else mixed (r ∷ rs)) ≡ is_stop (if one then r else residue_x)
    by true = refl
    by false = mixed_no_stop (r ∷ rs)

-- the rule gives `*` for the same sets as before
pub stops_as_before : (t a b c : ℕ) → is_stop (codon t a b c) ≡ is_stop (codon_before t a b c)
unfolding codon codon_rule
stops_as_before t a b c = agreed_stops (residues t (letter_set a) (letter_set b) (letter_set c))

-- `residues_from`, by document 01's rule
abbrev pub residues_before : ℕ → List Exception → ℕ → List ℕ → List ℕ
residues_before t es n [] = []
residues_before t es n (a ∷ []) = residue_x ∷ []
residues_before t es n (a ∷ b ∷ []) = residue_x ∷ []
residues_before t es n (a ∷ b ∷ c ∷ s) = excepted es n (codon_before t a b c) ∷ residues_before t es (suc n) s

-- an exception replaces either residue by the same one
excepted_stops : (es : List Exception) (n r r' : ℕ) → is_stop r ≡ is_stop r' → is_stop (excepted es n r) ≡ is_stop (excepted es n r')
unfolding excepted
excepted_stops [] n r r' h = h
excepted_stops (e ∷ es) n r r' h = excepted_stops es n _ _ (by (eqb e.codon n))
  where
    by : (here : Bool) → is_stop (if here then e.residue else r) ≡ is_stop (if here then e.residue else r')
    by true = refl
    by false = h

stops_from_lem : (t : ℕ) (es : List Exception) (n : ℕ) (s : List ℕ) → map is_stop (residues_from t es n s) ≡ map is_stop (residues_before t es n s)
unfolding residues_from
stops_from_lem t es n [] = refl
stops_from_lem t es n (a ∷ []) = refl
stops_from_lem t es n (a ∷ b ∷ []) = refl
stops_from_lem t es n (a ∷ b ∷ c ∷ s) =
    rw (excepted_stops es n (codon t a b c) (codon_before t a b c) (stops_as_before t a b c), stops_from_lem t es (suc n) s)

-- a translation has its stops where it had them
pub no_stop_moves : (t : ℕ) (es : List Exception) (s : List ℕ) → map is_stop (translated t es s) ≡ map is_stop (residues_before t es 1 s)
unfolding translated
no_stop_moves t es s = stops_from_lem t es 1 s

-- what reads the stops alone, of which residues are stops
abbrev first_in : List Bool → ℕ
first_in [] = 0
first_in (true ∷ bs) = 0
first_in (false ∷ bs) = suc (first_in bs)

abbrev through_in : List Bool → ℕ
through_in [] = 0
through_in (true ∷ bs) = 1
through_in (false ∷ bs) = suc (through_in bs)

abbrev count_in : List Bool → ℕ
count_in [] = 0
count_in (true ∷ bs) = suc (count_in bs)
count_in (false ∷ bs) = count_in bs

before-is : (rs : List ℕ) → before_stop rs ≡ first_in (map is_stop rs)
unfolding before_stop
before-is [] = refl
before-is (r ∷ rs) = by (is_stop r) (before-is rs)
  where
    by : (stop : Bool) → before_stop rs ≡ first_in (map is_stop rs) → (if stop then 0 else suc (before_stop rs)) ≡ first_in (stop ∷ map is_stop rs)
    by true h = refl
    by false h = ap suc h

through_is : (rs : List ℕ) → length (through_stop rs) ≡ through_in (map is_stop rs)
unfolding through_stop
through_is [] = refl
through_is (r ∷ rs) = by (is_stop r) (through_is rs)
  where
    by : (stop : Bool) → length (through_stop rs) ≡ through_in (map is_stop rs) → length (if stop then r ∷ [] else (r ∷ through_stop rs)) ≡ through_in (stop ∷ map is_stop rs)
    by true h = refl
    by false h = ap suc h

count-is : (rs : List ℕ) → count (byte "*") rs ≡ count_in (map is_stop rs)
unfolding count
count-is [] = refl
count-is (r ∷ rs) = by (is_stop r) refl (count-is rs)
  where
    by : (stop : Bool) → is_stop r ≡ stop → count (byte "*") rs ≡ count_in (map is_stop rs) → (if eqb (byte "*") r then suc (count (byte "*") rs) else count (byte "*") rs) ≡ count_in (stop ∷ map is_stop rs)
    by true e h = rw (eq-eqb (byte "*") r (sym (eqb-true r (byte "*") e))) (ap suc h)
    by false e h = rw (ne_eqb (byte "*") r (λ q. eqb-false r (byte "*") e (sym q))) h

-- none of it moved: how many residues there are, how many before the first stop and through it, and how many stops
module _ (t : ℕ) (es : List Exception) (s : List ℕ) where
  pub same_length : length (translated t es s) ≡ length (residues_before t es 1 s)
  same_length = sym (length-map (translated t es s) is_stop) ∙ ap length (no_stop_moves t es s) ∙ length-map (residues_before t es 1 s) is_stop

  pub same-before : before_stop (translated t es s) ≡ before_stop (residues_before t es 1 s)
  same-before = before-is (translated t es s) ∙ ap first_in (no_stop_moves t es s) ∙ sym (before-is (residues_before t es 1 s))

  pub same-through : length (through_stop (translated t es s)) ≡ length (through_stop (residues_before t es 1 s))
  same-through = through_is (translated t es s) ∙ ap through_in (no_stop_moves t es s) ∙ sym (through_is (residues_before t es 1 s))

  pub same_count : count (byte "*") (translated t es s) ≡ count (byte "*") (residues_before t es 1 s)
  same_count = count-is (translated t es s) ∙ ap count_in (no_stop_moves t es s) ∙ sym (count-is (residues_before t es 1 s))
