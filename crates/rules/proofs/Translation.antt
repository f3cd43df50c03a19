-- Laws of translation: how many residues there are, and how many through the first `*`.
-- Assumes nothing.
use Rattle.std.specs.Prelude.{if◌then◌else◌}
use mathlib.Core.Path.{◌≡◌, refl, ap}
use mathlib.Core.Bool.{Bool, true, false}
use mathlib.Core.List.{List, [], ◌∷◌}
use Prim.Native.Nat.{ℕ, suc, ◌≤◌, min}
use native.Mathlib.Omega.{arith}
use lib.Dec.{eqb}
use lib.ListN.{length, take, replicate, length-append, length-take, length-replicate}
use lib.Seq.{take-append-le}
use Rattle.rules.specs.declared.Exception.{Exception}
use Rattle.rules.specs.declared.Exceptions.{Exceptions}
use Rattle.rules.specs.Bytes.{byte}
use Rattle.rules.specs.Translation.{no_exception, exception_list, residues_from, translated, residue_count, before_stop, through_stop}

-- as many exceptions as counted; at most sixteen are the first of all
pub length_exceptions : (e : Exceptions) → length (exception_list e) ≡ e.count
unfolding exception_list
length_exceptions e = simp (length-take, length-append, length-replicate) (omega arith)

pub first_exceptions : (e : Exceptions) → length e.all ≡ 16 → e.count ≤ 16 → exception_list e ≡ take e.count e.all
unfolding exception_list
first_exceptions e n h = take-append-le e.count e.all (replicate e.count no_exception) (omega arith)

-- one residue a whole codon, one for a rest
pub length-residues : (t : ℕ) (es : List Exception) (n : ℕ) (s : List ℕ) → length (residues_from t es n s) ≡ residue_count (length s)
unfolding residues_from residue_count
length-residues t es n [] = refl
length-residues t es n (a ∷ []) = refl
length-residues t es n (a ∷ b ∷ []) = refl
length-residues t es n (a ∷ b ∷ c ∷ s) = omega (arith, length-residues t es (suc n) s)

pub length-translated : (t : ℕ) (es : List Exception) (s : List ℕ) → length (translated t es s) ≡ residue_count (length s)
unfolding translated
length-translated t es s = length-residues t es 1 s

pub through_is : (xs : List ℕ) → through_stop xs ≡ take (suc (before_stop xs)) xs
unfolding through_stop before_stop
through_is [] = refl
through_is (x ∷ xs) = at (eqb x (byte "*")) (through_is xs)
  where
    at : (t : Bool) → through_stop xs ≡ take (suc (before_stop xs)) xs → (if t then x ∷ [] else (x ∷ through_stop xs)) ≡ take (suc (if t then 0 else suc (before_stop xs))) (x ∷ xs)
    at true k = refl
    at false k = ap (x ∷◌) k

pub length_through : (xs : List ℕ) → length (through_stop xs) ≡ min (suc (before_stop xs)) (length xs)
length_through xs = rw through_is (length-take (suc (before_stop xs)) xs)

pub through_le : (xs : List ℕ) → length (through_stop xs) ≤ length xs
through_le xs = omega (arith, length_through xs)
