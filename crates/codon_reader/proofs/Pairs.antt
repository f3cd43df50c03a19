-- Two first letters with a third: antt computes of each code that bases agree as they are read, and which mixed pairs agree at all.
-- Assumes nothing.
use Rattle.std.specs.Prelude.{if◌then◌else◌}
use mathlib.Core.Path.{◌≡◌, refl, sym, ap, ◌∙◌}
use mathlib.Core.Bool.{Bool, true, false, ◌&&◌}
use mathlib.Core.List.{List}
use Prim.Native.Nat.{ℕ, zero, suc, ◌+◌, ◌*◌, ◌/◌, ◌%◌, ◌<◌}
use native.Mathlib.Nat.{add-zero}
use native.Mathlib.Omega.{arith}
use lib.Dec.{eqb, lit<}
use lib.ListN.{get_or}
use borrow.Author.Tests.{eq-eqb, ne_eqb, eqb-true, eqb-false}
use Rattle.rules.specs.Codons.{residue_x, codon_rule}
use Rattle.letters.specs.Sets.{base_set}
use Rattle.letters.proofs.Listed.{listed, at_each}
use Rattle.letters.proofs.Sets.{and_left, and_right}
use Rattle.codons.specs.Tables.{HoldsPlain}
use Rattle.mixes.specs.Mixes.{joined}
use Rattle.codon_reader.specs.Pairs.{is_base_set, first_residue, are_all, agreed_on, pair_rule, two_pairs, mixed_rule}

-- two bases, at the place pair * 16 + third set: as they are read, and by the rule; an empty third set is left out
abbrev read_at : ℕ → ℕ → ℕ
read_at t k =
    if eqb (k % 16) 0 then 0
    else agreed_on (pair_rule t (k / 16) 1) (pair_rule t (k / 16) 2) (pair_rule t (k / 16) 8) (pair_rule t (k / 16) 4) (k % 16)

abbrev ruled_at : ℕ → ℕ → ℕ
ruled_at t k = if eqb (k % 16) 0 then 0 else pair_rule t (k / 16) (k % 16)

read_listed : (t : ℕ) → listed (read_at t) 0 256 ≡ listed (ruled_at t) 0 256
unfolding codon_rule pair_rule
read_listed zero = refl
read_listed (suc zero) = refl
read_listed (suc (suc zero)) = refl
read_listed (suc (suc (suc t))) = refl

agreed_third : (t pair c : ℕ) → pair < 16 → (0 < c) × (c < 16)
    → agreed_on (pair_rule t pair 1) (pair_rule t pair 2) (pair_rule t pair 8) (pair_rule t pair 4) c ≡ pair_rule t pair c
agreed_third t pair c hp hc =
    let k : ℕ = pair * 16 + c in
    let ep : k / 16 ≡ pair = omega arith in
    let ec : k % 16 ≡ c = omega arith in
    let some : eqb c 0 ≡ false = ne_eqb c 0 (λ e. omega arith) in
    rw (ep, ec, some) at (at_each 256 0 (read_at t) (ruled_at t) (read_listed t) k (omega arith))

-- the four plain codons of a pair stand side by side
plain_of_pair : (t : ℕ) (code : List ℕ) → HoldsPlain t code → (pair k : ℕ) → pair < 16 → k < 4 → get_or code (pair * 4 + k) 0 ≡ pair_rule t pair (base_set k)
unfolding pair_rule
plain_of_pair t code holds pair k hp hk =
    let place : pair * 4 + k ≡ pair / 4 * 16 + pair % 4 * 4 + k = omega arith in
    rw place (holds.entry (pair / 4) (pair % 4) k (omega arith) (omega arith) hk)

pub third_read : (t : ℕ) (code : List ℕ) → HoldsPlain t code → (pair c : ℕ) → pair < 16 → (0 < c) × (c < 16)
    → agreed_on (get_or code (pair * 4) 0) (get_or code (pair * 4 + 1) 0) (get_or code (pair * 4 + 2) 0) (get_or code (pair * 4 + 3) 0) c ≡ pair_rule t pair c
third_read t code holds pair c hp hc =
    let first : get_or code (pair * 4) 0 ≡ pair_rule t pair 1 = ap (λ (k : ℕ). get_or code k 0) (sym (add-zero (pair * 4))) ∙ plain_of_pair t code holds pair 0 hp (lit< tt) in
    rw (first, plain_of_pair t code holds pair 1 hp (lit< tt), plain_of_pair t code holds pair 2 hp (lit< tt), plain_of_pair t code holds pair 3 hp (lit< tt))
    (agreed_third t pair c hp hc)

-- all agree with the first, or one does not
pub agreed-same : (a c t g s r : ℕ) → r ≡ first_residue a c t g s → are_all r c t g s ≡ true → r ≡ agreed_on a c t g s
agreed-same a c t g s r e h = rw (rw e at h) e

pub agreed_not : (a c t g s r : ℕ) → r ≡ first_residue a c t g s → are_all r c t g s ≡ false → residue_x ≡ agreed_on a c t g s
agreed_not a c t g s r e h = rw (rw e at h)

-- a mixed pair with no pairs of bases, and with two
module _ (t sets c pairs : ℕ) (is : pairs ≡ two_pairs sets) where
  pub mixed-none : pairs ≡ 0 → residue_x ≡ mixed_rule t sets c
  unfolding mixed_rule
  mixed-none e = rw (eq-eqb (two_pairs sets) 0 (sym is ∙ e))

  pub mixed_two : (x y r : ℕ) → (pairs ≡ 0 → ⊥) → x ≡ pair_rule t (pairs / 16) c → y ≡ pair_rule t (pairs % 16) c → r ≡ joined x y → r ≡ mixed_rule t sets c
  unfolding mixed_rule
  mixed_two x y r n ex ey er = rw (ne_eqb (two_pairs sets) 0 (λ e. n (is ∙ e))) (er ∙ rw (ex, ey, is))

-- a base's set by its number, which antt computes of all sets
base_of : (s : ℕ) → s < 16 → is_base_set s ≡ true → base_set ((s / 2 + s / 4) % 4) ≡ s
base_of s h e = rw e at (at_each 16 0 (λ (k : ℕ). if is_base_set k then base_set ((k / 2 + k / 4) % 4) else 0) (λ (k : ℕ). if is_base_set k then k else 0) refl s h)

pub bases_rule : (t a b c : ℕ) (x y : Bool) → a < 16 → b < 16 → x ≡ is_base_set a → y ≡ is_base_set b → x && y ≡ true
    → pair_rule t ((a / 2 + a / 4) % 4 * 4 + (b / 2 + b / 4) % 4) c ≡ codon_rule t a b c
unfolding pair_rule
bases_rule t a b c x y ha hb ex ey e =
    let i : ℕ = (a / 2 + a / 4) % 4 in
    let j : ℕ = (b / 2 + b / 4) % 4 in
    let first : (i * 4 + j) / 4 ≡ i = omega arith in
    let second : (i * 4 + j) % 4 ≡ j = omega arith in
    rw (first, second, base_of a ha (sym ex ∙ and_left x y e), base_of b hb (sym ey ∙ and_right x y e))

-- whether two sets are read as the rule has it with each of the third sets 1 to n
abbrev read_right : ℕ → ℕ → ℕ → Bool
read_right t sets zero = true
read_right t sets (suc n) =
    elim (eqb (mixed_rule t sets (suc n)) (codon_rule t (sets / 16) (sets % 16) (suc n))) [ true ↦ read_right t sets n | false ↦ false ]

-- two that aren't both bases are with all fifteen, which antt computes of each code
abbrev mixed_right : ℕ → ℕ → Bool
mixed_right t sets = elim (is_base_set (sets / 16) && is_base_set (sets % 16)) [ true ↦ true | false ↦ read_right t sets 15 ]

mixed-listed : (t : ℕ) → listed (mixed_right t) 0 256 ≡ listed (λ (k : ℕ). true) 0 256
unfolding codon_rule pair_rule mixed_rule
mixed-listed zero = refl
mixed-listed (suc zero) = refl
mixed-listed (suc (suc zero)) = refl
mixed-listed (suc (suc (suc t))) = refl

right_case : (b rest : Bool) → elim b [ true ↦ rest | false ↦ false ] ≡ true → (b ≡ true) × (rest ≡ true)
right_case true rest e = (refl, e)
right_case false rest e = (e, cc)

right_each : (t sets n : ℕ) → read_right t sets n ≡ true → (c : ℕ) → 0 < c → c < suc n → mixed_rule t sets c ≡ codon_rule t (sets / 16) (sets % 16) c
right_each t sets zero e c some h = absurd (omega arith)
right_each t sets (suc n) e c some h =
    let both = right_case (eqb (mixed_rule t sets (suc n)) (codon_rule t (sets / 16) (sets % 16) (suc n))) (read_right t sets n) e in
    by (eqb c (suc n)) refl both.0 (λ l. right_each t sets n both.1 c some l)
  where
    by : (b : Bool) → eqb c (suc n) ≡ b → eqb (mixed_rule t sets (suc n)) (codon_rule t (sets / 16) (sets % 16) (suc n)) ≡ true
        → (c < suc n → mixed_rule t sets c ≡ codon_rule t (sets / 16) (sets % 16) c) → mixed_rule t sets c ≡ codon_rule t (sets / 16) (sets % 16) c
    by true is here before = rw (eqb-true c (suc n) is) (eqb-true (mixed_rule t sets (suc n)) (codon_rule t (sets / 16) (sets % 16) (suc n)) here)
    by false is here before = before (omega (arith, eqb-false c (suc n) is))

not_both : (both rest : Bool) → elim both [ true ↦ true | false ↦ rest ] ≡ true → both ≡ false → rest ≡ true
not_both true rest e n = cc
not_both false rest e n = e

pub mixed_rule_lem : (t a b c : ℕ) (x y : Bool) → a < 16 → b < 16 → (0 < c) × (c < 16) → x ≡ is_base_set a → y ≡ is_base_set b → x && y ≡ false
    → mixed_rule t (a * 16 + b) c ≡ codon_rule t a b c
mixed_rule_lem t a b c x y ha hb hc ex ey e =
    let sets : ℕ = a * 16 + b in
    let first : sets / 16 ≡ a = omega arith in
    let second : sets % 16 ≡ b = omega arith in
    let none : is_base_set (sets / 16) && is_base_set (sets % 16) ≡ false = rw (first, second) (rw (ex, ey) at e) in
    let right : read_right t sets 15 ≡ true =
    not_both (is_base_set (sets / 16) && is_base_set (sets % 16)) (read_right t sets 15) (at_each 256 false (mixed_right t) (λ (k : ℕ). true) (mixed-listed t) sets (omega arith)) none in
    right_each t sets 15 right c hc.0 hc.1 ∙ rw (first, second)
