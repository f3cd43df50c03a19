-- Laws of rows of residues: a row more is put, and what all of them hold. Assumes nothing.
use Rattle.std.specs.Prelude.{if◌then◌else◌}
use mathlib.Core.Path.{◌≡◌, refl, sym, ap, ◌∙◌}
use mathlib.Core.Bool.{Bool, true, false}
use mathlib.Core.List.{List, [], ◌∷◌}
use Prim.Native.Nat.{ℕ, zero, suc, ◌+◌, ◌*◌, ◌/◌, ◌%◌, ◌≤◌, ◌<◌}
use native.Mathlib.Numerals.{add-one}
use native.Mathlib.Omega.{arith}
use lib.Dec.{eqb, ltb, lit<}
use lib.ListN.{length, get_or, set, replicate, length-set, length-replicate, get_or-replicate}
use lib.Seq.{get_or-set_same, get_or-set_other}
use borrow.Author.Tests.{eqb-true, eqb-false, ltb-true, ne_eqb}
use Rattle.rules.specs.Bytes.{byte}
use Rattle.rules.specs.Codons.{residue_x, codon_rule}
use Rattle.rows.specs.Rows.{number_rule, pairs, pair_at, row_in, HoldsRows, HoldsLetters}
use Rattle.letters.proofs.Listed.{listed, listed_at, at_each}

-- a rule of rows, by the place among them
unfoldable pub row_at : ℕ → ℕ → ℕ
row_at t j = number_rule t (pair_at (j / 16) / 16) (pair_at (j / 16) % 16) (j % 16)

pub holds_rows : (t table : ℕ) → table ≡ t → HoldsRows table (listed (row_at t) 0 352)
unfolding row_at
holds_rows t table is =
    record {
      entry = λ k c h l.
          let ek : (k * 16 + c) / 16 ≡ k = omega arith in
          let ec : (k * 16 + c) % 16 ≡ c = omega arith in
          rw is (rw (ek, ec) at (listed_at 0 (row_at t) 352 (k * 16 + c) (omega arith)));
    }

-- the row of a pair is one of the twenty-two
row_small : (k pair : ℕ) → row_in (suc k) pair < suc k
unfolding row_in
row_small zero pair = at (eqb pair (pair_at 0))
  where
    at : (b : Bool) → (if b then 0 else 0) < 1
    at true = omega arith
    at false = omega arith
row_small (suc k) pair = at (eqb pair (pair_at (suc k))) (row_in (suc k) pair) (row_small k pair)
  where
    at : (b : Bool) (m : ℕ) → m < suc k → (if b then suc k else m) < suc (suc k)
    at true m h = omega arith
    at false m h = omega arith

-- whether a pair has a row of its own
abbrev among : ℕ → List ℕ → Bool
among p [] = false
among p (q ∷ qs) = elim (eqb p q) [ true ↦ true | false ↦ among p qs ]

-- the row of a pair has that pair, or is the first, which antt computes
own_row : (p : ℕ) → p < 256 → (if among p pairs then pair_at (row_in 22 p) else row_in 22 p) ≡ (if among p pairs then p else 0)
unfolding row_in
own_row p h = at_each 256 0 (λ (k : ℕ). if among k pairs then pair_at (row_in 22 k) else row_in 22 k) (λ (k : ℕ). if among k pairs then k else 0) refl p h

-- whether a pair reads X with each of the first n third letters
abbrev read_x : ℕ → ℕ → ℕ → Bool
read_x t p zero = true
read_x t p (suc n) = elim (eqb (number_rule t (p / 16) (p % 16) n) residue_x) [ true ↦ read_x t p n | false ↦ false ]

-- a pair with no row of its own does with all sixteen, which antt computes of each code
abbrev other_x : ℕ → ℕ → Bool
other_x t p = elim (among p pairs) [ true ↦ true | false ↦ read_x t p 16 ]

others_0 : listed (other_x 0) 0 256 ≡ listed (λ (k : ℕ). true) 0 256
unfolding codon_rule
others_0 = refl

others_1 : listed (other_x 1) 0 256 ≡ listed (λ (k : ℕ). true) 0 256
unfolding codon_rule
others_1 = refl

others_2 : listed (other_x 2) 0 256 ≡ listed (λ (k : ℕ). true) 0 256
unfolding codon_rule
others_2 = refl

others : (t : ℕ) → t < 3 → listed (other_x t) 0 256 ≡ listed (λ (k : ℕ). true) 0 256
others zero h = others_0
others (suc zero) h = others_1
others (suc (suc zero)) h = others_2
others (suc (suc (suc t))) h = absurd (omega arith)

read_case : (b rest : Bool) → elim b [ true ↦ rest | false ↦ false ] ≡ true → (b ≡ true) × (rest ≡ true)
read_case true rest e = (refl, e)
read_case false rest e = (e, cc)

read_each : (t p n : ℕ) → read_x t p n ≡ true → (c : ℕ) → c < n → number_rule t (p / 16) (p % 16) c ≡ residue_x
read_each t p zero e c h = absurd (omega arith)
read_each t p (suc n) e c h =
    let both = read_case (eqb (number_rule t (p / 16) (p % 16) n) residue_x) (read_x t p n) e in
    by (eqb c n) refl both.0 (λ l. read_each t p n both.1 c l)
  where
    by : (b : Bool) → eqb c n ≡ b → eqb (number_rule t (p / 16) (p % 16) n) residue_x ≡ true → (c < n → number_rule t (p / 16) (p % 16) c ≡ residue_x) → number_rule t (p / 16) (p % 16) c ≡ residue_x
    by true e here before = rw (eqb-true c n e) (eqb-true (number_rule t (p / 16) (p % 16) n) residue_x here)
    by false e here before = before (omega (arith, eqb-false c n e))

-- so does the pair of the first row, whose letters are none
first_row : (t c : ℕ) → number_rule t (pair_at 0 / 16) (pair_at 0 % 16) c ≡ residue_x
unfolding codon_rule
first_row t c = refl

-- a pair reads as its row's pair does
same_case : (t p c : ℕ) → c < 16 → (o : Bool) → (if o then pair_at (row_in 22 p) else row_in 22 p) ≡ (if o then p else 0) → elim o [ true ↦ true | false ↦ read_x t p 16 ] ≡ true
    → number_rule t (pair_at (row_in 22 p) / 16) (pair_at (row_in 22 p) % 16) c ≡ number_rule t (p / 16) (p % 16) c
same_case t p c h true own other = rw own
same_case t p c h false own other = rw own (first_row t c ∙ sym (read_each t p 16 other c h))

same_row : (t : ℕ) → t < 3 → (a b c : ℕ) → a < 16 → b < 16 → c < 16 → number_rule t (pair_at (row_in 22 (a * 16 + b)) / 16) (pair_at (row_in 22 (a * 16 + b)) % 16) c ≡ number_rule t a b c
same_row t h a b c ha hb hc =
    let p : ℕ = a * 16 + b in
    let ea : p / 16 ≡ a = omega arith in
    let eb : p % 16 ≡ b = omega arith in
    same_case t p c hc (among p pairs) (own_row p (omega arith)) (at_each 256 false (other_x t) (λ (k : ℕ). true) (others t h) p (omega arith)) ∙ rw (ea, eb)

module _ (t : ℕ) (rows : List ℕ) (code : t < 3) (holds : HoldsRows t rows) where
  row_read : (a b c : ℕ) → a < 16 → b < 16 → c < 16 → get_or rows (row_in 22 (a * 16 + b) * 16 + c) 0 ≡ number_rule t a b c
  row_read a b c ha hb hc =
      holds.entry (row_in 22 (a * 16 + b)) c (row_small 21 (a * 16 + b)) hc ∙ same_row t code a b c ha hb hc

pair_small : (k : ℕ) → k < 22 → pair_at k < 256
pair_small k h = ltb-true (pair_at k) 256 (at_each 22 false (λ (j : ℕ). ltb (pair_at j) 256) (λ (j : ℕ). true) refl k h)

-- the first k rows' residues of third letter c are put, and nothing else
pub record Put (rows old all : List ℕ) (c k : ℕ) : Type 0 where
  pub long : length all ≡ 4096
  pub done : (p : ℕ) → p < 256 → get_or all (c * 256 + p) 0 ≡ get_or rows (row_in k p * 16 + c) 0
  pub kept : (d p : ℕ) → p < 256 → (d ≡ c → ⊥) → get_or all (d * 256 + p) 0 ≡ get_or old (d * 256 + p) 0

module _ (rows old : List ℕ) (c : ℕ) where
  pub put-none : length old ≡ 4096 → ((p : ℕ) → p < 256 → get_or old (c * 256 + p) 0 ≡ get_or rows (row_in 0 p * 16 + c) 0) → Put rows old old c 0
  put-none l first = record { long = l; done = first; kept = λ d p h n. refl }

  pub put-more : (all : List ℕ) (k pair : ℕ) → c < 16 → Put rows old all c k → k < 22 → pair ≡ pair_at k → Put rows old (set all (c * 256 + pair) (get_or rows (k * 16 + c) 0)) c (k + 1)
  unfolding row_in
  put-more all k pair small w h is =
      record {
        long = length-set all (c * 256 + pair) (get_or rows (k * 16 + c) 0) ∙ w.long;
        done = λ p l. rw (add-one, is) (by p l (eqb p (pair_at k)) refl);
        kept = λ d p l n. get_or-set_other all (c * 256 + pair) (d * 256 + p) (get_or rows (k * 16 + c) 0) 0 (λ e. n (omega (arith, e, is, pair_small k h))) ∙ w.kept d p l n;
      }
    where
      by : (p : ℕ) → p < 256 → (b : Bool) → eqb p (pair_at k) ≡ b → get_or (set all (c * 256 + pair_at k) (get_or rows (k * 16 + c) 0)) (c * 256 + p) 0 ≡ get_or rows ((if b then k else row_in k p) * 16 + c) 0
      by p l true e = rw (eqb-true p (pair_at k) e) (get_or-set_same all (c * 256 + pair_at k) (get_or rows (k * 16 + c) 0) 0 (omega (arith, w.long, pair_small k h)))
      by p l false e =
          get_or-set_other all (c * 256 + pair_at k) (c * 256 + p) (get_or rows (k * 16 + c) 0) 0 (λ z. eqb-false p (pair_at k) e (omega arith)) ∙ w.done p l

  pub put_all : (all : List ℕ) (k : ℕ) → Put rows old all c k → k ≡ 22
      → (d p : ℕ) → d < 16 → p < 256 → get_or all (d * 256 + p) 0 ≡ (if eqb d c then get_or rows (row_in 22 p * 16 + c) 0 else get_or old (d * 256 + p) 0)
  put_all all k w is d p h l = by (eqb d c) refl
    where
      by : (b : Bool) → eqb d c ≡ b → get_or all (d * 256 + p) 0 ≡ (if b then get_or rows (row_in 22 p * 16 + c) 0 else get_or old (d * 256 + p) 0)
      by true e = rw (eqb-true d c e) (w.done p l ∙ ap (λ (n : ℕ). get_or rows (row_in n p * 16 + c) 0) is)
      by false e = w.kept d p l (eqb-false d c e)

-- the first n third letters are put, and the others have the first row's residues
pub record Laid (rows all : List ℕ) (n : ℕ) : Type 0 where
  pub long : length all ≡ 4096
  pub done : (c p : ℕ) → c < n → c < 16 → p < 256 → get_or all (c * 256 + p) 0 ≡ get_or rows (row_in 22 p * 16 + c) 0
  pub left : (c p : ℕ) → n ≤ c → c < 16 → p < 256 → get_or all (c * 256 + p) 0 ≡ get_or rows (row_in 0 p * 16 + c) 0

pub laid_none : (t : ℕ) (rows : List ℕ) → HoldsRows t rows → Laid rows (replicate 4096 (byte "X")) 0
unfolding row_in codon_rule
laid_none t rows holds =
    record {
      long = length-replicate 4096 (byte "X");
      done = λ c p k h l. absurd (omega arith);
      left = λ c p k h l. get_or-replicate 4096 (c * 256 + p) (byte "X") 0 (omega arith) ∙ sym (holds.entry 0 c (lit< tt) h);
    }

pub laid_more : (rows all new : List ℕ) (n : ℕ) → Laid rows all n → length new ≡ 4096
    → ((c p : ℕ) → c < 16 → p < 256 → get_or new (c * 256 + p) 0 ≡ (if eqb c n then get_or rows (row_in 22 p * 16 + n) 0 else get_or all (c * 256 + p) 0))
    → Laid rows new (n + 1)
laid_more rows all new n w long put =
    record {
      long = long;
      done = λ c p k h l. put c p h l ∙ by c p k h l (eqb c n) refl;
      left = λ c p k h l. put c p h l ∙ rw (ne_eqb c n (λ e. omega arith)) (w.left c p (omega arith) h l);
    }
  where
    by : (c p : ℕ) → c < n + 1 → c < 16 → p < 256 → (b : Bool) → eqb c n ≡ b → (if b then get_or rows (row_in 22 p * 16 + n) 0 else get_or all (c * 256 + p) 0) ≡ get_or rows (row_in 22 p * 16 + c) 0
    by c p k h l true e = rw (eqb-true c n e)
    by c p k h l false e = w.done c p (omega (arith, eqb-false c n e)) h l

pub laid-all : (t : ℕ) (rows all : List ℕ) (n : ℕ) → t < 3 → HoldsRows t rows → Laid rows all n → n ≡ 16 → HoldsLetters t all
laid-all t rows all n code holds w is =
    record {
      entry = λ a b c ha hb hc.
          let at : c * 256 + a * 16 + b ≡ c * 256 + (a * 16 + b) = omega arith in
          rw at (w.done c (a * 16 + b) (omega arith) hc (omega arith) ∙ row_read t rows code holds a b c ha hb hc);
    }
