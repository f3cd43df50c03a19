-- Demand 3: what a change says of the reference protein R and the altered protein A.
-- Assumes nothing.
use mathlib.Core.Path.{◌≡◌, refl, sym, ap, ap₂, subst, ◌∙◌}
use mathlib.Core.Bool.{Bool, true, false}
use mathlib.Core.List.{List, ◌++◌}
use Prim.Native.Nat.{ℕ, ◌+◌, ◌-◌, ◌≤◌, ◌<◌, zero-le}
use native.Mathlib.Nat.{le_refl, add_comm}
use native.Mathlib.Omega.{arith}
use lib.ListN.{length, take, drop, get_or, length-append, length-drop, take-append-drop}
use lib.Seq.{length-take-le, drop-drop, drop-append-add}
use Rattle.rules.specs.declared.Change.{Change}
use Rattle.rules.specs.declared.Record.TheVariants.{Changed}
use Rattle.rules.specs.Bytes.{same}
use Rattle.rules.specs.Trims.{common_prefix, common_suffix}
use Rattle.rules.specs.Reference.{Reference, reference_protein}
use Rattle.rules.specs.Edit.{Asked}
use Rattle.rules.specs.Altered.{frameshift}
use Rattle.rules.specs.Protein.{altered_protein}
use Rattle.rules.specs.Record.{ending, part_of, change_at, change_of, record_of, replayed}
use Rattle.rules.proofs.Over.{tail-is}
use Rattle.rules.proofs.Trims.{cp_le_l, cp_le_r, cp_take, cp_next, cp_append, not_same, cs_drop, cs_append}
use Rattle.rules.proofs.Records.{changed-of}

abbrev pub deleted_by : Change → List ℕ → List ℕ
deleted_by c R = part_of c.deleted R

abbrev pub inserted_by : Change → List ℕ → List ℕ
inserted_by c A = part_of c.inserted A

-- The number is one more than the count of leading residues that R and A share. Deleted is a part of R and inserted a part of A, both behind
-- those residues and as long as said. Where deleted gives way to inserted at the number, R becomes A; by the swap A becomes R.
pub record Tells (R A : List ℕ) (c : Change) : Type 0 where
  pub number : c.number ≡ common_prefix R A + 1
  pub deleted-at : c.deleted.at ≡ c.number - 1
  pub inserted-at : c.inserted.at ≡ c.number - 1
  pub deleted-len : length (deleted_by c R) ≡ c.deleted.len
  pub inserted-len : length (inserted_by c A) ≡ c.inserted.len
  pub there : replayed c.number (deleted_by c R) (inserted_by c A) R ≡ A
  pub back : replayed c.number (inserted_by c A) (deleted_by c R) A ≡ R

-- R is P, D, S and A is P, I, S: D gives way to I behind P
pub record Splits (R A P D I S : List ℕ) : Type 0 where
  pub reference : R ≡ P ++ (D ++ S)
  pub altered : A ≡ P ++ (I ++ S)

-- No D and I do the same with fewer residues, and none begin later.
pub record Least (R A : List ℕ) (c : Change) : Type 0 where
  pub fewest : (P D I S : List ℕ) → Splits R A P D I S → length (deleted_by c R) + length (inserted_by c A) ≤ length D + length I
  pub latest : (P D I S : List ℕ) → Splits R A P D I S → length P ≤ c.number - 1

-- The first n-1 residues of R and A are the same. The next ones differ, or one of the two proteins has ended there, and not both.
pub record Differs (R A : List ℕ) (n : ℕ) : Type 0 where
  pub in-reference : n - 1 ≤ length R
  pub in-altered : n - 1 ≤ length A
  pub same-before : take (n - 1) R ≡ take (n - 1) A
  pub next-differ : n - 1 < length R → n - 1 < length A → get_or R (n - 1) 0 ≡ get_or A (n - 1) 0 → ⊥
  pub one-goes-on : length R ≤ n - 1 → length A ≤ n - 1 → ⊥

-- Deleted is all of R from the number on, and inserted all of A.
pub record Rest (R A : List ℕ) (c : Change) : Type 0 where
  pub deleted : deleted_by c R ≡ drop (c.number - 1) R
  pub inserted : inserted_by c A ≡ drop (c.number - 1) A

-- Demand 3 of a change of R to A: with the flag the parts are all the rest, without it they are the least.
pub record Demand (flag : Bool) (R A : List ℕ) (c : Change) : Type 0 where
  pub tells : Tells R A c
  pub differs : Differs R A c.number
  pub rest : flag ≡ true → Rest R A c
  pub least : flag ≡ false → Least R A c

-- a list behind its first s elements, without its last n
middle : ℕ → ℕ → List ℕ → List ℕ
middle s n l = take (length l - s - n) (drop s l)

length-middle : (s n : ℕ) (l : List ℕ) → length (middle s n l) ≡ length l - s - n
unfolding middle
length-middle s n l = length-take-le (length l - s - n) (drop s l) (rw length-drop (omega arith))

-- the last n elements behind the first s
last_n : ℕ → ℕ → List ℕ → List ℕ
last_n s n l = drop (length (drop s l) - n) (drop s l)

behind_middle : (s n : ℕ) (l : List ℕ) → drop (s + length (middle s n l)) l ≡ last_n s n l
unfolding last_n
behind_middle s n l = rw (length-middle, length-drop) (sym (drop-drop (length l - s - n) s l))

whole : (s n : ℕ) (l : List ℕ) → take s l ++ (middle s n l ++ last_n s n l) ≡ l
unfolding middle last_n
whole s n l = rw (length-drop, take-append-drop (length l - s - n) (drop s l)) (take-append-drop s l)

-- with the beginning and the ending of one, the middle of the other makes the other
swapped : (s n : ℕ) (a b : List ℕ) → take s a ≡ take s b → last_n s n a ≡ last_n s n b → replayed (s + 1) (middle s n a) (middle s n b) a ≡ b
unfolding replayed
swapped s n a b p q =
    let one : s + 1 - 1 ≡ s = omega arith in
    rw (one, behind_middle s n a, p, q) (whole s n b)

-- the shared ending is one, and doesn't reach back over the shared beginning
ending_le : (flag : Bool) (s : ℕ) (R A : List ℕ) → ending flag s R A ≤ common_suffix (drop s R) (drop s A)
unfolding ending
ending_le true s R A = zero-le
ending_le false s R A = le_refl (common_suffix (drop s R) (drop s A))

-- a list p at the end of another is there behind k elements too, but for k of it
behind : (k : ℕ) (a p : List ℕ) → drop k (a ++ p) ≡ take (length a) (drop k (a ++ p)) ++ drop k p
behind k a p =
    let rest : drop (length a) (drop k (a ++ p)) ≡ drop k p = drop-drop (length a) k (a ++ p) ∙ rw (add_comm k (length a)) (drop-append-add a p k) in
    sym (take-append-drop (length a) (drop k (a ++ p))) ∙ rw rest

-- any beginning and ending that R and A share are no longer together than these
pub covers : (R A P D I S : List ℕ) → Splits R A P D I S → length P + length S ≤ common_prefix R A + ending false (common_prefix R A) R A
unfolding ending
covers R A P D I S h =
    let k = common_prefix (D ++ S) (I ++ S) in
    let s : common_prefix R A ≡ length P + k = ap₂ common_prefix h.reference h.altered ∙ cp_append P (D ++ S) (I ++ S) in
    let in_r : drop (common_prefix R A) R ≡ drop k (D ++ S) = ap₂ drop s h.reference ∙ drop-append-add P (D ++ S) k in
    let in_a : drop (common_prefix R A) A ≡ drop k (I ++ S) = ap₂ drop s h.altered ∙ drop-append-add P (I ++ S) k in
    let n : length (drop k S) ≤ common_suffix (drop k (D ++ S)) (drop k (I ++ S)) =
    rw (behind k D S, behind k I S) (omega (arith, cs_append (drop k S) (take (length D) (drop k (D ++ S))) (take (length I) (drop k (I ++ S))))) in
    rw (in_r, in_a) (omega (arith, length-drop k S))

-- the arithmetic of it
fewer : (R A P D I S s n : ℕ) → R ≡ P + (D + S) → A ≡ P + (I + S) → P + S ≤ s + n → (R - s - n) + (A - s - n) ≤ D + I
fewer R A P D I S s n e f h = omega arith

length_three : (p d t : List ℕ) → length (p ++ (d ++ t)) ≡ length p + (length d + length t)
length_three p d t = simp length-append

-- of any two proteins, with the flag or without
pub tells_of : (flag : Bool) (R A : List ℕ) → Tells R A (change_of flag R A)
unfolding change_of change_at part_of middle last_n
tells_of flag R A =
    let s = common_prefix R A in
    let n = ending flag s R A in
    let one : s ≡ s + 1 - 1 = omega arith in
    let begin : take s R ≡ take s A = cp_take s R A (le_refl s) in
    let end : last_n s n R ≡ last_n s n A = cs_drop n (drop s R) (drop s A) (ending_le flag s R A) in
    record {
      number = refl;
      deleted-at = one;
      inserted-at = one;
      deleted-len = length-middle s n R;
      inserted-len = length-middle s n A;
      there = swapped s n R A begin end;
      back = swapped s n A R (sym begin) (sym end);
    }

-- of any two proteins that aren't the same
differs_of : (R A : List ℕ) (n : ℕ) → n - 1 ≡ common_prefix R A → same R A ≡ false → Differs R A n
differs_of R A n e h =
    record {
      in-reference = rw e (cp_le_l R A);
      in-altered = rw e (cp_le_r R A);
      same-before = rw e (cp_take (common_prefix R A) R A (le_refl (common_prefix R A)));
      next-differ = rw e (cp_next R A);
      one-goes-on = λ k l. not_same R A h (omega (arith, cp_le_l R A)) (omega (arith, cp_le_r R A));
    }

-- with the flag
rest-of : (R A : List ℕ) → Rest R A (change_of true R A)
unfolding change_of change_at part_of ending
rest-of R A =
    let s = common_prefix R A in
    let one : s + 1 - 1 ≡ s = omega arith in
    let none : (n : ℕ) → n - s - 0 ≡ n - s = λ n. omega arith in
    record { deleted = rw (one, none (length R)) (tail-is s R); inserted = rw (one, none (length A)) (tail-is s A) }

-- without the flag
pub least_of : (R A : List ℕ) → Least R A (change_of false R A)
unfolding change_of change_at part_of middle
least_of R A =
    let s = common_prefix R A in
    let n = ending false s R A in
    record {
      fewest = λ P D I S h.
          rw (length-middle s n R, length-middle s n A)
          (fewer (length R) (length A) (length P) (length D) (length I) (length S) s n
          (ap length h.reference ∙ length_three P D S) (ap length h.altered ∙ length_three P I S) (covers R A P D I S h));
      latest = λ P D I S h. omega (arith, ap₂ common_prefix h.reference h.altered ∙ cp_append P (D ++ S) (I ++ S));
    }

-- Demand 3. Nothing is asked of the reference or of the edit.
pub demand : (r : Reference) (e : Asked) (c : Change) → record_of r e ≡ Changed c → Demand (frameshift r e) (reference_protein r) (altered_protein r e) c
demand r e c h =
    let R = reference_protein r in
    let A = altered_protein r e in
    let told = changed-of r e c h in
    let is : change_of (frameshift r e) R A ≡ c = sym told.is in
    let tells = subst (Tells R A) is (tells_of (frameshift r e) R A) in
    record {
      tells = tells;
      differs = differs_of R A c.number (omega (arith, tells.number)) told.differs;
      rest = λ f. subst (Rest R A) (ap (λ (t : Bool). change_of t R A) (sym f) ∙ is) (rest-of R A);
      least = λ f. subst (Least R A) (ap (λ (t : Bool). change_of t R A) (sym f) ∙ is) (least_of R A);
    }
