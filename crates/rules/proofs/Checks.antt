-- What the two answers of a checked record mean, and that our own records get them.
-- Assumes nothing.
use mathlib.Core.Path.{◌≡◌, sym, ap, ◌∙◌}
use mathlib.Core.Bool.{true, false, ◌&&◌}
use mathlib.Core.List.{List, ◌++◌}
use Prim.Native.Nat.{ℕ, ◌+◌, ◌-◌, ◌≤◌}
use native.Mathlib.Omega.{arith}
use lib.Dec.{eqb}
use lib.ListN.{length, take, drop, length-append, length-drop, take-append-drop}
use lib.Seq.{length-take-le, drop-drop}
use borrow.Author.Tests.{eqb-true, eq-eqb}
use Rattle.rules.specs.declared.Change.{Change}
use Rattle.rules.specs.declared.Record.TheVariants.{Changed}
use Rattle.rules.specs.Bytes.{same}
use Rattle.rules.specs.Trims.{common_prefix}
use Rattle.rules.specs.Reference.{Reference, reference_protein}
use Rattle.rules.specs.Edit.{Asked}
use Rattle.rules.specs.Altered.{frameshift}
use Rattle.rules.specs.Protein.{altered_protein}
use Rattle.rules.specs.Record.{ending, part_of, change_at, change_of, record_of, replayed}
use Rattle.rules.specs.Check.{Proposal, stands, replays, begins_there, leaves_ending, is_shortest}
use Rattle.rules.proofs.Tests.{and_left, and_right}
use Rattle.rules.proofs.Trims.{same_self, same-is, cp_le_l, cp_le_r, cs_le_l, cs_le_r}
use Rattle.rules.proofs.Demand.{deleted_by, inserted_by, Tells, Splits, demand, covers, tells_of, least_of}

-- the deleted residues stand in R at the number, and replacing them gives A
pub record Replays (p : Proposal) (R A : List ℕ) : Type 0 where
  pub stands : take (length p.deleted) (drop (p.number - 1) R) ≡ p.deleted
  pub gives : replayed p.number p.deleted p.inserted R ≡ A

-- a yes means that, and that is a yes
module _ (p : Proposal) (R A : List ℕ) where
  pub yes-replays : replays p R A ≡ true → Replays p R A
  unfolding replays stands
  yes-replays h =
      let a = same (take (length p.deleted) (drop (p.number - 1) R)) p.deleted in
      let b = same (replayed p.number p.deleted p.inserted R) A in
      record { stands = same-is _ _ (and_left a b h); gives = same-is _ _ (and_right a b h) }

  pub replays-yes : Replays p R A → replays p R A ≡ true
  unfolding replays stands
  replays-yes h = rw (h.stands, h.gives, same_self p.deleted, same_self A)

-- R is what stands before the number, the deleted residues and the rest; A has the inserted ones in their place
pub replays_splits : (p : Proposal) (R A : List ℕ) → Replays p R A
    → Splits R A (take (p.number - 1) R) p.deleted p.inserted (drop (p.number - 1 + length p.deleted) R)
unfolding replayed
replays_splits p R A h =
    let k = p.number - 1 in
    let n = length p.deleted in
    let rest : drop n (drop k R) ≡ drop (k + n) R = drop-drop n k R in
    record {
      reference = sym (rw (← rest) (ap (λ (d : List ℕ). take k R ++ (d ++ drop n (drop k R))) (sym h.stands) ∙ ap (λ (s : List ℕ). take k R ++ s) (take-append-drop n (drop k R)) ∙ take-append-drop k R));
      altered = sym h.gives;
    }

-- a change as a proposal
abbrev pub proposal_of : Change → List ℕ → List ℕ → Proposal
proposal_of c R A = record { number = c.number; deleted = deleted_by c R; inserted = inserted_by c A }

-- a part stands where it is taken from
part-stands : (R A : List ℕ) (c : Change) → Tells R A c → take (length (deleted_by c R)) (drop (c.number - 1) R) ≡ deleted_by c R
unfolding part_of
part-stands R A c t = rw (t.deleted-len, ← t.deleted-at)

tells_replays : (R A : List ℕ) (c : Change) → Tells R A c → Replays (proposal_of c R A) R A
tells_replays R A c t = record { stands = part-stands R A c t; gives = t.there }

-- our own record is accepted, for every Changed edit
pub own_accepted : (r : Reference) (e : Asked) (c : Change) → record_of r e ≡ Changed c
    → replays (proposal_of c (reference_protein r) (altered_protein r e)) (reference_protein r) (altered_protein r e) ≡ true
own_accepted r e c h =
    let R = reference_protein r in
    let A = altered_protein r e in
    replays-yes (proposal_of c R A) R A (tells_replays R A c (demand r e c h).tells)

-- Demand 3's words, of a proposal: it replays, no D and I do the same with fewer residues, and none begin later.
pub record Shortest (p : Proposal) (R A : List ℕ) : Type 0 where
  pub replays : Replays p R A
  pub there : p.number ≡ common_prefix R A + 1
  pub fewest : (P D I S : List ℕ) → Splits R A P D I S → length p.deleted + length p.inserted ≤ length D + length I
  pub latest : (P D I S : List ℕ) → Splits R A P D I S → length P ≤ p.number - 1

-- how long the parts of our own record are, without the flag
own_lengths : (R A : List ℕ) → (length (deleted_by (change_of false R A) R) ≡ length R - common_prefix R A - ending false (common_prefix R A) R A)
    × (length (inserted_by (change_of false R A) A) ≡ length A - common_prefix R A - ending false (common_prefix R A) R A)
unfolding change_of change_at
own_lengths R A = ((tells_of false R A).deleted-len, (tells_of false R A).inserted-len)

-- the shared ending lies behind the shared beginning
ending-within : (R A : List ℕ) → (common_prefix R A + ending false (common_prefix R A) R A ≤ length R) × (common_prefix R A + ending false (common_prefix R A) R A ≤ length A)
unfolding ending
ending-within R A =
    let s = common_prefix R A in (
      omega (arith, cs_le_l (drop s R) (drop s A), length-drop s R, cp_le_l R A),
      omega (arith, cs_le_r (drop s R) (drop s A), length-drop s A, cp_le_r R A),
    )

-- the lengths of a proposal that replays
module _ (p : Proposal) (R A : List ℕ) (h : Replays p R A) where
  abbrev rest : List ℕ
  rest = drop (p.number - 1 + length p.deleted) R

  split : Splits R A (take (p.number - 1) R) p.deleted p.inserted rest
  split = replays_splits p R A h

  long-reference : length R ≡ length (take (p.number - 1) R) + (length p.deleted + length rest)
  long-reference = ap length split.reference ∙ simp length-append

  long-altered : length A ≡ length (take (p.number - 1) R) + (length p.inserted + length rest)
  long-altered = ap length split.altered ∙ simp length-append

  covered : length (take (p.number - 1) R) + length rest ≤ common_prefix R A + ending false (common_prefix R A) R A
  covered = covers R A (take (p.number - 1) R) p.deleted p.inserted rest split

  long-front : p.number ≡ common_prefix R A + 1 → length (take (p.number - 1) R) ≡ common_prefix R A
  long-front there = length-take-le (p.number - 1) R (omega (arith, cp_le_l R A)) ∙ omega arith

  module _ (there : p.number ≡ common_prefix R A + 1) where
    -- it leaves the longest ending, or it isn't the shortest
    pub leaves-fewest : p.number - 1 + length p.deleted + ending false (common_prefix R A) R A ≡ length R → Shortest p R A
    leaves-fewest left =
        let front = long-front there in
        let least = least_of R A in
        record {
          replays = h;
          there = there;
          fewest = λ P D I S split'.
              let all = covers R A P D I S split' in
              let r = ap length split'.reference ∙ three P D S in
              let a = ap length split'.altered ∙ three P I S in
              omega (arith, long-reference, long-altered);
          latest = λ P D I S split'. omega (arith, number_is, least.latest P D I S split');
        }
      where
        three : (x y z : List ℕ) → length (x ++ (y ++ z)) ≡ length x + (length y + length z)
        three x y z = simp length-append

        number_is : (change_of false R A).number ≡ common_prefix R A + 1
        number_is = (tells_of false R A).number

    pub fewest-leaves : ((P D I S : List ℕ) → Splits R A P D I S → length p.deleted + length p.inserted ≤ length D + length I)
        → p.number - 1 + length p.deleted + ending false (common_prefix R A) R A ≡ length R
    fewest-leaves few =
        let c = change_of false R A in
        let own = tells_replays R A c (tells_of false R A) in
        let told = own_lengths R A in
        let front = long-front there in
        let within = ending-within R A in
        omega (arith, within.0, within.1, few _ _ _ _ (replays_splits (proposal_of c R A) R A own), told.0, told.1, long-reference, long-altered, covered)

-- a second yes means that, and that is a second yes
module _ (p : Proposal) (R A : List ℕ) where
  pub yes-shortest : is_shortest p R A ≡ true → Shortest p R A
  unfolding is_shortest begins_there leaves_ending
  yes-shortest h =
      let begins = eqb p.number (common_prefix R A + 1) in
      let leaves = eqb (p.number - 1 + length p.deleted + ending false (common_prefix R A) R A) (length R) in
      let two = and_left (replays p R A && begins) leaves h in
      leaves-fewest p R A (yes-replays p R A (and_left (replays p R A) begins two)) (eqb-true p.number (common_prefix R A + 1) (and_right (replays p R A) begins two))
      (eqb-true (p.number - 1 + length p.deleted + ending false (common_prefix R A) R A) (length R) (and_right (replays p R A && begins) leaves h))

  pub shortest-yes : Shortest p R A → is_shortest p R A ≡ true
  unfolding is_shortest begins_there leaves_ending
  shortest-yes h =
      rw (
        replays-yes p R A h.replays,
        eq-eqb p.number (common_prefix R A + 1) h.there,
        eq-eqb (p.number - 1 + length p.deleted + ending false (common_prefix R A) R A) (length R) (fewest-leaves p R A h.replays h.there h.fewest),
      )

-- without the flag our own record gets both
pub own_shortest : (r : Reference) (e : Asked) (c : Change) → record_of r e ≡ Changed c → frameshift r e ≡ false
    → is_shortest (proposal_of c (reference_protein r) (altered_protein r e)) (reference_protein r) (altered_protein r e) ≡ true
own_shortest r e c h flag =
    let R = reference_protein r in
    let A = altered_protein r e in
    let d = demand r e c h in
    let least = d.least flag in
    shortest-yes (proposal_of c R A) R A
    (record { replays = tells_replays R A c d.tells; there = d.tells.number; fewest = least.fewest; latest = least.latest })
