-- `bytewise::find` meets its contract.
use Rattle.std.proofs.Common.{◌≡◌, ◌≢◌, ◌+◌, ◌-◌, ◌<◌, ◌≤◌, ℕ, suc, List, ◌∷◌, length, get_or, ◌∙◌, ap, arith, drop-cons, add-one}
use borrow.Author.Tests.{eq-eqb, ne_eqb}
use Rattle.bytewise.specs.Find.{index_of, index_after, slice}
use Rattle.bytewise.proofs.find.Goals as goal

-- a part that begins with a byte
part_cons : (s : List ℕ) (i to : ℕ) → i < to → to ≤ length s → slice i to s ≡ get_or s i 0 ∷ slice (suc i) to s
part_cons s i to h k =
    let lt : i < length s = omega arith in
    let more : to - i ≡ suc (to - suc i) = omega arith in
    rw (more, drop-cons s i 0)

-- the byte is the part's first
stands : (b : ℕ) (s : List ℕ) (i to : ℕ) → i < to → to ≤ length s → get_or s i 0 ≡ b → index_of b (slice i to s) ≡ 0
unfolding index_of index_after
stands b s i to h k e = ap (index_of b) (part_cons s i to h k) ∙ rw (eq-eqb (get_or s i 0) b e)

-- the part's first is another byte
passed : (b : ℕ) (s : List ℕ) (i to : ℕ) → i < to → to ≤ length s → get_or s i 0 ≢ b → index_of b (slice i to s) ≡ suc (index_of b (slice (i + 1) to s))
unfolding index_of index_after
passed b s i to h k n = ap (index_of b) (part_cons s i to h k) ∙ rw (ne_eqb (get_or s i 0) b n, add-one)

-- nothing is left of the part
ended : (b : ℕ) (s : List ℕ) (i to : ℕ) → to ≤ i → index_of b (slice i to s) ≡ 0
unfolding index_of
ended b s i to h = let none : to - i ≡ 0 = omega arith in rw none

pub returns-then-s-i-clause-value : goal.returns-then-s-i-clause-value
returns-then-s-i-clause-value c =
    omega (arith, c.loop-i.invariant, stands c.args.b c.args.s.now c.loop-i.i c.args.to c.loop-i-test.true c.requires.inside c.if-s-i.true)

pub loop-i-preserved : goal.loop-i-preserved
loop-i-preserved c =
    omega (arith, c.loop-i.invariant, passed c.args.b c.args.s.now c.loop-i.i c.args.to c.loop-i-test.true c.requires.inside c.if-s-i.false)

pub returns-clause-value : goal.returns-clause-value
returns-clause-value c =
    omega (arith, c.loop-i.invariant, ended c.args.b c.args.s.now c.loop-i.i c.args.to c.loop-i-test.false)
