-- `halves::check::packed_pass` meets its contract. Assumes nothing.
use Prim.Native.Nat.{◌/◌}
use native.Mathlib.Omega.{arith}
use Rattle.halves.specs.Halves.{are_pair}
use Rattle.halves.proofs.Checks.{some-fails, all-even, all-odd}
use Rattle.halves.proofs.check.packed_pass.Goals as goal

pub returns-then-not-all_blocks : goal.returns-then-not-all_blocks
returns-then-not-all_blocks g c = λ p none pairs last.
    some-fails p c.args.size c.args.packed.now c.requires.size_value.1 _ (c.all_blocks.ensures.value (are_pair p) pairs) none c.if-not-all_blocks.true

pub returns-then-size-eq0 : goal.returns-then-size-eq0
returns-then-size-eq0 g c = λ p none pairs last.
    all-even p c.args.size c.args.packed.now c.requires.size_value.1 _ (c.all_blocks.ensures.value (are_pair p) pairs) none c.if-not-all_blocks.false c.if-size-eq0.true

pub returns : goal.returns
returns g c = λ p none pairs last.
    all-odd p c.args.size c.args.packed.now c.requires.size_value.1 _ (c.all_blocks.ensures.value (are_pair p) pairs) none _ c.if-not-all_blocks.false c.if-size-eq0.false (last _ _ (omega (arith, c.type_inv.packed (c.args.size / 2))) c.last.ensures)
