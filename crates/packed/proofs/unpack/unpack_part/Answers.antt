-- `packed::unpack::unpack_part` meets its contract. Assumes nothing.
use mathlib.Core.Path.{◌≡◌, ◌∙◌}
use Prim.Native.Nat.{◌+◌, ◌*◌, ◌/◌, ◌%◌}
use native.Mathlib.Omega.{arith}
use Rattle.packed.proofs.Pairs.{letter-turn, letters-all, letters-end}
use Rattle.packed.proofs.unpack.unpack_part.Goals as goal

pub returns-then-from-eq0 : goal.returns-then-from-eq0
returns-then-from-eq0 c = c.write_bytes.ensures ∙ letters-all c.args.from c.args.to c.args.packed.now c.requires.to_in_bounds c.args.out.now

pub returns-then-from-to : goal.returns-then-from-to
returns-then-from-to c = let odd : c.args.from % 2 ≡ 1 = omega arith in
    c.write_bytes-then-from-to.ensures
    ∙ letter-turn c.args.from c.args.to c.args.packed.now c.requires.to_in_bounds 0 c.args.out.now _ _ (c.args.from / 2 * 2 + 1) (omega arith) (omega (arith, c.requires.from_in_bounds)) (omega arith) c.pair_at-p.ensures.second (letters-all c.args.from c.args.to c.args.packed.now c.requires.to_in_bounds c.args.out.now)

pub returns-else-from-to : goal.returns-else-from-to
returns-else-from-to c = letters-end c.args.from c.args.to c.args.packed.now c.requires.to_in_bounds 0 c.args.out.now _ (omega arith) (letters-all c.args.from c.args.to c.args.packed.now c.requires.to_in_bounds c.args.out.now)
