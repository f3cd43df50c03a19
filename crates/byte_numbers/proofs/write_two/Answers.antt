-- `byte_numbers::write_two` meets its contract. Assumes nothing.
use mathlib.Core.Path.{◌≡◌}
use Prim.Native.Nat.{◌/◌, ◌%◌}
use native.Mathlib.Omega.{arith}
use Rattle.rules.specs.Storing.{in_two}
use Rattle.rules.proofs.Over.{stored_two}
use Rattle.byte_numbers.proofs.write_two.Goals as goal

pub returns-clause-out_after : goal.returns-clause-out_after
unfolding in_two
returns-clause-out_after c =
    let n = c.args.n in
    let high : n / 256 % 256 ≡ n / 256 = omega arith in
    rw (c.to_be_bytes.ensures, high) (stored_two (n / 256) (n % 256) c.args.out.now c.requires.in_bounds)
