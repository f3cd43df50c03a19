-- `stored_fields::exceptions::exception_at` meets its contract. Assumes nothing.
use Prim.Native.Nat.{◌+◌, ◌*◌}
use native.Mathlib.Omega.{arith}
use Rattle.rules.specs.Stored.{two_bytes}
use Rattle.stored_fields.proofs.exceptions.exception_at.Goals as goal

-- two bytes are fewer than four
pub overflow_cast-result : goal.overflow_cast-result
unfolding two_bytes
overflow_cast-result c =
    let byte = c.type_inv.s in
    let i = c.args.i in
    omega (arith, c.two_bytes.ensures, byte (i * 3), byte (i * 3 + 1))
