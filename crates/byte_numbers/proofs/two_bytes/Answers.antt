-- `byte_numbers::two_bytes` meets its contract. Assumes nothing.
use native.Mathlib.Omega.{arith}
use Rattle.rules.specs.Stored.{two_bytes}
use Rattle.byte_numbers.proofs.two_bytes.Goals as goal

pub returns : goal.returns
unfolding two_bytes
returns c = omega (arith, c.from.ensures, c.from_be_bytes.ensures)
