-- `byte_numbers::four_bytes` meets its contract. Assumes nothing.
use native.Mathlib.Omega.{arith}
use Rattle.rules.specs.Stored.{two_bytes, four_bytes}
use Rattle.byte_numbers.proofs.four_bytes.Goals as goal

pub returns : goal.returns
unfolding two_bytes four_bytes
returns c = omega (arith, c.from_be_bytes.ensures)
