-- `editions::codon_count` meets its contract. Assumes nothing.
use native.Mathlib.Omega.{arith}
use Rattle.alike.proofs.Judged.{count_of}
use Rattle.editions.proofs.codon_count.Goals as goal

pub returns : goal.returns
returns c =
    omega (arith, c.div_ceil.ensures, count_of c.args.letters.now c.args.x c.requires)
