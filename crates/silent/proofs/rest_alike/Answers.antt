-- `silent::rest_alike` meets its contract. Assumes nothing.
use native.Mathlib.Omega.{arith}
use Rattle.silent.proofs.Same.{no-rest, one_rest, rest_past}
use Rattle.silent.proofs.rest_alike.Goals as goal

pub returns-then-rest-eq0 : goal.returns-then-rest-eq0
returns-then-rest-eq0 c = no-rest c.args.protein.now c.args.k c.args.rest c.if-rest-eq0.true

pub returns-then-protein-k : goal.returns-then-protein-k
returns-then-protein-k c = rest_past c.args.protein.now c.args.k c.args.rest c.if-rest-eq0.false c.if-protein-k.true

pub returns : goal.returns
returns c = one_rest c.args.protein.now c.args.k c.args.rest c.if-rest-eq0.false (omega (arith, c.if-protein-k.false))
