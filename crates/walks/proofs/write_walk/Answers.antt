-- `walks::write_walk` meets its contract, whichever way is taken. Assumes nothing.
use mathlib.Core.Path.{refl}
use native.Mathlib.Omega.{arith}
use borrow.Author.Rules.{rules}
use Rattle.rules.specs.Translation.{residue_count}
use Rattle.walks.proofs.Walks.{both}
use Rattle.walks.proofs.write_walk.Goals as goal

pub returns-then-plain-e : goal.returns-then-plain-e
returns-then-plain-e c = let args = c.args in
    rw (both args.plain args.e c.if-plain-e.true).1 c.write_plain_to_stop.ensures

pub write_to_stop-requires-clause-bounds : goal.write_to_stop-requires-clause-bounds
unfolding residue_count
write_to_stop-requires-clause-bounds c = (c.requires.reads.few, omega arith, omega (arith, c.requires.room))

pub returns-clause-walked_to : goal.returns-clause-walked_to
returns-clause-walked_to c = c.write_to_stop.ensures.walked_to c.args.table c.args.seq.now (record { many = refl; each = λ i r h called. search rules })
