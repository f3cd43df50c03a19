-- `walks::stop_by_places` meets its contract. The invariant: the first stop from codon i on is the first.
-- Assumes nothing.
use mathlib.Core.Path.{sym, ◌∙◌}
use mathlib.Core.List.{[]}
use native.Mathlib.Omega.{arith}
use borrow.Author.Rules.{rules}
use Rattle.walks.proofs.Walks.{stops-all, stops-later, stops-here, stops-none}
use Rattle.walks.proofs.PlainWalks.{plain-reads}
use Rattle.walks.proofs.stop_by_places.Goals as goal

pub loop-i-init : goal.loop-i-init
loop-i-init c = stops-all c.args.table [] c.args.seq.now

pub loop-i-preserved : goal.loop-i-preserved
loop-i-preserved c = let args = c.args in
    let loop = c.loop-i in
    sym (stops-later args.table [] args.seq.now loop.i _ (search rules) (plain-reads args.table args.seq.now loop.i _ c.plain_codon_at.ensures) c.if-plain_codon_at-eq42.false) ∙ loop.invariant

pub returns : goal.returns
returns c = let args = c.args in
    let loop = c.loop-i in
    omega (arith, stops-none args.table [] args.seq.now loop.i (omega arith), loop.invariant)

pub returns-then-plain_codon_at-eq42 : goal.returns-then-plain_codon_at-eq42
returns-then-plain_codon_at-eq42 c = let args = c.args in
    let loop = c.loop-i in
    sym (stops-here args.table [] args.seq.now loop.i _ (search rules) (plain-reads args.table args.seq.now loop.i _ c.plain_codon_at.ensures) c.if-plain_codon_at-eq42.true) ∙ loop.invariant
