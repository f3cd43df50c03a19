-- `parts::late::has_no_stop` meets its contract. The invariant: the residues passed have no `*`.
use mathlib.Core.Path.{sym, ◌∙◌}
use native.Mathlib.Omega.{arith}
use borrow.Author.Rules.{rules}
use Rattle.rules.specs.Bytes.{count}
use Rattle.reference.proofs.Reading.{codons-are}
use Rattle.parts.specs.Parts.{in_parts}
use Rattle.parts.proofs.Judged.{turned, stopped, passed}
use Rattle.parts.proofs.Passing.{passed_on}
use Rattle.parts.proofs.late.has_no_stop.Goals as goal

pub loop-k-init : goal.loop-k-init
unfolding count
loop-k-init c =
    let a = c.args in
    (omega arith, codons-are (in_parts a.a.now a.b.now a.c.now) a.cds a.e c.requires, c.folded_sets-sets.ensures, c.residues_of-residues.ensures, search rules)

pub returns-then-whole-to : goal.returns-then-whole-to
returns-then-whole-to c =
    let a = c.args in
    let v = c.loop-k in
    let to = c.pass_codons-to in
    passed (in_parts a.a.now a.b.now a.c.now) a.cds a.e c.requires to.result (omega (arith, v.invariant.1, c.if-whole-to.true)) to.ensures.within (passed_on (in_parts a.a.now a.b.now a.c.now) a.cds a.e c.requires v.k to.result to.ensures v.invariant.4)

pub returns-then-residue_at-eq42 : goal.returns-then-residue_at-eq42
returns-then-residue_at-eq42 c =
    let a = c.args in
    let v = c.loop-k in
    stopped (in_parts a.a.now a.b.now a.c.now) a.cds a.e c.requires c.pass_codons-to.result (omega (arith, v.invariant.1, c.if-whole-to.false)) (sym c.residue_at.ensures ∙ c.if-residue_at-eq42.true)

pub loop-k-preserved : goal.loop-k-preserved
loop-k-preserved c =
    let a = c.args in
    let v = c.loop-k in
    let to = c.pass_codons-to in
    let none = passed_on (in_parts a.a.now a.b.now a.c.now) a.cds a.e c.requires v.k to.result to.ensures v.invariant.4 in
    (omega (arith, c.if-whole-to.false), v.invariant.1, v.invariant.2, v.invariant.3, turned (in_parts a.a.now a.b.now a.c.now) a.cds a.e c.requires to.result (omega (arith, v.invariant.1, c.if-whole-to.false)) none (λ z. c.if-residue_at-eq42.false (c.residue_at.ensures ∙ z)))

pub returns : goal.returns
returns c =
    let a = c.args in
    let v = c.loop-k in
    passed (in_parts a.a.now a.b.now a.c.now) a.cds a.e c.requires v.k (omega (arith, v.invariant.1)) (omega (arith, v.invariant.1, v.invariant.0)) v.invariant.4
