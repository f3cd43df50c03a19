-- Assumes nothing.
use mathlib.Core.Path.{ap, ◌∙◌}
use lib.ListN.{get_or}
use mathlib.Core.List.{List}
use Prim.Native.Nat.{ℕ}
use Rattle.vectors_calls.proofs.Rows.{by-rule-is}
use Rattle.vectors_calls.proofs.given_exceptions.by_rule.Goals as goal

pub returns : goal.returns
returns c = let a = c.args in
    let n = c.codon_of in
    let codon = c.codon_in-codon in
    by-rule-is a.line.now a.count a.i _ n.result codon.result c.byte_at-residue.result n.ensures c.number.ensures codon.ensures
    (c.byte_at-residue.ensures ∙ ap (λ (f : List ℕ). get_or f 0 0) c.field.ensures)
