-- Assumes nothing.
use mathlib.Core.Path.{ap, ◌∙◌}
use lib.ListN.{get_or}
use mathlib.Core.List.{List}
use Prim.Native.Nat.{ℕ}
use Rattle.vectors_calls.proofs.Rows.{listed-is}
use Rattle.vectors_calls.proofs.given_exceptions.listed_at.Goals as goal

pub returns : goal.returns
returns c = let a = c.args in
    let n = c.number in
    let codon = c.codon_in-codon in
    listed-is a.line.now a.first a.i n.result codon.result c.byte_at-residue.result n.ensures codon.ensures
    (c.byte_at-residue.ensures ∙ ap (λ (f : List ℕ). get_or f 0 0) c.field.ensures)
