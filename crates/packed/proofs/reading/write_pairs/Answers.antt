-- `packed::reading::write_pairs` meets its contract. Assumes nothing.
use mathlib.Core.Path.{◌∙◌}
use Prim.Native.Nat.{◌+◌, ◌-◌, ◌*◌, ◌/◌, ◌%◌}
use native.Mathlib.Omega.{arith}
use lib.ListN.{length-set}
use Rattle.packed.proofs.Codons.{codons-from, even-turn, pair_turn, codons-end}
use Rattle.packed.proofs.reading.write_pairs.Goals as goal

pub loop-k-preserved : goal.loop-k-preserved
loop-k-preserved c = let i = c.args.done + c.loop-k.k * 2 in
    let j = c.args.first / 2 + c.args.done + (c.args.done + c.args.first % 2) / 2 + c.loop-k.k * 3 in (
      simp length-set c.loop-k.invariant.0,
      codons-from c.args.table c.args.first c.args.codons c.args.packed.now (c.args.done + (c.loop-k.k + 1) * 2) (i + 2) _ (omega arith)
          ∙ pair_turn c.args.table c.args.first c.args.codons c.args.packed.now c.requires.codons_in_bounds.0 i c.loop-k.out _ c.even_codon-one.result c.odd_codon-two.result j (omega arith) (omega arith) (omega arith) c.even_codon-one.ensures c.odd_codon-two.ensures c.loop-k.invariant.1,
    )

pub returns-then-last-codons : goal.returns-then-last-codons
returns-then-last-codons c = let pairs = (c.args.codons - c.args.done) / 2 in
    let i = c.args.done + pairs * 2 in
    let j = c.args.first / 2 + c.args.done + (c.args.done + c.args.first % 2) / 2 + pairs * 3 in
    codons-end c.args.table c.args.first c.args.codons c.args.packed.now c.requires.codons_in_bounds.0 _ _ (i + 1) (omega arith)
    (even-turn c.args.table c.args.first c.args.codons c.args.packed.now c.requires.codons_in_bounds.0 i c.loop-k.out _ c.even_codon.result (omega arith) (omega arith) j (omega arith) c.even_codon.ensures
    (codons-from c.args.table c.args.first c.args.codons c.args.packed.now i (c.args.done + c.loop-k.k * 2) c.loop-k.out (omega arith) ∙ c.loop-k.invariant.1))

pub returns-else-last-codons : goal.returns-else-last-codons
returns-else-last-codons c = codons-end c.args.table c.args.first c.args.codons c.args.packed.now c.requires.codons_in_bounds.0 _ _ (c.args.done + c.loop-k.k * 2) (omega arith) c.loop-k.invariant.1
