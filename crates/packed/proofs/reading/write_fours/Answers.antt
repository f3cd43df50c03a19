-- `packed::reading::write_fours` meets its contract. Assumes nothing.
use mathlib.Core.Path.{◌∙◌}
use Prim.Native.Nat.{◌+◌, ◌*◌, ◌/◌, ◌%◌}
use native.Mathlib.Omega.{arith}
use lib.ListN.{length-set}
use Rattle.packed.proofs.Codons.{codons-from, four-turn}
use Rattle.packed.proofs.reading.write_fours.Goals as goal

pub loop-k-preserved : goal.loop-k-preserved
loop-k-preserved c = let i = c.args.done + c.loop-k.k * 4 in
    let j = c.args.first / 2 + c.args.done + (c.args.done + c.args.first % 2) / 2 + c.loop-k.k * 6 in (
      simp length-set c.loop-k.invariant.0,
      codons-from c.args.table c.args.first c.args.codons c.args.packed.now (c.args.done + (c.loop-k.k + 1) * 4) (i + 2 + 2) _ (omega arith)
          ∙ four-turn c.args.table c.args.first c.args.codons c.args.packed.now c.requires.codons_in_bounds.0 i c.loop-k.out _ c.even_codon-one.result c.odd_codon-two.result c.even_codon-three.result c.odd_codon-four.result j (omega arith) (omega arith) (omega arith) c.even_codon-one.ensures c.odd_codon-two.ensures c.even_codon-three.ensures c.odd_codon-four.ensures c.loop-k.invariant.1,
    )
