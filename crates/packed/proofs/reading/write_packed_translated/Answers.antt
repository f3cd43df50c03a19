-- `packed::reading::write_packed_translated` meets its contract. Assumes nothing.
use mathlib.Core.Path.{◌∙◌}
use Prim.Native.Nat.{◌/◌}
use native.Mathlib.Omega.{arith}
use Rattle.packed.proofs.Codons.{odd-turn, codons-all, codons-end}
use Rattle.packed.proofs.reading.write_packed_translated.Goals as goal

pub returns-then-first-eq0 : goal.returns-then-first-eq0
returns-then-first-eq0 c = c.write_fours.ensures ∙ codons-all c.args.table c.args.first c.args.codons c.args.packed.now c.args.out.now

pub returns-then-codons-gt0 : goal.returns-then-codons-gt0
returns-then-codons-gt0 c = c.write_fours-then-codons-gt0.ensures
    ∙ odd-turn c.args.table c.args.first c.args.codons c.args.packed.now c.requires.codons_in_bounds 0 c.args.out.now _ _ (omega arith) (omega (arith, c.requires.room)) (c.args.first / 2) (omega arith) c.odd_codon.ensures (codons-all c.args.table c.args.first c.args.codons c.args.packed.now c.args.out.now)

pub returns-else-codons-gt0 : goal.returns-else-codons-gt0
returns-else-codons-gt0 c = codons-end c.args.table c.args.first c.args.codons c.args.packed.now c.requires.codons_in_bounds c.args.out.now _ 0 (omega arith) (codons-all c.args.table c.args.first c.args.codons c.args.packed.now c.args.out.now)
