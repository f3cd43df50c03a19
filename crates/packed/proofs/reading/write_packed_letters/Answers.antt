-- `packed::reading::write_packed_letters` meets its contract. Assumes nothing.
use native.Mathlib.Omega.{arith}
use Rattle.rules.specs.Translation.{residue_count}
use Rattle.packed.proofs.Rests.{read_whole, read-rest}
use Rattle.packed.proofs.reading.write_packed_letters.Goals as goal

pub write_packed_translated-requires : goal.write_packed_translated-requires
unfolding residue_count
write_packed_translated-requires c = record { holds_code = c.requires.holds_code; codons_in_bounds = omega (arith, c.requires.first_le_end); room = omega (arith, c.requires.first_in_bounds) }

pub bounds-out-whole : goal.bounds-out-whole
unfolding residue_count
bounds-out-whole c = omega (arith, c.write_packed_translated.auto.out, c.requires.first_in_bounds)

pub returns-then-end-first-ne0 : goal.returns-then-end-first-ne0
unfolding residue_count
returns-then-end-first-ne0 c = read-rest c.args.table c.args.first c.args.end c.args.packed.now c.requires.first_le_end.0 c.requires.first_le_end.1 c.if-end-first-ne0.true _ c.args.out.now (omega (arith, c.requires.first_in_bounds)) c.write_packed_translated.ensures

pub returns-else-end-first-ne0 : goal.returns-else-end-first-ne0
returns-else-end-first-ne0 c = read_whole c.args.table c.args.first c.args.end c.args.packed.now c.requires.first_le_end.0 c.requires.first_le_end.1 c.if-end-first-ne0.false _ c.args.out.now c.write_packed_translated.ensures
