-- `differences::put_difference` meets its contract. Assumes nothing.
use mathlib.Core.Path.{◌∙◌}
use native.Mathlib.Omega.{arith}
use Rattle.rules.specs.Editions.{difference_at, difference_bytes}
use Rattle.alike.proofs.Judged.{inside_of, few-of}
use Rattle.skips.proofs.Residues.{residue_of}
use Rattle.skips.proofs.Walking.{put_four}
use Rattle.differences.proofs.put_difference.Goals as goal

pub entry_of-p-requires : goal.entry_of-p-requires
entry_of-p-requires c = record { inside = inside_of c.args.first.now c.args.r c.requires.reads.fits; le_n = (c.requires.le_n.0, omega (arith, c.requires.le_n.1)) }

pub entry_of-q-requires : goal.entry_of-q-requires
entry_of-q-requires c = record { inside = inside_of c.args.second.now c.args.s c.requires.reads_2.fits; le_n = (c.requires.le_n.0, omega (arith, c.requires.le_n.1)) }

pub residue_by-requires : goal.residue_by-requires
residue_by-requires c = record { count_bound = few-of c.args.first.now c.args.r c.requires.reads.fits; bound = c.entry_of-p.ensures.small }

pub residue_by-requires-2 : goal.residue_by-requires-2
residue_by-requires-2 c = record { count_bound = few-of c.args.second.now c.args.s c.requires.reads_2.fits; bound = c.entry_of-q.ensures.small }

pub returns : goal.returns
unfolding difference_bytes difference_at
returns c =
    let a = c.args in
    let p = c.entry_of-p in
    let q = c.entry_of-q in
    let one = c.requires.le_n.0 in
    put_four a.out.now _ _ _ _ _ _ c.requires.in_bounds
    (c.residue_by.ensures ∙ residue_of a.first.now a.r a.a.now c.requires.reads a.n p.result one p.ensures.value)
    (c.residue_by-2.ensures ∙ residue_of a.second.now a.s a.b.now c.requires.reads_2 a.n q.result one q.ensures.value)
