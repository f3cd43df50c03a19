-- `skips::next_difference` meets its contract. The invariant: the differences from n on are those from m on.
use mathlib.Core.Path.{◌∙◌}
use native.Mathlib.Omega.{arith}
use Rattle.alike.specs.Reading.{edition_of}
use Rattle.alike.proofs.Judged.{inside_of, few-of}
use Rattle.skips.proofs.Residues.{other-letters, other-residues, same-residues}
use Rattle.skips.proofs.Walking.{skip-one}
use Rattle.skips.proofs.next_difference.Goals as goal

pub entry_of-p-requires : goal.entry_of-p-requires
entry_of-p-requires c = record { inside = inside_of c.args.first.now c.args.r c.requires.reads.fits; le_n = (omega arith, omega arith) }

pub entry_of-q-requires : goal.entry_of-q-requires
entry_of-q-requires c = record { inside = inside_of c.args.second.now c.args.s c.requires.reads_2.fits; le_n = (omega arith, omega arith) }

pub returns-then-p-q : goal.returns-then-p-q
returns-then-p-q c =
    let a = c.args in
    let loop = c.loop-m in
    let p = c.entry_of-p in
    let q = c.entry_of-q in
    record {
      from = loop.invariant.0;
      within = loop.invariant.1;
      list = loop.invariant.2;
      differs = λ h. other-letters a.first.now a.second.now a.r a.s a.a.now a.b.now c.requires.reads c.requires.reads_2 loop.m p.result q.result (omega arith) p.ensures.value q.ensures.value c.if-p-q.true;
    }

pub residue_by-requires : goal.residue_by-requires
residue_by-requires c = record { count_bound = few-of c.args.first.now c.args.r c.requires.reads.fits; bound = c.entry_of-p.ensures.small }

pub residue_by-requires-in-loop-m : goal.residue_by-requires-in-loop-m
residue_by-requires-in-loop-m c = record { count_bound = few-of c.args.second.now c.args.s c.requires.reads_2.fits; bound = c.entry_of-q.ensures.small }

pub returns-then-residue_by : goal.returns-then-residue_by
returns-then-residue_by c =
    let a = c.args in
    let loop = c.loop-m in
    let p = c.entry_of-p in
    let q = c.entry_of-q in
    let x = c.residue_by in
    let y = c.residue_by-in-loop-m in
    record {
      from = loop.invariant.0;
      within = loop.invariant.1;
      list = loop.invariant.2;
      differs = λ h. other-residues a.first.now a.second.now a.r a.s a.a.now a.b.now c.requires.reads c.requires.reads_2 loop.m p.result q.result (omega arith) p.ensures.value q.ensures.value c.if-p-q.false x.result y.result x.ensures y.ensures c.if-residue_by.true;
    }

pub loop-m-preserved : goal.loop-m-preserved
loop-m-preserved c =
    let a = c.args in
    let loop = c.loop-m in
    let p = c.entry_of-p in
    let q = c.entry_of-q in
    let x = c.residue_by in
    let y = c.residue_by-in-loop-m in
    let next = c.pass_equal-m.ensures in
    let equal = same-residues a.first.now a.second.now a.r a.s a.a.now a.b.now c.requires.reads c.requires.reads_2 loop.m p.result q.result (omega arith) p.ensures.value q.ensures.value c.if-p-q.false x.result y.result x.ensures y.ensures c.if-residue_by.false in (
      omega (arith, loop.invariant.0, next.from),
      next.within,
      loop.invariant.2 ∙ skip-one (edition_of a.first.now a.r) (edition_of a.second.now a.s) a.past loop.m c.loop-m-test.true equal ∙ next.list,
    )
