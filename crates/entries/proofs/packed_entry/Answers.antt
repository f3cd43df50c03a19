-- `entries::packed_entry` meets its contract. Assumes nothing.
use mathlib.Core.Path.{◌∙◌}
use native.Mathlib.Omega.{arith}
use Rattle.entries.proofs.Entries.{halves-fit, whole-entry, no-entry, cut-entry, cut-entry-of-two}
use Rattle.entries.proofs.packed_entry.Goals as goal

pub returns-then-bases-k : goal.returns-then-bases-k
returns-then-bases-k c = record { value = no-entry c.args.size c.args.packed.now c.args.c c.requires.inside c.args.n c.if-bases-k.true; small = omega arith }

pub halves_at-requires : goal.halves_at-requires
halves_at-requires c =
    halves-fit c.args.size c.args.packed.now c.args.c c.requires.inside c.args.n c.if-k-bases.true

pub returns-then-k-bases : goal.returns-then-k-bases
returns-then-k-bases c = record { value = c.halves_at.ensures.value ∙ whole-entry c.args.size c.args.packed.now c.args.c c.requires.inside c.args.n c.if-k-bases.true; small = c.halves_at.ensures.small }

pub returns-then-k-bases-2 : goal.returns-then-k-bases-2
returns-then-k-bases-2 c =
    let first = c.set_at-first.ensures in
    let second = c.set_at.ensures in
    record { value = rw (first.value, second.value) (cut-entry-of-two c.args.size c.args.packed.now c.args.c c.requires.inside c.args.n c.if-k-bases-2.true c.if-k-bases.false); small = omega (arith, first.some, second.some) }

pub returns : goal.returns
returns c =
    let first = c.set_at-first.ensures in
    record { value = rw first.value (cut-entry c.args.size c.args.packed.now c.args.c c.requires.inside c.args.n (omega arith) c.if-k-bases-2.false); small = omega (arith, first.some) }
