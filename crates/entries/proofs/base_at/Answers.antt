-- `entries::base_at` meets its contract. Assumes nothing.
use mathlib.Core.Path.{◌∙◌}
use native.Mathlib.Omega.{arith}
use Rattle.entries.proofs.Entries.{base_there, base-behind}
use Rattle.entries.proofs.base_at.Goals as goal

pub returns-then-k-c : goal.returns-then-k-c
returns-then-k-c c =
    let set = c.letter_set.ensures in
    record { value = set.value ∙ base_there c.args.letters.now c.args.c c.requires c.args.k c.if-k-c.true; small = set.small }

pub returns : goal.returns
returns c = record { value = base-behind c.args.letters.now c.args.c c.requires c.args.k c.if-k-c.false; small = omega arith }
