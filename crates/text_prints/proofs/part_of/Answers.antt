-- `text_prints::part_of` meets its contract. Assumes nothing.
use Rattle.std.proofs.lemmas.List.{take_min, drop_min}
use Rattle.rules.specs.Record.{part_of}
use Rattle.rules.proofs.Over.{tail-is}
use Rattle.text_prints.proofs.part_of.Goals as goal

pub returns : goal.returns
unfolding part_of
returns c = rw (c.min-2.ensures, take_min, tail-is, c.min.ensures, drop_min)
