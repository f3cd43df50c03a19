-- `packed::unpack::letter_pairs` meets its contract: the table lists the pairs, which antt computes. Assumes nothing.
use Rattle.rules.specs.Packed.{letter_of}
use Rattle.packed.proofs.Pairs.{holds_pairs}
use Rattle.packed.proofs.unpack.letter_pairs.Goals as goal

pub returns : goal.returns
unfolding letter_of
returns c = holds_pairs
