-- The blocks before passed.
use Rattle.std.proofs.Common.{◌≡◌, ◌*◌, true, take}
use Rattle.rules.specs.Bytes.{all}
use Rattle.letters.specs.Sets.{folds_to_base}
use Rattle.translation.proofs.bases.blocks_fold_to_bases.Given as goal

abbrev pub invariant-loop-k : goal.invariant-loop-k
invariant-loop-k g l = all folds_to_base (take (l.k * g.row.N) l.s) ≡ true
