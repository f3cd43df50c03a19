-- What is left decides.
use Rattle.std.proofs.Common.{ℕ, Bool, ◌≡◌}
use Rattle.rules.specs.Bytes.{all}
use Rattle.bytewise.specs.Tests.{Computes}
use Rattle.bytewise.proofs.all_blocks.Given as goal

abbrev pub invariant-loop-block : goal.invariant-loop-block
invariant-loop-block g l = (p : ℕ → Bool) → Computes (goal.F-post g l.test) p → all p l.block-iterator.rest.now ≡ all p l.s
