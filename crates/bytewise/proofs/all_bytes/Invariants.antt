-- What was found and what is left decide.
use Rattle.std.proofs.Common.{ℕ, Bool, ◌≡◌, ◌&&◌, drop}
use Rattle.rules.specs.Bytes.{all}
use Rattle.bytewise.specs.Tests.{Computes}
use Rattle.bytewise.proofs.all_bytes.Given as goal

abbrev pub invariant-loop-b : goal.invariant-loop-b
invariant-loop-b g l = (p : ℕ → Bool) → Computes (goal.F-post g l.test) p → l.good && all p (drop l.b-index l.s) ≡ all p l.s
