-- No byte before i is b: the place is behind i, as far as b is in what is left.
use Rattle.std.proofs.Common.{◌≡◌, ◌+◌}
use Rattle.bytewise.specs.Find.{index_of, slice}
use Rattle.bytewise.proofs.find.Given as goal

abbrev pub invariant-loop-i : goal.invariant-loop-i
invariant-loop-i l = l.fn.from + index_of l.b (slice l.fn.from l.to l.s) ≡ l.i + index_of l.b (slice l.i l.to l.s)
