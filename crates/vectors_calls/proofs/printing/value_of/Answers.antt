-- The invariant: the value so far, with the bytes to come, is the whole's; it stays below the modulus. Assumes nothing.
use mathlib.Core.Path.{sym, ap, ◌∙◌}
use Prim.Native.Nat.{ℕ, ◌+◌, ◌*◌, ◌%◌}
use borrow.Author.Rules.{rules}
use lib.ListN.{drop}
use Rattle.vectors_calls.specs.Printed.{check_from, check_value}
use Rattle.vectors_calls.proofs.Lines.{check-more, check-end}
use Rattle.vectors_calls.proofs.printing.value_of.Goals as goal

pub loop-i-preserved : goal.loop-i-preserved
loop-i-preserved c = let more = check-more c.loop-i.x c.args.s.now c.loop-i.i c.loop-i-test.true in
    (search rules, ap (λ (b : ℕ). check_from ((c.loop-i.x * 31 + b) % 1000003) (drop (c.loop-i.i + 1) c.args.s.now)) c.from.ensures ∙ sym more ∙ c.loop-i.invariant.1)

pub returns : goal.returns
unfolding check_value
returns c = sym (check-end c.loop-i.x c.args.s.now c.loop-i.i c.loop-i-test.false) ∙ c.loop-i.invariant.1
