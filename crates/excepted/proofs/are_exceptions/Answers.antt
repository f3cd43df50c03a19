-- `excepted::are_exceptions` meets its contract. The invariant: those that were looked at can be taken.
use mathlib.Core.Path.{refl, sym, ◌∙◌}
use native.Mathlib.Omega.{arith}
use borrow.Author.Rules.{rules}
use Rattle.rules.specs.Bytes.{all}
use Rattle.excepted.proofs.Putting.{never}
use Rattle.excepted.proofs.Putting.{too_many, taken_more, not_taken, all-taken}
use Rattle.excepted.proofs.are_exceptions.Goals as goal

pub returns-then-e-gt16 : goal.returns-then-e-gt16
returns-then-e-gt16 c = record { value = sym (too_many c.args.e (omega arith) c.if-e-gt16.true); few = λ e. absurd (never e) }

pub loop-k-init : goal.loop-k-init
unfolding all
loop-k-init c = refl

pub returns-then-not-is_exception : goal.returns-then-not-is_exception
returns-then-not-is_exception c = record {
  value = sym (not_taken c.args.e (omega arith) c.if-e-gt16.false c.loop-k.k _ (search rules) (sym c.is_exception.ensures ∙ c.if-not-is_exception.true));
  few = λ e. c.if-e-gt16.false;
}

pub loop-k-preserved : goal.loop-k-preserved
loop-k-preserved c =
    taken_more c.args.e (omega arith) c.if-e-gt16.false c.loop-k.k _ (search rules) c.loop-k.invariant (sym c.is_exception.ensures ∙ c.if-not-is_exception.false)

pub returns : goal.returns
returns c = record {
  value = sym (all-taken c.args.e (omega arith) c.if-e-gt16.false c.loop-k.k (omega arith) c.loop-k.invariant);
  few = λ e. c.if-e-gt16.false;
}
