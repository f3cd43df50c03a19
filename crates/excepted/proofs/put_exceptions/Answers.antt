-- `excepted::put_exceptions` meets its contract. The invariant: those that were looked at are put.
use mathlib.Core.Path.{sym, ◌∙◌}
use native.Mathlib.Omega.{arith}
use borrow.Author.Rules.{rules}
use lib.ListN.{take-append-drop}
use Rattle.excepted.proofs.Putting.{excepted_none, put-more, all_put}
use Rattle.excepted.proofs.put_exceptions.Goals as goal

pub loop-k-init : goal.loop-k-init
loop-k-init c = sym (rw excepted_none (take-append-drop c.args.whole c.args.out.now))

pub loop-k-preserved : goal.loop-k-preserved
loop-k-preserved c =
    c.put_exception.ensures
    ∙ put-more c.args.e.all c.loop-k.k _ c.args.whole c.loop-k.out c.args.out.now (search rules) (omega (arith, c.requires.count_bound)) c.loop-k.invariant

pub returns : goal.returns
returns c = all_put c.args.e c.args.whole c.loop-k.k c.loop-k.out c.args.out.now (omega arith) c.requires.count_bound (omega arith) c.loop-k.invariant
