-- `excepted::next_exception` meets its contract. The invariant: the nearest of those that were looked at.
use mathlib.Core.Path.{◌≡◌, refl, ◌∙◌}
use native.Mathlib.Omega.{arith}
use Rattle.rules.proofs.Translation.{first_exceptions}
use Rattle.excepted.specs.Exceptions.{next_from}
use Rattle.excepted.proofs.Putting.{next_more}
use Rattle.excepted.proofs.next_exception.Goals as goal

pub loop-k-init : goal.loop-k-init
unfolding next_from
loop-k-init c = refl

pub loop-k-preserved : goal.loop-k-preserved
loop-k-preserved c = next_more c.args.e.all c.loop-k.k c.args.n c.args.past c.loop-k.next _ _ (omega (arith, c.requires)) c.loop-k.invariant c.nearer_by-next.ensures

pub returns : goal.returns
returns c =
    let done : c.loop-k.k ≡ c.args.e.count = omega arith in
    c.loop-k.invariant ∙ rw (done, ← first_exceptions c.args.e (omega arith) c.requires)
