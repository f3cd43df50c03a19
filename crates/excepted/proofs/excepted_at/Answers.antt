-- `excepted::excepted_at` meets its contract. The invariant: those that were looked at are applied.
use mathlib.Core.Path.{◌≡◌, refl, ◌∙◌}
use native.Mathlib.Omega.{arith}
use Rattle.rules.specs.Translation.{excepted}
use Rattle.rules.proofs.Translation.{first_exceptions}
use Rattle.excepted.proofs.Putting.{excepted_more}
use Rattle.excepted.proofs.excepted_at.Goals as goal

pub loop-k-init : goal.loop-k-init
unfolding excepted
loop-k-init c = refl

pub loop-k-preserved : goal.loop-k-preserved
loop-k-preserved c = excepted_more c.args.e.all c.loop-k.k c.args.n c.args.r c.loop-k.y _ _ (omega (arith, c.requires)) c.loop-k.invariant c.excepted_by-y.ensures

pub returns : goal.returns
returns c =
    let done : c.loop-k.k ≡ c.args.e.count = omega arith in
    c.loop-k.invariant ∙ rw (done, ← first_exceptions c.args.e (omega arith) c.requires)
