-- `settings_fields::settings_at` meets its contract. Assumes nothing.
use native.Mathlib.Omega.{arith}
use Rattle.settings_fields.specs.Places.{settings_at}
use Rattle.settings_fields.proofs.Places.{long-four}
use Rattle.settings_fields.proofs.settings_at.Goals as goal

pub bounds-s-7 : goal.bounds-s-7
bounds-s-7 c = omega (arith, long-four c.args.s.now c.args.version c.requires)

pub bounds-s-11 : goal.bounds-s-11
bounds-s-11 c = omega (arith, long-four c.args.s.now c.args.version c.requires)

pub bounds-s-15 : goal.bounds-s-15
bounds-s-15 c = omega (arith, long-four c.args.s.now c.args.version c.requires)

pub returns : goal.returns
unfolding settings_at
returns c = rw (c.from.ensures, c.from-2.ensures, c.from-3.ensures, c.longest_at.ensures)
