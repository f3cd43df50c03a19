-- `parts::pieces::stopless_at` meets its contract. Assumes nothing.
use native.Mathlib.Omega.{arith}
use Rattle.parts.proofs.Places.{length-parts}
use Rattle.parts.proofs.Passing.{first-stopless, second-stopless, third-stopless, first-letters, second-letters, third-letters}
use Rattle.parts.proofs.pieces.stopless_at.Goals as goal

pub stopless_from-requires : goal.stopless_from-requires
stopless_from-requires c =
    let a = c.args in
    record { holds_sets = c.requires.holds_sets; holds_code = c.requires.holds_code; part_value = first-letters a.a.now a.b.now a.c.now c.requires.c_value; at_in_bounds = omega arith }

pub returns-then-at-a : goal.returns-then-at-a
returns-then-at-a c =
    let a = c.args in
    record { stopless = first-stopless a.table a.a.now a.b.now a.c.now a.at c.stopless_from.result c.if-at-a.true c.stopless_from.ensures.stopless; few = c.stopless_from.ensures.few }

pub stopless_from-requires-then-past-b : goal.stopless_from-requires-then-past-b
stopless_from-requires-then-past-b c =
    let a = c.args in
    record { holds_sets = c.requires.holds_sets; holds_code = c.requires.holds_code; part_value = second-letters a.a.now a.b.now a.c.now c.requires.c_value; at_in_bounds = omega arith }

pub returns-then-past-b : goal.returns-then-past-b
returns-then-past-b c =
    let a = c.args in
    record { stopless = second-stopless a.table a.a.now a.b.now a.c.now a.at c.stopless_from-then-past-b.result c.if-at-a.false c.if-past-b.true c.stopless_from-then-past-b.ensures.stopless; few = c.stopless_from-then-past-b.ensures.few }

pub stopless_from-requires-2 : goal.stopless_from-requires-2
stopless_from-requires-2 c =
    let a = c.args in
    record { holds_sets = c.requires.holds_sets; holds_code = c.requires.holds_code; part_value = third-letters a.a.now a.b.now a.c.now c.requires.c_value; at_in_bounds = omega (arith, length-parts a.a.now a.b.now a.c.now, c.requires.at_in_bounds, c.if-at-a.false, c.if-past-b.false) }

pub returns : goal.returns
returns c =
    let a = c.args in
    record { stopless = third-stopless a.table a.a.now a.b.now a.c.now a.at c.stopless_from-2.result c.if-at-a.false c.if-past-b.false c.stopless_from-2.ensures.stopless; few = c.stopless_from-2.ensures.few }
