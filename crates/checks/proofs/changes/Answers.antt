-- `checks::changes` meets its contract. Assumes nothing.
use native.Mathlib.Omega.{arith}
use Rattle.checks.proofs.Changing.{first_some, front, makes, given, compares, changed-some, changed-none}
use Rattle.rules.specs.Packed.{letters_by}
use Rattle.checks.proofs.changes.Goals as goal

pub overflow_sub-first : goal.overflow_sub-first
overflow_sub-first c =
    let a = c.args in
    let x = c.requires in
    first_some (letters_by a.known.form a.letters.now) a.known a.e a.protein.now a.plan a.new.now x

pub returns-then-plan-first : goal.returns-then-plan-first
returns-then-plan-first c =
    let a = c.args in
    let x = c.requires in
    changed-none (letters_by a.known.form a.letters.now) a.known a.e a.protein.now a.plan a.new.now x c.if-plan-first.true

pub moved_over-moved-requires : goal.moved_over-moved-requires
moved_over-moved-requires c =
    let a = c.args in
    let x = c.requires in
    record { makes = makes (letters_by a.known.form a.letters.now) a.known a.e a.protein.now a.plan a.new.now x; first_le_from = front (letters_by a.known.form a.letters.now) a.known a.e a.protein.now a.plan a.new.now x; given = given (letters_by a.known.form a.letters.now) a.known a.e a.protein.now a.plan a.new.now x }

pub keeps_protein-requires : goal.keeps_protein-requires
keeps_protein-requires c =
    let a = c.args in
    let x = c.requires in
    let moved = c.moved_over-moved in
    compares (letters_by a.known.form a.letters.now) a.known a.e a.protein.now a.plan a.new.now x moved.result moved.ensures.few moved.ensures.result_value

pub returns : goal.returns
returns c =
    let a = c.args in
    let x = c.requires in
    let moved = c.moved_over-moved in
    changed-some (letters_by a.known.form a.letters.now) a.known a.e a.protein.now a.plan a.new.now x moved.result moved.ensures.few moved.ensures.result_value c.keeps_protein.result c.keeps_protein.ensures (omega (arith, c.if-plan-first.false))
