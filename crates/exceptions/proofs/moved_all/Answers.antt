-- `exceptions::moved_all` meets its contract. The invariant: the first `count` are what is left of those that were read, whatever the letters.
use mathlib.Core.Path.{◌≡◌, ap, ◌∙◌}
use Prim.Native.Nat.{◌≤◌}
use native.Mathlib.Omega.{arith}
use borrow.Author.Rules.{rules}
use lib.ListN.{length, take, length-set}
use lib.Seq.{take-length, length-take-le}
use Rattle.rules.proofs.Translation.{first_exceptions}
use Rattle.exceptions.proofs.Moving.{none-moved, turn-keeps, turn-drops, given_at}
use Rattle.exceptions.proofs.moved_all.Goals as goal
use Rattle.exceptions.proofs.moved_all.Goals.{in-Some, in_default}

pub loop-x-init : goal.loop-x-init
loop-x-init c =
    let a = c.args in
    (search rules, omega arith, λ old new shared. none-moved a.prefix a.first old new)

pub moved_one-requires-clause-le_codon : goal.moved_one-requires-clause-le_codon
moved_one-requires-clause-le_codon c =
    let a = c.args in
    given_at a.first a.size a.e c.loop-x.x-index (omega arith) (omega (arith, c.requires.lengths.front, c.requires.lengths.old-holds)) c.requires.rises c.loop-x-test.true

pub loop-x-preserved : goal.loop-x-preserved
loop-x-preserved c =
    let a = c.args in
    let v = c.loop-x in
    let m = c.moved_one in
    let given = take a.e.count a.e.all in
    let few : length given ≤ 16 = omega (arith, length-take-le a.e.count a.e.all (omega (arith, c.requires.rises.few)), c.requires.rises.few) in
    elim c.match-moved_one.branch [
      | in-Some w ↦ (
        omega arith,
        ap length w.all-is ∙ length-set v.all v.count w.in-Some.y ∙ v.invariant.1,
        λ old new shared. rw (w.all-is, w.count-is)
            (turn-keeps a.prefix a.first old new given v.all v.x-index v.count m.result c.loop-x-test.true (v.invariant.2 old new shared) (m.ensures old new shared)
            w.in-Some.y (omega arith) w.in-Some.is),
      )
      | in_default w ↦ (
        omega arith,
        ap length w.all-is ∙ v.invariant.1,
        λ old new shared. rw (w.all-is, w.count-is)
            (turn-drops a.prefix a.first old new given v.all v.x-index v.count m.result c.loop-x-test.true (v.invariant.2 old new shared) (m.ensures old new shared)
            w.in_default.is),
      )
    ]

pub returns-clause-by_index : goal.returns-clause-by_index
returns-clause-by_index c =
    let a = c.args in
    let v = c.loop-x in
    let given = take a.e.count a.e.all in
    let list = first_exceptions a.e (omega arith) c.requires.rises.few in
    let few : length given ≤ 16 = omega (arith, length-take-le a.e.count a.e.all (omega (arith, c.requires.rises.few)), c.requires.rises.few) in
    let all_read : v.x-index ≡ length given = omega arith in
    let made = first_exceptions (record { all = v.all; count = v.count }) v.invariant.1 (omega arith) in
    λ old new shared. made ∙ rw list (rw (all_read, take-length given) at (v.invariant.2 old new shared))
