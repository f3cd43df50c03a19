-- `text_run::count_lines` meets its contract: at the head of each turn, what is taken prints as many bytes as are counted. Assumes nothing.
use mathlib.Core.Path.{refl, ◌∙◌}
use native.Mathlib.Omega.{arith}
use Rattle.text_run.proofs.Counting.{counted, takes, too_many, counted-on}
use Rattle.text_run.proofs.count_lines.Goals as goal

pub loop-at-init : goal.loop-at-init
loop-at-init c =
    let pre = c.requires in
    (counted _ _ _ _ _ _ c.start-state.ensures pre.rooms (omega (arith, c.ranges.most)), record { room = pre.piece_len; of-line = refl; of-letters = refl; of-protein = refl; small = omega (arith, c.well_formed) }, refl)

pub returns-then-most-total : goal.returns-then-most-total
returns-then-most-total c =
    let inv = c.loop-at.invariant in
    let step = c.step-stepped in
    record { counted = tt; too_many = too_many _ _ _ _ _ _ _ _ inv.0 step.result.state step.new.line step.new.letters _ _ _ _ step.ensures.steps c.if-most-total.true; piece_stays = step.auto.out ∙ inv.1.room }

pub loop-at-smaller : goal.loop-at-smaller
loop-at-smaller c =
    let inv = c.loop-at.invariant in
    let step = c.step-stepped in
    omega (arith, takes _ _ _ _ _ _ _ _ inv.0 step.result.state step.new.line step.new.letters _ _ _ _ step.ensures.steps c.loop-at-test.true (omega (arith, inv.1.room)), c.loop-at-test.true)

pub loop-at-preserved : goal.loop-at-preserved
loop-at-preserved c =
    let inv = c.loop-at.invariant in
    let step = c.step-stepped in (
      counted-on _ _ _ _ _ _ _ _ inv.0 step.result.state step.new.line step.new.letters _ _ _ _ step.ensures.steps _ step.ensures.still_keeps step.auto.line step.auto.letters step.auto.protein c.if-most-total.false,
      record {
        room = step.auto.out ∙ inv.1.room;
        of-line = step.auto.line ∙ inv.1.of-line;
        of-letters = step.auto.letters ∙ inv.1.of-letters;
        of-protein = step.auto.protein ∙ inv.1.of-protein;
        small = inv.1.small;
      },
      step.auto.out ∙ inv.2,
    )
