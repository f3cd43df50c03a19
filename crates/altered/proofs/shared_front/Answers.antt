-- `altered::shared_front` meets its contract. The invariant: what is passed is equal, so the common beginning is i and that of the rests. Assumes nothing.
use mathlib.Core.Path.{◌≡◌, ap, ◌∙◌}
use Prim.Native.Nat.{ℕ, ◌+◌, ◌-◌, ◌≤◌, min}
use native.Mathlib.Omega.{arith}
use borrow.Author.Rules.{rules}
use lib.ListN.{length, drop, length-drop}
use Rattle.rules.specs.Packed.{letters_by}
use Rattle.rules.specs.Altered.{part}
use Rattle.rules.specs.Trims.{common_prefix}
use Rattle.rules.proofs.Trims.{cp_le_l, cp_le_r}
use Rattle.transcript.specs.Carrying.{carried_by}
use Rattle.altered.proofs.Letters.{length-made}
use Rattle.altered.proofs.Shares.{front-starts, block-parts, block-shared}
use Rattle.altered.proofs.shared_front.Goals as goal

-- a block lies in both transcripts
block-ends : (n i step most size made length-made : ℕ) → n ≡ min size made → made ≡ length-made → i ≤ n → step ≤ min most (n - i) → (i + step ≤ size) × (i + step ≤ length-made)
block-ends n i step most size made long is same h few = (omega arith, omega arith)

pub loop-i-init : goal.loop-i-init
loop-i-init c =
    let a = c.args in
    let m = c.requires.makes in
    let size = c.size_of in (
      omega (arith, length-made a.plan (letters_by a.form a.letters.now) a.new.now c.requires.makes, c.min-n.ensures, size.ensures, m.rising, m.ends, c.requires.made_value),
      c.min-n.ensures ∙ ap (λ (k : ℕ). min k a.made) size.ensures,
      front-starts a.plan (letters_by a.form a.letters.now) a.new.now m,
      omega arith,
    )

pub stretch_letters-step-requires : goal.stretch_letters-step-requires
stretch_letters-step-requires c =
    let a = c.args in
    omega (arith, length-made a.plan (letters_by a.form a.letters.now) a.new.now c.requires.makes, c.requires.makes.new-short)

pub returns-then-found-step : goal.returns-then-found-step
returns-then-found-step c =
    let a = c.args in
    let turn = c.loop-i in
    let within = c.stretch_letters-step.ensures in
    let found = c.told_of_block-found in
    let s = letters_by a.form a.letters.now in
    let t = carried_by a.plan s a.new.now in
    let is : found.result ≡ common_prefix (part turn.i (turn.i + c.stretch_letters-step.result) s) (part turn.i (turn.i + c.stretch_letters-step.result) t) = search rules in
    let ends = block-ends _ turn.i c.stretch_letters-step.result c.min-most.result (length (letters_by a.form a.letters.now)) a.made (length t) turn.invariant.1 c.requires.made_value turn.invariant.0 (omega (arith, within.few, c.min.ensures)) in
    omega (arith, turn.invariant.2, block-parts (letters_by a.form a.letters.now) t turn.i c.stretch_letters-step.result found.result ends.0 ends.1 is c.if-found-step.true)

pub loop-i-preserved : goal.loop-i-preserved
loop-i-preserved c =
    let a = c.args in
    let turn = c.loop-i in
    let step = c.stretch_letters-step in
    let within = step.ensures in
    let found = c.told_of_block-found in
    let s = letters_by a.form a.letters.now in
    let t = carried_by a.plan s a.new.now in
    let is : found.result ≡ common_prefix (part turn.i (turn.i + c.stretch_letters-step.result) s) (part turn.i (turn.i + c.stretch_letters-step.result) t) = search rules in
    let ends = block-ends _ turn.i step.result c.min-most.result (length (letters_by a.form a.letters.now)) a.made (length t) turn.invariant.1 c.requires.made_value turn.invariant.0 (omega (arith, within.few, c.min.ensures)) in (
      omega (arith, within.few, c.min.ensures, turn.invariant.0),
      turn.invariant.1,
      omega (arith, turn.invariant.2, block-shared (letters_by a.form a.letters.now) t turn.i step.result found.result ends.0 ends.1 is c.if-found-step.false),
      omega (arith, turn.invariant.3),
    )

pub returns : goal.returns
returns c =
    let a = c.args in
    let t = carried_by a.plan (letters_by a.form a.letters.now) a.new.now in
    let i = c.loop-i.i in
    omega (arith, cp_le_l (drop i (letters_by a.form a.letters.now)) (drop i t), cp_le_r (drop i (letters_by a.form a.letters.now)) (drop i t), length-drop i (letters_by a.form a.letters.now), length-drop i t, c.requires.made_value)
