-- `altered::shared_back` meets its contract. The invariant: what is passed is equal, so the common ending behind the prefix is i and that of the rests. Assumes nothing.
use mathlib.Core.Path.{◌≡◌, ap₂, ◌∙◌}
use Prim.Native.Nat.{ℕ, ◌+◌, ◌-◌, ◌≤◌, ◌<◌, min}
use native.Mathlib.Omega.{arith}
use borrow.Author.Rules.{rules}
use lib.ListN.{length}
use Rattle.rules.specs.Altered.{part}
use Rattle.rules.specs.Packed.{letters_by}
use Rattle.rules.specs.Trims.{common_suffix}
use Rattle.edits.specs.declared.plans.Plan.{Plan}
use Rattle.transcript.specs.Carrying.{carried_by}
use Rattle.altered.proofs.Letters.{length-made}
use Rattle.altered.proofs.Shares.{back-starts, back-parts, back-shared, back_within}
use Rattle.altered.proofs.shared_back.Goals as goal

-- what is known of a block that ends before the last i letters
record Block (p : Plan) (size made prefix i step : ℕ) : Type 0 where
  old : prefix + i + step ≤ size
  new : prefix + i + step ≤ made
  behind : p.from ≤ made - (i + step)
  inside : made - (i + step) + step ≤ p.from + p.kept
  back : size - (i + step) + step ≤ size
  ends : made - (i + step) + step ≤ made

placed : (p : Plan) (size made prefix n i step : ℕ) → made ≡ p.from + (p.kept + (size - p.to)) → p.from ≤ prefix → i + step ≤ n → size - p.to ≤ i → n + prefix ≤ size → n + prefix ≤ made
    → Block p size made prefix i step
placed p size made prefix n i step long front fits start old new =
    record {
      old = omega arith;
      new = omega arith;
      behind = omega arith;
      inside = omega arith;
      back = omega arith;
      ends = omega arith;
    }

block : (p : Plan) (long size made prefix n first i step most : ℕ) → size ≡ long → made ≡ p.from + (p.kept + (long - p.to)) → p.from ≤ prefix → n + prefix ≡ min size made → first ≡ min (size - p.to) n
    → first ≤ i → i < n → step ≡ min most (n - i) → Block p long made prefix i step
block p long size made prefix n first i step most same is_made front whole least h l is =
    placed p long made prefix n i step is_made front (omega arith) (omega arith) (omega arith) (omega arith)

pub loop-i-init : goal.loop-i-init
loop-i-init c =
    let a = c.args in
    let size = c.size_of-size in
    let first = c.min.ensures in
    let m = c.requires.makes in (
      omega (arith, size.ensures, first, m.ends),
      size.ensures,
      omega (arith, size.ensures, first, c.requires.from_le_prefix),
      back-starts a.plan (letters_by a.form a.letters.now) a.new.now m a.prefix c.min-first.result (omega (arith, size.ensures, first, c.requires.from_le_prefix)) (omega (arith, size.ensures, first, c.requires.from_le_prefix)) (omega (arith, size.ensures, first, c.requires.from_le_prefix)),
      omega arith,
      c.min-first.ensures,
    )

pub told_of_block-found-requires-clause-stretch : goal.told_of_block-found-requires-clause-stretch
told_of_block-found-requires-clause-stretch c =
    let a = c.args in
    let turn = c.loop-i in
    let step = c.min-step in
    let made = length-made a.plan (letters_by a.form a.letters.now) a.new.now c.requires.makes in
    let x = block a.plan (length (letters_by a.form a.letters.now)) _ a.made a.prefix _ _ turn.i step.result _ turn.invariant.1 (c.requires.made_value ∙ made) c.requires.from_le_prefix.0 turn.invariant.2 turn.invariant.5 turn.invariant.4 c.loop-i-test.true step.ensures in
    record { behind = x.behind; inside = λ h. x.inside; ends = omega (arith, x.ends, c.requires.made_value) }

pub returns-then-found-step : goal.returns-then-found-step
returns-then-found-step c =
    let a = c.args in
    let turn = c.loop-i in
    let step = c.min-step in
    let made = length-made a.plan (letters_by a.form a.letters.now) a.new.now c.requires.makes in
    let x = block a.plan (length (letters_by a.form a.letters.now)) _ a.made a.prefix _ _ turn.i step.result _ turn.invariant.1 (c.requires.made_value ∙ made) c.requires.from_le_prefix.0 turn.invariant.2 turn.invariant.5 turn.invariant.4 c.loop-i-test.true step.ensures in
    let t = carried_by a.plan (letters_by a.form a.letters.now) a.new.now in
    let found = c.told_of_block-found in
    let s = letters_by a.form a.letters.now in
    let told : found.result ≡ common_suffix (part (c.size_of-size.result - (turn.i + step.result)) (c.size_of-size.result - (turn.i + step.result) + step.result) s) (part (a.made - (turn.i + step.result)) (a.made - (turn.i + step.result) + step.result) t) = search rules in
    let is = told ∙ ap₂ (λ (k : ℕ) (m : ℕ). common_suffix (part (k - (turn.i + step.result)) (k - (turn.i + step.result) + step.result) s) (part (m - (turn.i + step.result)) (m - (turn.i + step.result) + step.result) t)) turn.invariant.1 c.requires.made_value in
    omega (arith, turn.invariant.3, back-parts a.prefix (letters_by a.form a.letters.now) t turn.i step.result found.result x.old (omega (arith, x.new, c.requires.made_value)) is c.if-found-step.true)

pub loop-i-preserved : goal.loop-i-preserved
loop-i-preserved c =
    let a = c.args in
    let turn = c.loop-i in
    let step = c.min-step in
    let made = length-made a.plan (letters_by a.form a.letters.now) a.new.now c.requires.makes in
    let x = block a.plan (length (letters_by a.form a.letters.now)) _ a.made a.prefix _ _ turn.i step.result _ turn.invariant.1 (c.requires.made_value ∙ made) c.requires.from_le_prefix.0 turn.invariant.2 turn.invariant.5 turn.invariant.4 c.loop-i-test.true step.ensures in
    let t = carried_by a.plan (letters_by a.form a.letters.now) a.new.now in
    let found = c.told_of_block-found in
    let s = letters_by a.form a.letters.now in
    let told : found.result ≡ common_suffix (part (c.size_of-size.result - (turn.i + step.result)) (c.size_of-size.result - (turn.i + step.result) + step.result) s) (part (a.made - (turn.i + step.result)) (a.made - (turn.i + step.result) + step.result) t) = search rules in
    let is = told ∙ ap₂ (λ (k : ℕ) (m : ℕ). common_suffix (part (k - (turn.i + step.result)) (k - (turn.i + step.result) + step.result) s) (part (m - (turn.i + step.result)) (m - (turn.i + step.result) + step.result) t)) turn.invariant.1 c.requires.made_value in (
      omega (arith, step.ensures, turn.invariant.0),
      turn.invariant.1,
      turn.invariant.2,
      omega (arith, turn.invariant.3, back-shared a.prefix (letters_by a.form a.letters.now) t turn.i step.result found.result x.old (omega (arith, x.new, c.requires.made_value)) is c.if-found-step.false),
      omega (arith, turn.invariant.4),
      turn.invariant.5,
    )

pub returns : goal.returns
returns c =
    let a = c.args in
    let within = back_within a.prefix (letters_by a.form a.letters.now) (carried_by a.plan (letters_by a.form a.letters.now) a.new.now) c.loop-i.i (omega (arith, c.requires.from_le_prefix)) (omega (arith, c.requires.from_le_prefix)) in
    omega (arith, within.0, within.1, c.requires.from_le_prefix)
