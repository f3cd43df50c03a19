-- `altered::writing::write_stretch` meets its contract. Assumes nothing.
use mathlib.Core.Path.{◌∙◌}
use Prim.Native.Nat.{◌+◌, ◌-◌}
use native.Mathlib.Omega.{arith}
use lib.ListN.{length}
use Rattle.rules.specs.Altered.{part}
use Rattle.rules.specs.Packed.{letters_by}
use Rattle.altered.proofs.Letters.{length-made}
use Rattle.altered.proofs.Stretches.{filled, inside-part, behind-part, behind-long}
use Rattle.altered.proofs.writing.write_stretch.Goals as goal

pub overflow_add-back : goal.overflow_add-back
overflow_add-back c =
    let a = c.args in
    omega (arith, length-made a.plan (letters_by a.form a.letters.now) a.new.now c.requires.makes, c.requires.makes.new-short)

pub returns-then-at-back : goal.returns-then-at-back
returns-then-at-back c =
    let a = c.args in
    let x = c.requires.stretch in
    c.write_inside.ensures
    ∙ inside-part a.plan (letters_by a.form a.letters.now) a.new.now c.requires.makes a.at (length a.out.now) x.behind (x.inside c.if-at-back.true)

pub copy_letters-requires : goal.copy_letters-requires
copy_letters-requires c =
    let a = c.args in
    let m = c.requires.makes in
    let size = length-made a.plan (letters_by a.form a.letters.now) a.new.now m in
    record { in_letters = record { letters = m.source.letters-are; rising = omega arith; ends = omega (arith, size, m.ends, c.requires.stretch.ends, c.if-at-back.false) }; from_in_bounds = omega arith }

pub returns : goal.returns
returns c =
    let a = c.args in
    let n = length a.out.now in
    let first = a.at - (a.plan.from + a.plan.kept) + a.plan.to in
    let behind = c.if-at-back.false in
    filled (part first (first + n) (letters_by a.form a.letters.now)) a.out.now _ (behind-long a.plan (letters_by a.form a.letters.now) a.new.now c.requires.makes a.at n behind c.requires.stretch.ends) c.copy_letters.ensures
    ∙ behind-part a.plan (letters_by a.form a.letters.now) a.new.now c.requires.makes a.at n behind c.requires.stretch.ends
