-- `altered::moved_over` meets its contract. Assumes nothing.
use Prim.Native.Nat.{◌+◌, ◌-◌}
use native.Mathlib.Omega.{arith}
use borrow.Author.Rules.{rules}
use Rattle.rules.specs.Packed.{letters_by}
use Rattle.rules.specs.Trims.{common_prefix}
use Rattle.rules.proofs.Trims.{cp_le_l, cp_le_r}
use Rattle.exceptions.proofs.Moving.{none-given}
use Rattle.transcript.specs.Carrying.{carried_by}
use Rattle.altered.proofs.Letters.{length-made}
use Rattle.altered.proofs.Shares.{front-starts, shared-over, lengths-over}
use Rattle.altered.proofs.moved_over.Goals as goal

pub returns-then-e-eq0 : goal.returns-then-e-eq0
returns-then-e-eq0 c =
    let a = c.args in
    let t = carried_by a.plan (letters_by a.form a.letters.now) a.new.now in
    record { result_value = none-given (common_prefix (letters_by a.form a.letters.now) t) a.first (letters_by a.form a.letters.now) t a.e c.if-e-eq0.true; few = search rules }

pub overflow_add-made : goal.overflow_add-made
overflow_add-made c =
    let a = c.args in
    omega (arith, length-made a.plan (letters_by a.form a.letters.now) a.new.now c.requires.makes, c.requires.makes.new-short)

pub overflow_add-made-2 : goal.overflow_add-made-2
overflow_add-made-2 c =
    let a = c.args in
    omega (arith, length-made a.plan (letters_by a.form a.letters.now) a.new.now c.requires.makes, c.requires.makes.new-short, c.size_of-size.ensures)

pub shared_front-prefix-requires : goal.shared_front-prefix-requires
shared_front-prefix-requires c =
    let a = c.args in
    record { makes = c.requires.makes; made_value = omega (arith, length-made a.plan (letters_by a.form a.letters.now) a.new.now c.requires.makes, c.size_of-size.ensures) }

pub shared_back-suffix-requires : goal.shared_back-suffix-requires
shared_back-suffix-requires c =
    let a = c.args in
    let t = carried_by a.plan (letters_by a.form a.letters.now) a.new.now in
    let made = length-made a.plan (letters_by a.form a.letters.now) a.new.now c.requires.makes in
    let size = c.size_of-size.ensures in
    let front = c.shared_front-prefix.ensures in
    record { makes = c.requires.makes; made_value = omega (arith, made, size); from_le_prefix = (omega (arith, front, front-starts a.plan (letters_by a.form a.letters.now) a.new.now c.requires.makes), omega (arith, front, cp_le_l (letters_by a.form a.letters.now) t), omega (arith, made, size, front, cp_le_r (letters_by a.form a.letters.now) t)) }

pub moved_all-requires : goal.moved_all-requires
moved_all-requires c =
    let a = c.args in
    let m = c.requires.makes in
    let made = length-made a.plan (letters_by a.form a.letters.now) a.new.now c.requires.makes in
    let size = c.size_of-size.ensures in
    rw size (record { lengths = lengths-over a.plan (letters_by a.form a.letters.now) a.new.now m _ _ _ c.shared_front-prefix.ensures c.shared_back-suffix.ensures (omega (arith, made, size)) a.first c.requires.first_le_from; rises = c.requires.given })

pub returns : goal.returns
returns c =
    let a = c.args in
    let t = carried_by a.plan (letters_by a.form a.letters.now) a.new.now in
    let m = c.requires.makes in
    let made = length-made a.plan (letters_by a.form a.letters.now) a.new.now c.requires.makes in
    let size = c.size_of-size in
    let shared = shared-over a.plan (letters_by a.form a.letters.now) a.new.now m _ _ (a.plan.from + a.plan.kept + (size.result - a.plan.to)) c.shared_front-prefix.ensures c.shared_back-suffix.ensures (omega (arith, made, size.ensures)) in
    record { result_value = rw (← c.shared_front-prefix.ensures) (c.moved_all.ensures.by_index (letters_by a.form a.letters.now) t (rw size.ensures (rw size.ensures at shared))); few = c.moved_all.ensures.few }
