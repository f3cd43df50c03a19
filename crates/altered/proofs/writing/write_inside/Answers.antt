-- `altered::writing::write_inside` meets its contract. Assumes nothing.
use mathlib.Core.Path.{◌∙◌}
use Prim.Native.Nat.{◌+◌, ◌-◌}
use native.Mathlib.Omega.{arith}
use lib.ListN.{length}
use Rattle.rules.specs.Altered.{part}
use Rattle.rules.specs.Complement.{reverse_complement}
use Rattle.rules.specs.Packed.{letters_by}
use Rattle.rules.proofs.Over.{copied_as}
use Rattle.edits.specs.Plans.{goes_in}
use Rattle.transcript.proofs.Transcripts.{new-fits, copy-fits, turned-fits}
use Rattle.altered.proofs.Stretches.{filled, put-long, new-part, copy-part, copy-long, turned-part, turned-long}
use Rattle.altered.proofs.writing.write_inside.Goals as goal

pub slice_bounds-copy-end : goal.slice_bounds-copy-end
slice_bounds-copy-end c =
    let a = c.args in
    omega (arith, new-fits a.plan (letters_by a.form a.letters.now) a.new.now c.requires.sourced c.in-New.is, c.requires.out_bound)

pub overflow_add-first : goal.overflow_add-first
overflow_add-first c =
    let a = c.args in
    omega (arith, copy-fits a.plan (letters_by a.form a.letters.now) a.new.now c.requires.sourced c.in-Copy.is, c.requires.out_bound)

pub overflow_add-first-in-Copy : goal.overflow_add-first-in-Copy
overflow_add-first-in-Copy c =
    let a = c.args in
    omega (arith, copy-fits a.plan (letters_by a.form a.letters.now) a.new.now c.requires.sourced c.in-Copy.is, c.requires.out_bound)

pub copy_letters-requires : goal.copy_letters-requires
copy_letters-requires c =
    let a = c.args in
    let x = c.requires.sourced in
    let fits = copy-fits a.plan (letters_by a.form a.letters.now) a.new.now x c.in-Copy.is in
    record { in_letters = record { letters = x.letters-are; rising = omega arith; ends = omega (arith, fits, x.ends, c.requires.out_bound) }; from_in_bounds = omega arith }

pub overflow_sub-last : goal.overflow_sub-last
overflow_sub-last c =
    let a = c.args in
    omega (arith, turned-fits a.plan (letters_by a.form a.letters.now) a.new.now c.requires.sourced c.in-Turned.is, c.requires.out_bound)

pub overflow_sub-last-in-Turned : goal.overflow_sub-last-in-Turned
overflow_sub-last-in-Turned c =
    let a = c.args in
    omega (arith, turned-fits a.plan (letters_by a.form a.letters.now) a.new.now c.requires.sourced c.in-Turned.is, c.requires.out_bound)

pub returns-in-New : goal.returns-in-New
unfolding part
returns-in-New c =
    let a = c.args in
    let one = c.copy in
    let n = length a.out.now in
    let put = part a.i (a.i + n) (goes_in a.plan (letters_by a.form a.letters.now) a.new.now) in
    let is = new-part a.plan (letters_by a.form a.letters.now) a.new.now c.requires.sourced a.i n c.requires.out_bound c.in-New.is in
    filled put a.out.now _ (put-long a.plan (letters_by a.form a.letters.now) a.new.now c.requires.sourced a.i n c.requires.out_bound) (copied_as (part a.i (a.i + n) a.new.now) put a.out.now one.new.dst is one.ensures.after)

pub returns-in-Copy : goal.returns-in-Copy
returns-in-Copy c =
    let a = c.args in
    let n = length a.out.now in
    let from = a.plan.start + a.i in
    let told = c.in-Copy.is in
    filled (part from (from + n) (letters_by a.form a.letters.now)) a.out.now _ (copy-long a.plan (letters_by a.form a.letters.now) a.new.now c.requires.sourced a.i n c.requires.out_bound told) c.copy_letters.ensures
    ∙ copy-part a.plan (letters_by a.form a.letters.now) a.new.now c.requires.sourced a.i n c.requires.out_bound told

pub returns-in-Turned : goal.returns-in-Turned
returns-in-Turned c =
    let a = c.args in
    let n = length a.out.now in
    let last = a.plan.end - a.i in
    let told = c.in-Turned.is in
    filled (reverse_complement (part (last - n) last (letters_by a.form a.letters.now))) a.out.now _ (turned-long a.plan (letters_by a.form a.letters.now) a.new.now c.requires.sourced a.i n c.requires.out_bound told) c.turn_letters.ensures
    ∙ turned-part a.plan (letters_by a.form a.letters.now) a.new.now c.requires.sourced a.i n c.requires.out_bound told
