-- `transcript::write_put` meets its contract. Assumes nothing.
use mathlib.Core.Path.{refl, sym, ap, ◌∙◌}
use mathlib.Core.List.{List}
use Prim.Native.Nat.{ℕ}
use native.Mathlib.Omega.{arith}
use lib.ListN.{length, take}
use lib.Seq.{length-take-le}
use Rattle.rules.specs.Bytes.{over}
use Rattle.rules.specs.Packed.{letters_by}
use Rattle.rules.proofs.Over.{copied_as}
use Rattle.edits.specs.Plans.{goes_in}
use Rattle.transcript.proofs.Transcripts.{length-goes-in, new-fits, new-goes-in, copy-fits, copy-goes-in, turned-fits, turned-goes-in}
use Rattle.transcript.proofs.write_put.Goals as goal

pub slice_bounds-copy-end : goal.slice_bounds-copy-end
slice_bounds-copy-end c =
    let a = c.args in
    sym (length-take-le a.plan.kept a.new.now (new-fits a.plan (letters_by a.form a.letters.now) a.new.now c.requires.sourced c.in-New.is))

pub overflow_add-last : goal.overflow_add-last
overflow_add-last c =
    let a = c.args in
    omega (arith, copy-fits a.plan (letters_by a.form a.letters.now) a.new.now c.requires.sourced c.in-Copy.is)

pub copy_letters-requires : goal.copy_letters-requires
copy_letters-requires c =
    let a = c.args in
    let x = c.requires.sourced in
    let fits = copy-fits a.plan (letters_by a.form a.letters.now) a.new.now x c.in-Copy.is in
    record { in_letters = record { letters = x.letters-are; rising = omega arith; ends = omega (arith, fits, x.ends) }; from_in_bounds = omega (arith, c.requires.kept_in_bounds) }

pub overflow_sub-first : goal.overflow_sub-first
overflow_sub-first c =
    let a = c.args in
    omega (arith, turned-fits a.plan (letters_by a.form a.letters.now) a.new.now c.requires.sourced c.in-Turned.is)

pub returns-in-New : goal.returns-in-New
returns-in-New c =
    let a = c.args in
    let inside = c.requires.sourced in
    let one = c.copy in
    let is = new-goes-in a.plan (letters_by a.form a.letters.now) a.new.now inside c.in-New.is in
    record { value = one.ensures.count ∙ ap length is ∙ length-goes-in a.plan (letters_by a.form a.letters.now) a.new.now inside; out_after = copied_as (take a.plan.kept a.new.now) (goes_in a.plan (letters_by a.form a.letters.now) a.new.now) a.out.now one.new.dst is one.ensures.after }

pub returns-in-Copy : goal.returns-in-Copy
returns-in-Copy c =
    let a = c.args in
    let is = copy-goes-in a.plan (letters_by a.form a.letters.now) a.new.now c.requires.sourced c.in-Copy.is in
    record { value = refl; out_after = c.copy_letters.ensures ∙ ap (λ (l : List ℕ). over l a.out.now) is }

pub returns-in-Turned : goal.returns-in-Turned
returns-in-Turned c =
    let a = c.args in
    let turned = turned-goes-in a.plan (letters_by a.form a.letters.now) a.new.now c.requires.sourced c.in-Turned.is in
    record { value = refl; out_after = c.turn_letters.ensures ∙ ap (λ (l : List ℕ). over l a.out.now) turned }
