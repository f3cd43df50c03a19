-- `storing::form::write_form` meets its contract. The loop's invariant: the fields of the tags before this one stand in the buffer's first bytes.
use mathlib.Core.Path.{refl, ap, ◌∙◌}
use mathlib.Core.List.{List, []}
use Prim.Native.Nat.{ℕ, ◌+◌, ◌-◌}
use borrow.Author.Rules.{rules}
use native.Mathlib.Omega.{arith}
use lib.ListN.{length}
use Rattle.rules.specs.Bytes.{each, over}
use Rattle.rules.specs.Packed.{letters_by}
use Rattle.rules.specs.Storing.{tagged, held_by}
use Rattle.rules.specs.Views.{reference_of}
use Rattle.storing_numbers.specs.Fields.{one_field}
use Rattle.storing.proofs.Forms.{form_each, eight_held}
use Rattle.storing_exceptions.proofs.Rows.{row-all, turn-fits, turn-start, turn-room, turn-done}
use Rattle.storing.proofs.form.write_form.Goals as goal

pub loop-tag-init : goal.loop-tag-init
unfolding each over
loop-tag-init c = (refl, refl)

pub slice_bounds-write_tag-count : goal.slice_bounds-write_tag-count
slice_bounds-write_tag-count c =
    let a = c.args in
    let r = reference_of (letters_by a.form a.letters.now) a.c a.e in
    let v = c.loop-tag in
    turn-start one_field (held_by r) (tagged 0 []) (v.tag - 1) v.at a.out.now v.out (omega (arith, eight_held r)) (omega (arith, ap length (form_each r), c.requires.e_in_bounds)) v.invariant.0 v.invariant.1

pub slice_bounds-write_tag-start : goal.slice_bounds-write_tag-start
slice_bounds-write_tag-start c =
    let a = c.args in
    let r = reference_of (letters_by a.form a.letters.now) a.c a.e in
    let v = c.loop-tag in
    turn-start one_field (held_by r) (tagged 0 []) (v.tag - 1) v.at a.out.now v.out (omega (arith, eight_held r)) (omega (arith, ap length (form_each r), c.requires.e_in_bounds)) v.invariant.0 v.invariant.1

pub write_tag-at-requires : goal.write_tag-at-requires
write_tag-at-requires c =
    let a = c.args in
    let r = reference_of (letters_by a.form a.letters.now) a.c a.e in
    let v = c.loop-tag in
    record { clear = c.requires.clear; le_tag = (omega arith, omega arith); e_in_bounds = turn-room one_field (held_by r) (tagged 0 []) (v.tag - 1) v.at a.out.now v.out (omega (arith, eight_held r)) (omega (arith, ap length (form_each r), c.requires.e_in_bounds)) v.invariant.0 v.invariant.1 }

pub overflow_add-at : goal.overflow_add-at
overflow_add-at c =
    let a = c.args in
    let r = reference_of (letters_by a.form a.letters.now) a.c a.e in
    let v = c.loop-tag in
    let fits = turn-fits one_field (held_by r) (tagged 0 []) (v.tag - 1) v.at a.out.now v.out (omega (arith, eight_held r)) (omega (arith, ap length (form_each r), c.requires.e_in_bounds)) v.invariant.0 v.invariant.1 c.write_tag-at.result c.write_tag-at.ensures.value in
    search rules

pub loop-tag-preserved : goal.loop-tag-preserved
loop-tag-preserved c =
    let a = c.args in
    let r = reference_of (letters_by a.form a.letters.now) a.c a.e in
    let v = c.loop-tag in
    let w = c.write_tag-at in
    let done = turn-done one_field (held_by r) (tagged 0 []) (v.tag - 1) v.at a.out.now v.out (omega (arith, eight_held r)) (omega (arith, ap length (form_each r), c.requires.e_in_bounds)) v.invariant.0 v.invariant.1 (v.tag + 1 - 1) (omega arith) w.new.out w.result w.ensures.value w.ensures.out_after in
    (done.0, done.1)

pub returns : goal.returns
returns c =
    let a = c.args in
    let r = reference_of (letters_by a.form a.letters.now) a.c a.e in
    let v = c.loop-tag in
    let all = row-all one_field (held_by r) (tagged 0 []) (v.tag - 1) (omega (arith, eight_held r)) ∙ form_each r in
    record { value = v.invariant.0 ∙ ap length all; out_after = v.invariant.1 ∙ ap (λ (l : List ℕ). over l a.out.now) all }
