-- `text_answers::first::answer_given` meets its contract. Assumes nothing.
use mathlib.Core.Path.{sym}
use native.Mathlib.Omega.{arith}
use lib.Seq.{length-take-le}
use Rattle.rules.specs.Translation.{residue_count}
use Rattle.text_answers.proofs.Checking.{letters-fit, protein-fits, opens-refused, opens-known}
use borrow.Author.Rules.{rules}
use Rattle.text_answers.proofs.first.answer_given.Goals as goal

pub check_reference-requires : goal.check_reference-requires
unfolding residue_count
check_reference-requires c =
    let pre = c.requires in
    record { longest_bound = search rules; has_room = λ h. omega (arith, pre, h) }

pub copy-size-requires : goal.copy-size-requires
copy-size-requires c =
    let pre = c.requires in
    let none = c.none in
    let check-reference = c.check_reference in
    omega (arith, letters-fit _ none.ensures _ _ _ c.in-Ok.ensures.value, pre)

pub slice_bounds-print_reference-end : goal.slice_bounds-print_reference-end
slice_bounds-print_reference-end c =
    let none = c.none in
    let check-reference = c.check_reference in
    protein-fits _ none.ensures _ _ _ c.in-Ok.ensures.value _ _ check-reference.ensures.protein_after

pub slice_bounds-print_reference-end-in-Ok : goal.slice_bounds-print_reference-end-in-Ok
slice_bounds-print_reference-end-in-Ok c =
    let none = c.none in
    let check-reference = c.check_reference in
    sym (length-take-le c.in-Ok.known.residues check-reference.new.protein (protein-fits _ none.ensures _ _ _ c.in-Ok.ensures.value _ _ check-reference.ensures.protein_after))

pub returns-in-Err : goal.returns-in-Err
returns-in-Err c =
    let none = c.none in
    let check-reference = c.check_reference in
    let refuse = c.refuse in
    opens-refused _ none.ensures _ _ _ _ _ c.in-Err.ensures.value _ _ _ _ _ check-reference.ensures.protein_after refuse.ensures.phase_value refuse.ensures.size_value refuse.ensures.text_after

pub returns-in-Ok : goal.returns-in-Ok
returns-in-Ok c =
    let none = c.none in
    let check-reference = c.check_reference in
    let copy = c.copy-size in
    let print-reference = c.print_reference in
    opens-known _ none.ensures _ _ _ c.in-Ok.ensures.value _ _ check-reference.ensures.protein_after _ _ _ _ _ _ copy.ensures.count copy.ensures.after print-reference.ensures.value print-reference.ensures.out_after
