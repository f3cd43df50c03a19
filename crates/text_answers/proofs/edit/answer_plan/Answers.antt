-- `text_answers::edit::answer_plan` meets its contract. Assumes nothing.
use Rattle.text_answers.proofs.Asking.{line_of, plan_room, plan_line_lem}
use Rattle.text_answers.proofs.edit.answer_plan.Goals as goal

pub print_record-requires : goal.print_record-requires
print_record-requires c =
    let pre = c.requires in
    let record_of = c.record_of-found in
    plan_room _ _ _ pre.knows_text.known _ _ record_of.new.altered pre.ample record_of.auto.altered _ _ record_of.auto.coding

pub returns : goal.returns
returns c =
    let record_of = c.record_of-found in
    let print-record = c.print_record in
    line_of _ _ _ _ _ (plan_line_lem _ c.none.ensures _ _ _ _ _ _ _ record_of.ensures.value record_of.ensures.inserted _) print-record.ensures.value print-record.ensures.out_after
