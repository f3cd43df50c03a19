-- `text_lines::open::open_line` meets its contract. Assumes nothing.
use mathlib.Core.Path.{sym}
use lib.Seq.{length-take-le}
use Rattle.text_lines.proofs.Beginning.{first_fits, put_first, put-nothing, fills_first}
use Rattle.text_lines.proofs.open.open_line.Goals as goal

pub slice_bounds-text-end : goal.slice_bounds-text-end
slice_bounds-text-end c = first_fits _ _ _ _ _ _ _ _ c.answer_first-opened.ensures

pub slice_bounds-put-end : goal.slice_bounds-put-end
slice_bounds-put-end c = sym (length-take-le _ _ (first_fits _ _ _ _ _ _ _ _ c.answer_first-opened.ensures))

pub returns-in-Ok : goal.returns-in-Ok
returns-in-Ok c =
    record { put = put_first _ _ _ _ _ _ _ _ c.answer_first-opened.ensures _ _ c.put.ensures.out_after _ c.in-Ok.ensures.value; fills = fills_first _ _ _ _ _ _ _ _ c.answer_first-opened.ensures }

pub returns-in-Err : goal.returns-in-Err
returns-in-Err c =
    record { put = put-nothing _ _ _ _ _ _ _ _ c.answer_first-opened.ensures _ _ c.put.ensures.out_after _ c.in-Err.ensures.value; fills = fills_first _ _ _ _ _ _ _ _ c.answer_first-opened.ensures }
