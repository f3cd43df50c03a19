-- `text_prints::print_record` meets its contract. Assumes nothing.
use mathlib.Core.Path.{sym, ap, ◌∙◌}
use Prim.Native.Nat.{ℕ, ◌+◌}
use Rattle.rules.specs.Run.{record_line}
use Rattle.text_prints.proofs.Digits.{longer}
use Rattle.rules.proofs.Over.{stored_behind}
use Rattle.text_prints.proofs.print_record.Goals as goal

pub returns : goal.returns
returns c =
    let args = c.args in
    let pre = c.requires in
    let write-record = c.write_record-size in
    let close-line = c.close_line in
    let a = args in
    let line = record_line a.found a.r.now a.a.now in
    let one = write-record in
    record { value = close-line.ensures.value ∙ ap (λ (k : ℕ). k + 1) one.ensures.value ∙ sym (longer line 10); out_after = close-line.ensures.out_after ∙ stored_behind line a.out.now one.new.out one.result 10 one.ensures.value pre one.ensures.out_after }
