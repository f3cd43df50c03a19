-- `text_prints::print_refused` meets its contract. Assumes nothing.
use mathlib.Core.Path.{sym, ap, ◌∙◌}
use Prim.Native.Nat.{ℕ, ◌+◌}
use Rattle.rules.specs.Run.{refused_line}
use Rattle.text_prints.proofs.Digits.{longer}
use Rattle.rules.proofs.Over.{stored_behind}
use Rattle.text_prints.proofs.print_refused.Goals as goal

pub returns : goal.returns
returns c =
    let args = c.args in
    let pre = c.requires in
    let write-refused = c.write_refused-size in
    let close-line = c.close_line in
    let line = write-refused in
    record { value = close-line.ensures.value ∙ ap (λ (k : ℕ). k + 1) line.ensures.value ∙ sym (longer (refused_line args.n) 10); out_after = close-line.ensures.out_after ∙ stored_behind (refused_line args.n) args.out.now line.new.out line.result 10 line.ensures.value pre line.ensures.out_after }
