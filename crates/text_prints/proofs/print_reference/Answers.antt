-- `text_prints::print_reference` meets its contract. Assumes nothing.
use mathlib.Core.Path.{refl, sym, ap, ◌∙◌}
use mathlib.Core.List.{◌++◌}
use Prim.Native.Nat.{ℕ, ◌+◌}
use native.Mathlib.Omega.{arith}
use Rattle.rules.specs.Bytes.{bytes}
use Rattle.rules.proofs.Over.{copied, copied_as, stored_behind, written_behind}
use Rattle.text_prints.proofs.Digits.{longer}
use Rattle.text_prints.proofs.print_reference.Goals as goal

pub returns : goal.returns
returns c =
    let args = c.args in
    let pre = c.requires in
    let copy = c.copy-n in
    let copy2 = c.copy in
    let close-line = c.close_line in
    let line = bytes "reference " ++ args.r.now in
    let one = copy in
    let two = copy2 in
    let both = written_behind (bytes "reference ") args.r.now args.out.now one.new.dst one.result one.ensures.count (omega (arith, pre)) (copied_as (bytes "reference ") (bytes "reference ") args.out.now one.new.dst refl one.ensures.after) two.new.dst two.result two.ensures.count
    (two.ensures.after ∙ copied args.r.now _) in
    record { value = close-line.ensures.value ∙ ap (λ (k : ℕ). k + 1) both.0 ∙ sym (longer line 10); out_after = close-line.ensures.out_after ∙ stored_behind line args.out.now _ (one.result + two.result) 10 both.0 pre both.1 }
