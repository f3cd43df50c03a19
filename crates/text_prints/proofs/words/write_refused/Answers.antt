-- `text_prints::words::write_refused` meets its contract. Assumes nothing.
use mathlib.Core.Path.{refl}
use mathlib.Core.List.{◌++◌}
use native.Mathlib.Omega.{arith}
use Rattle.rules.specs.Bytes.{bytes}
use Rattle.rules.specs.Run.{refused_line, decimal}
use Rattle.rules.proofs.Over.{copied_as, room-behind, written_behind}
use Rattle.text_prints.proofs.words.write_refused.Goals as goal

pub copy-k-requires : goal.copy-k-requires
unfolding refused_line
copy-k-requires c = omega (arith, c.requires)

pub write_spaced_decimal-requires : goal.write_spaced_decimal-requires
unfolding refused_line
write_spaced_decimal-requires c =
    let args = c.args in
    let pre = c.requires in
    let copy = c.copy-k in
    room-behind (bytes "refused") (bytes " " ++ decimal args.n) args.out.now copy.new.dst copy.result copy.ensures.count pre (copied_as (bytes "refused") (bytes "refused") args.out.now copy.new.dst refl copy.ensures.after)

pub overflow_add-result : goal.overflow_add-result
unfolding refused_line
overflow_add-result c =
    let args = c.args in
    let pre = c.requires in
    let copy = c.copy-k in
    let write-spaced-decimal = c.write_spaced_decimal in
    omega (arith, (written_behind (bytes "refused") (bytes " " ++ decimal args.n) args.out.now copy.new.dst copy.result copy.ensures.count pre (copied_as (bytes "refused") (bytes "refused") args.out.now copy.new.dst refl copy.ensures.after) write-spaced-decimal.new.out write-spaced-decimal.result write-spaced-decimal.ensures.value write-spaced-decimal.ensures.out_after).0, pre)

pub returns : goal.returns
unfolding refused_line
returns c =
    let args = c.args in
    let pre = c.requires in
    let copy = c.copy-k in
    let write-spaced-decimal = c.write_spaced_decimal in
    let whole = written_behind (bytes "refused") (bytes " " ++ decimal args.n) args.out.now copy.new.dst copy.result copy.ensures.count pre (copied_as (bytes "refused") (bytes "refused") args.out.now copy.new.dst refl copy.ensures.after) write-spaced-decimal.new.out write-spaced-decimal.result write-spaced-decimal.ensures.value write-spaced-decimal.ensures.out_after in
    record { value = whole.0; out_after = whole.1 }
