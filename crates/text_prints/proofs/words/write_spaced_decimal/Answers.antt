-- `text_prints::words::write_spaced_decimal` meets its contract. Assumes nothing.
use mathlib.Core.Path.{refl}
use native.Mathlib.Omega.{arith}
use Rattle.rules.specs.Bytes.{bytes}
use Rattle.rules.specs.Run.{decimal}
use Rattle.rules.proofs.Over.{copied_as, room-behind, written_behind}
use Rattle.text_prints.proofs.words.write_spaced_decimal.Goals as goal

pub write_digits-requires : goal.write_digits-requires
unfolding decimal
write_digits-requires c =
    let args = c.args in
    let pre = c.requires in
    let copy = c.copy-k in
    room-behind (bytes " ") (decimal args.n) args.out.now copy.new.dst copy.result copy.ensures.count pre (copied_as (bytes " ") (bytes " ") args.out.now copy.new.dst refl copy.ensures.after)

pub overflow_add-result : goal.overflow_add-result
unfolding decimal
overflow_add-result c =
    let args = c.args in
    let pre = c.requires in
    let copy = c.copy-k in
    let write-digits = c.write_digits in
    let both = written_behind (bytes " ") (decimal args.n) args.out.now copy.new.dst copy.result copy.ensures.count pre (copied_as (bytes " ") (bytes " ") args.out.now copy.new.dst refl copy.ensures.after) write-digits.new.out write-digits.result write-digits.ensures.value write-digits.ensures.out_after in
    omega (arith, both.0, pre)

pub returns : goal.returns
unfolding decimal
returns c =
    let args = c.args in
    let pre = c.requires in
    let copy = c.copy-k in
    let write-digits = c.write_digits in
    let whole = written_behind (bytes " ") (decimal args.n) args.out.now copy.new.dst copy.result copy.ensures.count pre (copied_as (bytes " ") (bytes " ") args.out.now copy.new.dst refl copy.ensures.after) write-digits.new.out write-digits.result write-digits.ensures.value write-digits.ensures.out_after in
    record { value = whole.0; out_after = whole.1 }
