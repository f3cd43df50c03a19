-- `text_numbers::parse_number` meets its contract. Assumes nothing.
use mathlib.Core.Path.{sym}
use borrow.Author.Rules.{rules}
use lib.Seq.{length-take-le}
use Rattle.text_numbers.proofs.Numbers.{count-within, not-number, few, are-digits, next-within, is-number}
use Rattle.text_numbers.proofs.parse_number.Goals as goal

pub is_number-requires : goal.is_number-requires
is_number-requires c = count-within c.args.line.now c.args.at _ c.count_digits-n.ensures

pub returns-then-not-is_number : goal.returns-then-not-is_number
returns-then-not-is_number c = record { result_value = not-number c.args.line.now c.args.at _ c.count_digits-n.ensures _ c.is_number.ensures c.if-not-is_number.true; within = search rules }

pub slice_bounds-value_of-end : goal.slice_bounds-value_of-end
slice_bounds-value_of-end c = sym (length-take-le _ _ (count-within c.args.line.now c.args.at _ c.count_digits-n.ensures))

pub value_of-value-requires : goal.value_of-value-requires
value_of-value-requires c = record { s_len_bound = few c.args.line.now c.args.at _ c.count_digits-n.ensures _ c.is_number.ensures c.if-not-is_number.false; s_value = are-digits c.args.line.now c.args.at _ c.count_digits-n.ensures _ c.is_number.ensures c.if-not-is_number.false }

pub overflow_add-result : goal.overflow_add-result
overflow_add-result c =
    let h = next-within c.args.line.now c.args.at _ c.count_digits-n.ensures _ c.is_number.ensures c.if-not-is_number.false c.requires in search rules

pub returns : goal.returns
returns c = record { result_value = is-number c.args.line.now c.args.at _ c.count_digits-n.ensures _ c.is_number.ensures c.if-not-is_number.false _ c.value_of-value.ensures; within = next-within c.args.line.now c.args.at _ c.count_digits-n.ensures _ c.is_number.ensures c.if-not-is_number.false c.requires }
