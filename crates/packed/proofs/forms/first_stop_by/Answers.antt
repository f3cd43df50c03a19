-- `packed::forms::first_stop_by` meets its contract. Assumes nothing.
use mathlib.Core.Path.{sym, ap, ◌∙◌}
use mathlib.Core.List.{List}
use Prim.Native.Nat.{ℕ}
use Rattle.rules.specs.Altered.{part}
use Rattle.rules.specs.Translation.{exception_list, before_stop, whole_codons, folded_translated}
use Rattle.halves.proofs.Sizes.{bytes-is}
use Rattle.packed.proofs.Readings.{packed-fits, packed-part}
use Rattle.packed.proofs.forms.first_stop_by.Goals as goal

pub first_stop-requires : goal.first_stop-requires
unfolding part
first_stop-requires c = let is = bytes-is c.args.form c.args.letters.now c.in-Bytes.is in
    rw is at c.requires.reads

pub packed_first_stop-requires : goal.packed_first_stop-requires
packed_first_stop-requires c = record { table_bound = (c.requires.reads.code, c.requires.reads.few); first_le_end = (c.requires.in_letters.rising, packed-fits c.args.form _ c.args.letters.now c.in-Packed.is c.args.to c.requires.in_letters.ends) }

pub returns-in-Bytes : goal.returns-in-Bytes
unfolding part
returns-in-Bytes c = let is = bytes-is c.args.form c.args.letters.now c.in-Bytes.is in
    c.first_stop.ensures
    ∙ ap (λ (l : List ℕ). before_stop (folded_translated c.args.table (exception_list c.args.e) (whole_codons (part c.args.from c.args.to l)))) (sym is)

pub returns-in-Packed : goal.returns-in-Packed
returns-in-Packed c = c.packed_first_stop.ensures
    ∙ ap (λ (l : List ℕ). before_stop (folded_translated c.args.table (exception_list c.args.e) (whole_codons l))) (packed-part c.args.form _ c.args.letters.now c.in-Packed.is c.args.to c.requires.in_letters.ends c.requires.in_letters.letters c.args.from c.requires.in_letters.rising)
