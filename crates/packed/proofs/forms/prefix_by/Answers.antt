-- `packed::forms::prefix_by` meets its contract. Assumes nothing.
use mathlib.Core.Path.{sym, ap, ◌∙◌}
use mathlib.Core.List.{List}
use Prim.Native.Nat.{ℕ}
use Rattle.rules.specs.Trims.{common_prefix}
use Rattle.rules.specs.Altered.{part}
use Rattle.halves.proofs.Sizes.{bytes-is}
use Rattle.packed.proofs.Readings.{packed-fits, packed-part}
use Rattle.packed.proofs.forms.prefix_by.Goals as goal

pub part_prefix_len-requires : goal.part_prefix_len-requires
part_prefix_len-requires c = record { holds_pairs = c.letter_pairs-pairs.ensures; from_le_to = c.requires.rising; to_in_bounds = packed-fits c.args.form _ c.args.letters.now c.in-Packed.is c.args.to c.requires.ends }

pub returns-in-Bytes : goal.returns-in-Bytes
unfolding part
returns-in-Bytes c = let is = bytes-is c.args.form c.args.letters.now c.in-Bytes.is in
    c.common_prefix_len.ensures ∙ ap (λ (l : List ℕ). common_prefix (part c.args.from c.args.to l) c.args.new.now) (sym is)

pub returns-in-Packed : goal.returns-in-Packed
returns-in-Packed c = c.part_prefix_len.ensures ∙ ap (λ (l : List ℕ). common_prefix l c.args.new.now) (packed-part c.args.form _ c.args.letters.now c.in-Packed.is c.args.to c.requires.ends c.requires.letters c.args.from c.requires.rising)
