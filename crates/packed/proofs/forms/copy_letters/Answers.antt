-- `packed::forms::copy_letters` meets its contract. Assumes nothing.
use mathlib.Core.Path.{sym, ap, ◌∙◌}
use mathlib.Core.List.{List}
use Prim.Native.Nat.{ℕ}
use Rattle.rules.specs.Bytes.{over}
use Rattle.rules.specs.Altered.{part}
use Rattle.rules.specs.Packed.{letters_by}
use Rattle.rules.proofs.Over.{copied_as}
use Rattle.halves.proofs.Sizes.{bytes-is}
use Rattle.packed.proofs.Readings.{packed-fits, packed-part}
use Rattle.packed.proofs.forms.copy_letters.Goals as goal

pub unpack_part-requires : goal.unpack_part-requires
unpack_part-requires c = record { holds_pairs = c.letter_pairs-pairs.ensures; from_le_to = c.requires.in_letters.rising; to_in_bounds = packed-fits c.args.form _ c.args.letters.now c.in-Packed.is c.args.to c.requires.in_letters.ends; from_in_bounds = c.requires.from_in_bounds }

pub returns-in-Bytes : goal.returns-in-Bytes
unfolding part
returns-in-Bytes c = let s = c.args.letters.now in
    let is = bytes-is c.args.form s c.in-Bytes.is in
    copied_as (part c.args.from c.args.to s) (part c.args.from c.args.to (letters_by c.args.form s)) c.args.out.now _ (ap (part c.args.from c.args.to) (sym is)) c.copy.ensures.after

pub returns-in-Packed : goal.returns-in-Packed
returns-in-Packed c = c.unpack_part.ensures
    ∙ ap (λ (l : List ℕ). over l c.args.out.now) (packed-part c.args.form _ c.args.letters.now c.in-Packed.is c.args.to c.requires.in_letters.ends c.requires.in_letters.letters c.args.from c.requires.in_letters.rising)
