-- `packed::forms::letter_at` meets its contract. Assumes nothing.
use mathlib.Core.Path.{ap, ◌∙◌}
use Prim.Native.Nat.{◌+◌}
use native.Mathlib.Omega.{arith}
use Rattle.rules.specs.Packed.{letter_of}
use Rattle.packed.proofs.Readings.{packed-fits, packed-letter}
use Rattle.packed.proofs.forms.letter_at.Goals as goal

pub half_at-requires : goal.half_at-requires
half_at-requires c = let fits = packed-fits c.args.form _ c.args.letters.now c.in-Packed.is (c.args.place + 1) (omega (arith, c.requires.place_in_bounds)) in
    omega arith

pub returns-in-Packed : goal.returns-in-Packed
returns-in-Packed c = c.letter_of.ensures
    ∙ ap letter_of (c.from.ensures ∙ c.half_at.ensures.value)
    ∙ packed-letter c.args.form _ c.args.letters.now c.in-Packed.is (c.args.place + 1) (omega (arith, c.requires.place_in_bounds)) c.requires.letters_value c.args.place (omega arith)
