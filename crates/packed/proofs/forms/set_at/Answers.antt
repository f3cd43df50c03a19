-- `packed::forms::set_at` meets its contract. Assumes nothing.
use mathlib.Core.Path.{sym, ap, ◌∙◌}
use mathlib.Core.List.{List}
use Prim.Native.Nat.{ℕ, ◌+◌}
use native.Mathlib.Omega.{arith}
use lib.ListN.{get_or}
use Rattle.rules.specs.Letters.{letter_set}
use Rattle.halves.proofs.Sizes.{bytes-is}
use Rattle.packed.proofs.Readings.{packed-fits, packed-set, set_some}
use Rattle.packed.proofs.forms.set_at.Goals as goal

pub half_at-requires : goal.half_at-requires
half_at-requires c = let fits = packed-fits c.args.form _ c.args.letters.now c.in-Packed.is (c.args.place + 1) (omega (arith, c.requires.place_in_bounds)) in
    omega arith

pub returns-in-Bytes : goal.returns-in-Bytes
returns-in-Bytes c = let is = bytes-is c.args.form c.args.letters.now c.in-Bytes.is in
    let set = c.letter_set.ensures.value ∙ ap (λ (l : List ℕ). letter_set (get_or l c.args.place 0)) (sym is) in
    record { value = set; some = (set_some c.args.form c.args.letters.now c.args.place c.requires.letters_value c.requires.place_in_bounds _ set, c.letter_set.ensures.small) }

pub returns-in-Packed : goal.returns-in-Packed
returns-in-Packed c = let half = c.half_at in
    let set = c.from.ensures ∙ half.ensures.value ∙ packed-set c.args.form _ c.args.letters.now c.in-Packed.is (c.args.place + 1) (omega (arith, c.requires.place_in_bounds)) c.requires.letters_value c.args.place (omega arith) in
    record { value = set; some = (set_some c.args.form c.args.letters.now c.args.place c.requires.letters_value c.requires.place_in_bounds _ set, omega (arith, c.from.ensures, half.ensures.small)) }
