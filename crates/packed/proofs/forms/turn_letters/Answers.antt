-- `packed::forms::turn_letters` meets its contract. Assumes nothing.
use mathlib.Core.Path.{sym, ap, ◌∙◌}
use mathlib.Core.List.{List}
use Prim.Native.Nat.{ℕ}
use Rattle.rules.specs.Bytes.{all, over}
use Rattle.rules.specs.Letters.{is_letter}
use Rattle.rules.specs.Altered.{part}
use Rattle.rules.specs.Complement.{reverse_complement}
use Rattle.rules.proofs.Parts.{length_part, letters-part}
use Rattle.halves.proofs.Sizes.{bytes-is}
use Rattle.packed.proofs.Readings.{packed-fits, packed-part}
use Rattle.packed.proofs.forms.turn_letters.Goals as goal

pub write_revcomp-requires : goal.write_revcomp-requires
unfolding part
write_revcomp-requires c = let s = c.args.letters.now in
    let is = bytes-is c.args.form s c.in-Bytes.is in
    record { seq_value = letters-part c.args.from c.args.to s (rw is at c.requires.in_letters.letters); seq_in_bounds = rw (length_part c.args.from c.args.to s (rw is at c.requires.in_letters.ends)) c.requires.from_in_bounds }

pub write_turned-requires : goal.write_turned-requires
write_turned-requires c = let fits = packed-fits c.args.form _ c.args.letters.now c.in-Packed.is c.args.to c.requires.in_letters.ends in
    let same = packed-part c.args.form _ c.args.letters.now c.in-Packed.is c.args.to c.requires.in_letters.ends c.requires.in_letters.letters c.args.from c.requires.in_letters.rising in
    record { holds_pairs = c.letter_pairs-pairs.ensures; from_le_to = c.requires.in_letters.rising; to_in_bounds = fits; packed_value = (ap (all is_letter) same ∙ letters-part c.args.from c.args.to _ c.requires.in_letters.letters, c.requires.from_in_bounds) }

pub returns-in-Bytes : goal.returns-in-Bytes
unfolding part
returns-in-Bytes c = let is = bytes-is c.args.form c.args.letters.now c.in-Bytes.is in
    c.write_revcomp.ensures
    ∙ ap (λ (l : List ℕ). over (reverse_complement (part c.args.from c.args.to l)) c.args.out.now) (sym is)

pub returns-in-Packed : goal.returns-in-Packed
returns-in-Packed c = c.write_turned.ensures
    ∙ ap (λ (l : List ℕ). over (reverse_complement l) c.args.out.now) (packed-part c.args.form _ c.args.letters.now c.in-Packed.is c.args.to c.requires.in_letters.ends c.requires.in_letters.letters c.args.from c.requires.in_letters.rising)
