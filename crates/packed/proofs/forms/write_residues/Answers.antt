-- `packed::forms::write_residues` meets its contract. Assumes nothing.
use mathlib.Core.Path.{sym, ap, ◌∙◌}
use mathlib.Core.List.{List}
use Prim.Native.Nat.{ℕ}
use Rattle.rules.specs.Bytes.{over}
use Rattle.rules.specs.Altered.{part}
use Rattle.rules.specs.Translation.{exception_list, folded_translated}
use Rattle.rules.specs.Packed.{letters_by}
use Rattle.rules.proofs.Parts.{length_part}
use Rattle.halves.proofs.Sizes.{bytes-is}
use Rattle.packed.proofs.Readings.{packed-fits, packed-part}
use Rattle.packed.proofs.forms.write_residues.Goals as goal

pub write_translated-requires : goal.write_translated-requires
unfolding part
write_translated-requires c = let is = bytes-is c.args.form c.args.letters.now c.in-Bytes.is in
    rw is at c.requires.walks

pub write_packed-requires : goal.write_packed-requires
write_packed-requires c = let walks = c.requires.walks in
    let long = length_part c.args.from c.args.to (letters_by c.args.form c.args.letters.now) c.requires.in_letters.ends in
    record { table_bound = (walks.reads.code, walks.reads.few); first_le_end = (c.requires.in_letters.rising, packed-fits c.args.form _ c.args.letters.now c.in-Packed.is c.args.to c.requires.in_letters.ends); first_in_bounds = rw long at walks.room }

pub returns-in-Bytes : goal.returns-in-Bytes
unfolding part
returns-in-Bytes c = let is = bytes-is c.args.form c.args.letters.now c.in-Bytes.is in
    c.write_translated.ensures
    ∙ ap (λ (l : List ℕ). over (folded_translated c.args.table (exception_list c.args.e) (part c.args.from c.args.to l)) c.args.out.now) (sym is)

pub returns-in-Packed : goal.returns-in-Packed
returns-in-Packed c = c.write_packed.ensures
    ∙ ap (λ (l : List ℕ). over (folded_translated c.args.table (exception_list c.args.e) l) c.args.out.now) (packed-part c.args.form _ c.args.letters.now c.in-Packed.is c.args.to c.requires.in_letters.ends c.requires.in_letters.letters c.args.from c.requires.in_letters.rising)
