-- `packed::forms::all_letters_by` meets its contract. Assumes nothing.
use Rattle.packed.proofs.Readings.{packed-count}
use Rattle.packed.proofs.forms.all_letters_by.Goals as goal

pub packed_letters-requires : goal.packed_letters-requires
packed_letters-requires c = packed-count c.args.form _ c.args.letters.now c.in-Packed.is c.requires
