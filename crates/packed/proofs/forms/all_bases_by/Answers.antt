-- `packed::forms::all_bases_by` meets its contract. Assumes nothing.
use Rattle.packed.proofs.Readings.{packed-count}
use Rattle.packed.proofs.forms.all_bases_by.Goals as goal

pub packed_bases-requires : goal.packed_bases-requires
packed_bases-requires c = packed-count c.args.form _ c.args.letters.now c.in-Packed.is c.requires
