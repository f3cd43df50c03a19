use mathlib.Core.Path.{◌≡◌}
use mathlib.Core.List.{[]}
use Prim.Native.Nat.{◌-◌}
use lib.ListN.{length}
use Rattle.rules.specs.Bytes.{over}
use Rattle.rules.specs.Packed.{letters_by}
use Rattle.rules.specs.Storing.{tagged, held_by}
use Rattle.rules.specs.Views.{reference_of}
use Rattle.storing_numbers.specs.Fields.{one_field}
use Rattle.storing_exceptions.proofs.Rows.{row}
use Rattle.storing.proofs.form.write_form.Given as goal

abbrev pub invariant-loop-tag : goal.invariant-loop-tag
invariant-loop-tag l =
    (l.at ≡ length (row one_field (held_by (reference_of (letters_by l.form l.letters) l.c l.e)) (tagged 0 []) (l.tag - 1))) × (l.out ≡ over (row one_field (held_by (reference_of (letters_by l.form l.letters) l.c l.e)) (tagged 0 []) (l.tag - 1)) l.initial.out)
