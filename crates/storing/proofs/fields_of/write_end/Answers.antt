-- `storing::fields_of::write_end` meets its contract. Assumes nothing.
use Rattle.std.specs.Prelude.{if◌then◌else◌}
use mathlib.Core.List.{[], ◌∷◌}
use lib.Dec.{eqb}
use Rattle.rules.specs.Reference.{at_stop}
use Rattle.storing_numbers.proofs.Fields.{nothing}
use Rattle.storing.proofs.Forms.{end_none}
use Rattle.storing.proofs.fields_of.write_end.Goals as goal

pub returns-then-c-eq0 : goal.returns-then-c-eq0
returns-then-c-eq0 c =
    let a = c.args in
    let whole = nothing 8 (if eqb a.c.end at_stop then [] else (a.c.end ∷ [])) a.out.now (end_none a.c.end c.if-c-eq0.true) in
    record { value = whole.0; out_after = whole.1 }
