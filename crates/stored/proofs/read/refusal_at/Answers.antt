-- `stored::read::refusal_at` meets its contract. Assumes nothing.
use mathlib.Core.Path.{ap, ◌∙◌}
use Rattle.rules.specs.Refusal.{limits}
use Rattle.parts.specs.Parts.{in_parts}
use Rattle.stored_fields.specs.Held.{exceptions_of}
use Rattle.stored.proofs.Judged.{same-refusal}
use Rattle.stored.proofs.read.refusal_at.Goals as goal

pub returns : goal.returns
returns c =
    let a = c.args in
    c.judge_parts.ensures
    ∙ same-refusal limits.longest a.s.now a.p c.requires (in_parts c.bytes_at-2.result.now c.bytes_at-3.result.now c.bytes_at-4.result.now) c.exceptions_in-e.result
    (rw (c.bytes_at-2.ensures, c.bytes_at-3.ensures, c.bytes_at-4.ensures)) (c.exceptions_in-e.ensures ∙ ap exceptions_of c.bytes_at.ensures)
