-- `settings_fields::longest_at` meets its contract. Assumes nothing.
use mathlib.Core.Path.{sym, ◌∙◌}
use Rattle.settings_fields.specs.Places.{settings_at}
use Rattle.settings_fields.proofs.Places.{long-six}
use Rattle.settings_fields.proofs.longest_at.Goals as goal

pub two_bytes-requires : goal.two_bytes-requires
two_bytes-requires c =
    long-six c.args.s.now c.args.version c.requires (sym c.has_longest.ensures ∙ c.if-has_longest.true)

pub returns-then-has_longest : goal.returns-then-has_longest
unfolding settings_at
returns-then-has_longest c = rw (sym c.has_longest.ensures ∙ c.if-has_longest.true) c.two_bytes.ensures

pub returns : goal.returns
unfolding settings_at
returns c = rw (sym c.has_longest.ensures ∙ c.if-has_longest.false)
