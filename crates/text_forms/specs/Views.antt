-- What a parser's answer says in document 01's terms: what was read, with what stands behind it in the line. And the place where that begins, 0
-- where nothing was read: where a promise bounds it by the line's length, what stands behind it tells it.
use Rattle.std.specs.Prelude.{ℕ, List, eqb, drop, if◌then◌else◌, None, Some}
use Rattle.std.specs.Prelude.{Option as Returned}
use Rattle.std.proofs.Math.Option.{Option, none, some}
use Rattle.rules.specs.declared.Position.{Position}
use Rattle.rules.specs.declared.Position.TheVariants.{Plus, Minus, Star}
use Rattle.rules.specs.Bytes.{byte}
use Rattle.rules.specs.Reference.{Reference}
use Rattle.rules.specs.Edit.{Asked}
use Rattle.rules.specs.Line.{Placed, Range}
use Rattle.rules.specs.Views.{bare}
use Rattle.text_forms.specs.declared.position.PositionAt.{PositionAt}
use Rattle.text_forms.specs.declared.position.RangeAt.{RangeAt}
use Rattle.text_forms.specs.declared.line.EditLine.{EditLine}
use Rattle.text_forms.specs.declared.line.ReferenceLine.{ReferenceLine}

-- the number of sign bytes that a position with the first byte b has
abbrev pub signs : ℕ → ℕ
signs b = if eqb b (byte "-") then 1 else if eqb b (byte "*") then 1 else 0

-- the position of a number behind the sign b, if it is one
abbrev pub signed : ℕ → ℕ → Position
signed b n = if eqb b (byte "-") then Minus n else if eqb b (byte "*") then Star n else Plus n

abbrev pub placed_in : List ℕ → Returned PositionAt → Option Placed
placed_in line None = none
placed_in line (Some p) = some (record { position = p.position; rest = drop p.next line })

abbrev pub placed_next : Returned PositionAt → ℕ
placed_next None = 0
placed_next (Some p) = p.next

abbrev pub range_in : List ℕ → Returned RangeAt → Option Range
range_in line None = none
range_in line (Some g) = some (record { start = g.start; end = g.end; rest = drop g.next line })

abbrev pub range_next : Returned RangeAt → ℕ
range_next None = 0
range_next (Some g) = g.next

abbrev pub edit_line_in : List ℕ → Returned EditLine → Option Asked
edit_line_in line None = none
edit_line_in line (Some e) = some (record { edit = e.edit; new = drop e.at line })

abbrev pub bases_at : Returned EditLine → ℕ
bases_at None = 0
bases_at (Some e) = e.at

abbrev pub reference_line_in : List ℕ → Returned ReferenceLine → Option Reference
reference_line_in line None = none
reference_line_in line (Some r) = some (bare (drop r.at line) r.cds)

abbrev pub letters_at : Returned ReferenceLine → ℕ
letters_at None = 0
letters_at (Some r) = r.at
