-- The plain types as the sections' reference, edit and room.
use Rattle.std.specs.Prelude.{ℕ, List, [], length}
use Rattle.rules.specs.declared.Cds.{Cds}
use Rattle.rules.specs.declared.Edit.{Edit}
use Rattle.rules.specs.declared.Exceptions.{Exceptions}
use Rattle.rules.specs.Translation.{exception_list}
use Rattle.rules.specs.Reference.{Reference}
use Rattle.rules.specs.Edit.{Asked}
use Rattle.rules.specs.Refusal.{Room}

abbrev pub cds_of : ℕ → ℕ → ℕ → ℕ → Cds
cds_of cs ce table end = record { cs = cs; ce = ce; table = table; end = end }

-- a reference, its exceptions left out, for rules that don't look at them
abbrev pub bare : List ℕ → Cds → Reference
bare s c = record { letters = s; cs = c.cs; ce = c.ce; table = c.table; exceptions = []; end = c.end }

abbrev pub reference_of : List ℕ → Cds → Exceptions → Reference
reference_of s c e = record { letters = s; cs = c.cs; ce = c.ce; table = c.table; exceptions = exception_list e; end = c.end }

abbrev pub asked : Edit → List ℕ → Asked
asked e new = record { edit = e; new = new }

-- the three buffers lent
abbrev pub room_of : List ℕ → List ℕ → List ℕ → Room
room_of t p a = record { transcript = length t; reference = length p; altered = length a }
