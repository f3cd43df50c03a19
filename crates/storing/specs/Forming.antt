-- The stored form of a reference, field by field.
use Rattle.std.specs.Prelude.{ℕ, ◌-◌, ◌≡◌, List, [], ◌∷◌, eqb, get_or, if◌then◌else◌}
use Rattle.rules.specs.declared.Cds.{Cds}
use Rattle.rules.specs.declared.Exceptions.{Exceptions}
use Rattle.rules.specs.Reference.{Reference, at_stop}
use Rattle.rules.specs.Refusal.{limits, reference_refusal}
use Rattle.rules.specs.Stored.{Tagged}
use Rattle.rules.specs.Storing.{tagged, held_by}
use Rattle.rules.specs.Views.{reference_of}

-- the field of a tag, 1 to 8
abbrev pub held_at : ℕ → Reference → Tagged
held_at tag r = get_or (held_by r) (tag - 1) (tagged 0 [])

-- tag 8, absent for a stop
abbrev pub end_field : ℕ → Tagged
end_field end = tagged 8 (if eqb end at_stop then [] else (end ∷ []))

-- a reference that isn't refused
abbrev pub Clear : List ℕ → Cds → Exceptions → Type 0
Clear s c e = reference_refusal limits.longest (reference_of s c e) ≡ 0
