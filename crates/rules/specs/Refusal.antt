-- "Refusal numbers": the lowest is given, but for orders named.
use Rattle.std.specs.Prelude.{ℕ, ◌+◌, ◌-◌, List, [], ◌∷◌, ◌++◌, ◌||◌, ltb}
use Rattle.rules.specs.declared.Limits.{Limits}
use Rattle.rules.specs.declared.Record.{Record}
use Rattle.rules.specs.Bytes.{Test, ◌↯◌, first_number, Result, unless}
use Rattle.rules.specs.Translation.{residue_count}
use Rattle.rules.specs.Reference.{Reference, reference_tests, cds_size}
use Rattle.rules.specs.Edit.{Asked, edit_tests}
use Rattle.rules.specs.Altered.{altered_length}
use Rattle.rules.specs.Record.{record_of}

-- what the library takes: transcripts of 1 to 131,072 bases, 1 to 4,096 new ones
abbrev pub limits : Limits
limits = record { longest = 131072; most = 4096 }

-- 1 to 5, 6 or 28, and 0 where none applies
unfoldable pub reference_refusal : ℕ → Reference → ℕ
reference_refusal longest r = first_number (reference_tests longest r)

-- 1 to 5, 6 or 28, 7 to 10, and 0 where none applies
unfoldable pub refusal : Limits → Reference → Asked → ℕ
refusal m r e = first_number (reference_tests m.longest r ++ edit_tests m.most r e)

-- the bytes lent for the altered transcript, R and A
pub record Room : Type 0 where
  pub transcript : ℕ
  pub reference : ℕ
  pub altered : ℕ

-- 11: transcript buffer shorter than the altered length; 12: a protein buffer shorter than CDS/3 rounded up or ceil((altered length-cs+1)/3)
unfoldable pub room_tests : ℕ → ℕ → ℕ → Room → List Test
room_tests coding cs altered room =
    ltb room.transcript altered ↯ 11
    ∷ (ltb room.reference (residue_count coding) || ltb room.altered (residue_count (altered + 1 - cs))) ↯ 12
    ∷ []

unfoldable pub room_refusal : Reference → Asked → Room → ℕ
room_refusal r e room = first_number (room_tests (cds_size r) r.cs (altered_length r e) room)

-- 1 to 5, 6 or 28, 7 to 10, else the record: what is answered where every buffer has room
unfoldable pub record_unless : Limits → Reference → Asked → Result Record
record_unless m r e = unless (refusal m r e) (record_of r e)
