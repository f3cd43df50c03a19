-- The number of each refusal, and what a call tells that may be refused: its number, or the value.
use Rattle.std.specs.Prelude.{ℕ, Ok, Err}
use Rattle.std.specs.Prelude.{Result as Returned}
use Rattle.rules.specs.declared.Refusal.{Refusal}
use Rattle.rules.specs.declared.Refusal.TheVariants as refusal
use Rattle.rules.specs.Bytes.{Result, given, refused}

abbrev pub refusal_number : Refusal → ℕ
refusal_number refusal.Length = 1
refusal_number refusal.Letter = 2
refusal_number refusal.Bounds = 3
refusal_number refusal.Table = 4
refusal_number refusal.Exceptions = 5
refusal_number refusal.LastCodon = 6
refusal_number refusal.Position = 7
refusal_number refusal.Order = 8
refusal_number refusal.OutOfCds = 9
refusal_number refusal.Bases = 10
refusal_number refusal.TranscriptRoom = 11
refusal_number refusal.ProteinRoom = 12
refusal_number refusal.Codon = 14
refusal_number refusal.Output = 15
refusal_number refusal.Cut = 20
refusal_number refusal.Tag = 21
refusal_number refusal.Missing = 22
refusal_number refusal.Field = 23
refusal_number refusal.StoredRoom = 24
refusal_number refusal.Parts = 25
refusal_number refusal.NotChanged = 26
refusal_number refusal.Proposal = 27
refusal_number refusal.End = 28
refusal_number refusal.JoinedRoom = 29
refusal_number refusal.Line = 30
refusal_number refusal.ProfileLetter = 40
refusal_number refusal.ProfileEdit = 41
refusal_number refusal.ProfileFrame = 42
refusal_number refusal.NamedBase = 43
refusal_number refusal.List = 50
refusal_number refusal.Touching = 51
refusal_number refusal.PairUnknown = 52
refusal_number refusal.PairStop = 53
refusal_number refusal.Version = 60
refusal_number refusal.SettingsField = 61
refusal_number refusal.Setting = 62
refusal_number refusal.SettingsRoom = 63

-- 0 where nothing is refused
abbrev pub refusal_of : {A : Type 0} → Returned A Refusal → ℕ
refusal_of (Ok x) = 0
refusal_of (Err r) = refusal_number r

abbrev pub told : {A : Type 0} → Returned A Refusal → Result A
told (Ok x) = given x
told (Err r) = refused (refusal_number r)
