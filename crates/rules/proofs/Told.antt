-- What a call tells admits one answer: no refusal has the number 0, and two with one number are the same.
-- Assumes nothing.
use mathlib.Core.Path.{◌≡◌, refl, sym, ap, ◌∙◌}
use Prim.Native.Nat.{ℕ, ◌<◌}
use native.Mathlib.Omega.{arith}
use borrow.Author.Tests.{ltb-true}
use Rattle.std.specs.Prelude.{eqb, ltb, if◌then◌else◌, true, Ok, Err}
use Rattle.std.specs.Prelude.{Result as Returned}
use Rattle.rules.specs.declared.Refusal.{Refusal}
use Rattle.rules.specs.declared.Refusal.TheVariants as refusal
use Rattle.rules.specs.Bytes.{Result, given, refused}
use Rattle.rules.specs.Refusals.{refusal_number, refusal_of, told}

-- the refusal of a number
refusal_at : ℕ → Refusal
refusal_at n =
    if eqb n 1 then refusal.Length else
    if eqb n 2 then refusal.Letter else
    if eqb n 3 then refusal.Bounds else
    if eqb n 4 then refusal.Table else
    if eqb n 5 then refusal.Exceptions else
    if eqb n 6 then refusal.LastCodon else
    if eqb n 7 then refusal.Position else
    if eqb n 8 then refusal.Order else
    if eqb n 9 then refusal.OutOfCds else
    if eqb n 10 then refusal.Bases else
    if eqb n 11 then refusal.TranscriptRoom else
    if eqb n 12 then refusal.ProteinRoom else
    if eqb n 14 then refusal.Codon else
    if eqb n 15 then refusal.Output else
    if eqb n 20 then refusal.Cut else
    if eqb n 21 then refusal.Tag else
    if eqb n 22 then refusal.Missing else
    if eqb n 23 then refusal.Field else
    if eqb n 24 then refusal.StoredRoom else
    if eqb n 25 then refusal.Parts else
    if eqb n 26 then refusal.NotChanged else
    if eqb n 27 then refusal.Proposal else
    if eqb n 28 then refusal.End else
    if eqb n 29 then refusal.JoinedRoom else
    if eqb n 30 then refusal.Line else
    if eqb n 40 then refusal.ProfileLetter else
    if eqb n 41 then refusal.ProfileEdit else
    if eqb n 42 then refusal.ProfileFrame else
    if eqb n 43 then refusal.NamedBase else
    if eqb n 50 then refusal.List else
    if eqb n 51 then refusal.Touching else
    if eqb n 52 then refusal.PairUnknown else
    if eqb n 53 then refusal.PairStop else
    if eqb n 60 then refusal.Version else
    if eqb n 61 then refusal.SettingsField else
    if eqb n 62 then refusal.Setting else
    refusal.SettingsRoom

number-back : (r : Refusal) → refusal_at (refusal_number r) ≡ r
unfolding refusal_at
number-back refusal.Length = refl
number-back refusal.Letter = refl
number-back refusal.Bounds = refl
number-back refusal.Table = refl
number-back refusal.Exceptions = refl
number-back refusal.LastCodon = refl
number-back refusal.Position = refl
number-back refusal.Order = refl
number-back refusal.OutOfCds = refl
number-back refusal.Bases = refl
number-back refusal.TranscriptRoom = refl
number-back refusal.ProteinRoom = refl
number-back refusal.Codon = refl
number-back refusal.Output = refl
number-back refusal.Cut = refl
number-back refusal.Tag = refl
number-back refusal.Missing = refl
number-back refusal.Field = refl
number-back refusal.StoredRoom = refl
number-back refusal.Parts = refl
number-back refusal.NotChanged = refl
number-back refusal.Proposal = refl
number-back refusal.End = refl
number-back refusal.JoinedRoom = refl
number-back refusal.Line = refl
number-back refusal.ProfileLetter = refl
number-back refusal.ProfileEdit = refl
number-back refusal.ProfileFrame = refl
number-back refusal.NamedBase = refl
number-back refusal.List = refl
number-back refusal.Touching = refl
number-back refusal.PairUnknown = refl
number-back refusal.PairStop = refl
number-back refusal.Version = refl
number-back refusal.SettingsField = refl
number-back refusal.Setting = refl
number-back refusal.SettingsRoom = refl

within : (r : Refusal) → (ltb 0 (refusal_number r) ≡ true) × (ltb (refusal_number r) 100 ≡ true)
within refusal.Length = (refl, refl)
within refusal.Letter = (refl, refl)
within refusal.Bounds = (refl, refl)
within refusal.Table = (refl, refl)
within refusal.Exceptions = (refl, refl)
within refusal.LastCodon = (refl, refl)
within refusal.Position = (refl, refl)
within refusal.Order = (refl, refl)
within refusal.OutOfCds = (refl, refl)
within refusal.Bases = (refl, refl)
within refusal.TranscriptRoom = (refl, refl)
within refusal.ProteinRoom = (refl, refl)
within refusal.Codon = (refl, refl)
within refusal.Output = (refl, refl)
within refusal.Cut = (refl, refl)
within refusal.Tag = (refl, refl)
within refusal.Missing = (refl, refl)
within refusal.Field = (refl, refl)
within refusal.StoredRoom = (refl, refl)
within refusal.Parts = (refl, refl)
within refusal.NotChanged = (refl, refl)
within refusal.Proposal = (refl, refl)
within refusal.End = (refl, refl)
within refusal.JoinedRoom = (refl, refl)
within refusal.Line = (refl, refl)
within refusal.ProfileLetter = (refl, refl)
within refusal.ProfileEdit = (refl, refl)
within refusal.ProfileFrame = (refl, refl)
within refusal.NamedBase = (refl, refl)
within refusal.List = (refl, refl)
within refusal.Touching = (refl, refl)
within refusal.PairUnknown = (refl, refl)
within refusal.PairStop = (refl, refl)
within refusal.Version = (refl, refl)
within refusal.SettingsField = (refl, refl)
within refusal.Setting = (refl, refl)
within refusal.SettingsRoom = (refl, refl)

pub number_some : (r : Refusal) → refusal_number r ≡ 0 → ⊥
number_some r h = omega (arith, ltb-true 0 (refusal_number r) (within r).0)

pub number_few : (r : Refusal) → refusal_number r < 100
number_few r = ltb-true (refusal_number r) 100 (within r).1

pub number_once : (r s : Refusal) → refusal_number r ≡ refusal_number s → r ≡ s
number_once r s h = sym (number-back r) ∙ (ap refusal_at h ∙ number-back s)

pub told_once : {A : Type 0} → (x y : Returned A Refusal) → told x ≡ told y → x ≡ y
told_once (Ok x) (Ok y) h = ap Ok cc
told_once (Ok x) (Err s) h = let z : ◌≡◌ {A = ℕ} 0 1 = cc in absurd (omega arith)
told_once (Err r) (Ok y) h = let z : ◌≡◌ {A = ℕ} 0 1 = cc in absurd (omega arith)
told_once (Err r) (Err s) h = ap Err (number_once r s cc)

-- the same where there is no value
pub refusal_once : (x y : Returned (Unit {0}) Refusal) → refusal_of x ≡ refusal_of y → x ≡ y
refusal_once (Ok x) (Ok y) h = refl
refusal_once (Ok x) (Err s) h = absurd (number_some s (sym h))
refusal_once (Err r) (Ok y) h = absurd (number_some r h)
refusal_once (Err r) (Err s) h = ap Err (number_once r s h)
