-- The altered transcript alone and the whole answer agree: on 1 to 11, Unknown, the transcript and the flag. Only 12 is the whole answer's alone.
-- Assumes nothing.
use Rattle.std.specs.Prelude.{None, Some, if◌then◌else◌}
use mathlib.Core.Path.{◌≡◌, refl, sym, ap}
use mathlib.Core.Bool.{Bool, true, false, ◌||◌}
use mathlib.Core.List.{List}
use Prim.Native.Nat.{ℕ, zero, suc, ◌+◌, ◌-◌}
use native.Mathlib.Omega.{arith}
use lib.Dec.{ltb}
use lib.ListN.{length}
use Rattle.rules.specs.declared.Limits.{Limits}
use Rattle.rules.specs.declared.Report.{Report}
use Rattle.rules.specs.Bytes.{given, refused, first_number}
use Rattle.rules.specs.Translation.{residue_count}
use Rattle.rules.specs.Reference.{Reference, cds_size}
use Rattle.rules.specs.Edit.{Asked}
use Rattle.rules.specs.Altered.{altered_transcript, altered_length, frameshift}
use Rattle.rules.specs.Record.{is_unknown}
use Rattle.rules.specs.Refusal.{refusal, Room, room_tests, room_refusal}
use Rattle.rules.specs.Answer.{Outcome, writes_nothing, unknown_report, full_report, writes_all, outcome_by, outcome}
use Rattle.altseq.specs.declared.alone.Transcribed.{Transcribed}
use Rattle.altseq.specs.Transcribing.{Edited, written, edited_by, edited}

-- what the whole answer is where a transcript t of n bases is written, with the flag
pub data Beside (o : Outcome) (n : ℕ) (flag : Bool) (t : List ℕ) : Type 0 where
  no_room : o.answer ≡ refused 12 → Beside o n flag t
  reported : (p : Report) → o.answer ≡ given p → p.transcript ≡ n → p.frameshift ≡ flag → o.transcript ≡ t → Beside o n flag t

pub record Agree (o : Outcome) (x : Edited) : Type 0 where
  pub refused : (n : ℕ) → x.answer ≡ refused n → o.answer ≡ refused n
  pub unknown : x.answer ≡ given None → o.answer ≡ given unknown_report
  pub transcribed : (n : ℕ) (flag : Bool) → x.answer ≡ given (Some (record { length = n; frameshift = flag })) → Beside o n flag x.transcript

never : {A : Type 0} → ◌≡◌ {A = ℕ} 0 1 → A
never h = absurd (omega arith)

fields : (k n : ℕ) (f g : Bool) → ◌≡◌ {A = Transcribed} (record { length = k; frameshift = f }) (record { length = n; frameshift = g }) → (k ≡ n) × (f ≡ g)
fields k n f g h = (ap (λ (x : Transcribed). x.length) h, ap (λ (x : Transcribed). x.frameshift) h)

module _ (m : Limits) (r : Reference) (a : Asked) (room : Room) where
  by : (n : ℕ) (u short none : Bool)
      → Agree (outcome_by n u (if short then 11 else if none then 12 else 0) (writes_all r a)) (edited_by n u short (written (frameshift r a) (altered_transcript r a)))
  unfolding outcome_by edited_by writes_nothing writes_all full_report
  by (suc n) u short none =
      record {
        refused = λ k h. cc;
        unknown = λ h. never (cc);
        transcribed = λ k f h. never (cc);
      }
  by zero true short none =
      record {
        refused = λ k h. never (cc);
        unknown = λ h. refl;
        transcribed = λ k f h. never (cc);
      }
  by zero false true none =
      record {
        refused = λ k h. cc;
        unknown = λ h. never (cc);
        transcribed = λ k f h. never (cc);
      }
  by zero false false true =
      record {
        refused = λ k h. never (cc);
        unknown = λ h. never (cc);
        transcribed = λ k f h. no_room refl;
      }
  by zero false false false =
      record {
        refused = λ k h. never (cc);
        unknown = λ h. never (cc);
        transcribed = λ k f h. let both = fields k (length (altered_transcript r a)) f (frameshift r a) (cc) in reported (full_report r a) refl (sym both.0) (sym both.1) refl;
      }

  pub agree : Agree (outcome m r a room) (edited m r a room.transcript)
  unfolding outcome edited room_refusal room_tests first_number
  agree =
      by (refusal m r a) (is_unknown r a) (ltb room.transcript (altered_length r a))
      (ltb room.reference (residue_count (cds_size r)) || ltb room.altered (residue_count (altered_length r a + 1 - r.cs)))
