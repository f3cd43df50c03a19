-- Laws of a plan that is carried out: the room it has, what the buffers hold, and the report.
-- Assumes nothing.
use mathlib.Core.Path.{◌≡◌, refl, sym, ap, ◌∙◌}
use mathlib.Core.List.{List}
use Prim.Native.Nat.{ℕ, ◌≤◌}
use native.Mathlib.Omega.{arith}
use lib.ListN.{length, take}
use Rattle.rules.specs.declared.Exceptions.{Exceptions}
use Rattle.rules.specs.declared.Record.{Record}
use Rattle.rules.specs.declared.Report.{Report}
use Rattle.rules.specs.Bytes.{over}
use Rattle.rules.specs.Reference.{Reference, reference_protein}
use Rattle.rules.specs.Edit.{Asked}
use Rattle.rules.specs.Altered.{altered_transcript, altered_length}
use Rattle.rules.specs.Record.{within, record_from, silent_within, silent_number}
use Rattle.rules.specs.Views.{asked, reference_of}
use Rattle.rules.proofs.Over.{fits_over, read_back}
use Rattle.rules.proofs.Altered.{AlteredLength, altered_length_lem, altered_letters}
use Rattle.reference.specs.declared.Known.{Known}
use Rattle.reference.specs.Known.{known_of}
use Rattle.reference.proofs.Checking.{sound, residues-is}
use Rattle.exceptions.proofs.Moving.{moves_of, given-of}
use Rattle.edits.specs.declared.plans.Plan.{Plan}
use Rattle.edits.specs.Plans.{plan_of}
use Rattle.transcript.specs.Carrying.{carried_by, Fits}
use Rattle.transcript.proofs.Bases.{bases_stay}
use Rattle.record.specs.Shares.{Shares}
use Rattle.transcript.proofs.Transcripts.{fits-of, carried_by_is}
use Rattle.altseq.specs.Carried.{protein_by, looked_by, report_by, Codes, Makes, Carries}

module _ (s : List ℕ) (k : Known) (e : Exceptions) (protein : List ℕ) (p : Plan) (new tx alt : List ℕ) (x : Carries s k e protein p new tx alt) where
  abbrev r : Reference
  r = reference_of s k.cds e

  abbrev a : Asked
  a = asked x.edit new

  lengths : AlteredLength r a
  lengths = altered_length_lem x.limits r a x.allowed

  length-is : p.length ≡ altered_length r a
  unfolding plan_of
  length-is = ap (λ (p : Plan). p.length) x.is

  carried-is : carried_by p s new ≡ altered_transcript r a
  carried-is = rw x.is (carried_by_is r a)

  carried-length : length (carried_by p s new) ≡ p.length
  carried-length = ap length carried-is ∙ lengths.is ∙ sym length-is

  pub plan-fits : Fits p s new (length tx)
  plan-fits = rw x.is (fits-of x.limits r a x.allowed (length tx) (omega (arith, length-is, x.for-transcript)))

  pub silent-some : 1 ≤ p.number
  unfolding plan_of silent_number silent_within within
  silent-some = omega (arith, ap (λ (p : Plan). p.number) x.is)

  -- the transcript is written
  module _ (n : ℕ) (tx' : List ℕ) (counted : n ≡ length (carried_by p s new)) (written : tx' ≡ over (carried_by p s new) tx) where
    pub transcript-fits : n ≤ length tx'
    transcript-fits = fits_over (carried_by p s new) tx tx' n counted written

    transcript-back : take n tx' ≡ carried_by p s new
    transcript-back = read_back (carried_by p s new) tx tx' n counted written

    codes : Codes s k e new (take n tx') alt
    unfolding known_of
    codes =
        rw transcript-back
        (record {
          sound = sound x.limits s k e protein x.known;
          given = given-of x.limits r a x.allowed e refl;
          moves = rw carried-is (moves_of x.limits r a x.allowed x.known.small);
          front = omega (arith, carried-length, length-is, lengths.front);
          letters = rw carried-is (altered_letters x.limits r a x.allowed);
          plain = λ h b. rw carried-is (bases_stay r a (sym (ap (λ (k : Known). k.plain) x.known.is) ∙ h) b);
          room = rw carried-length x.for-altered;
        })

    pub makes : Makes s k e protein p new (take n tx') alt
    makes =
        record {
          limits = x.limits;
          known = x.known;
          edit = x.edit;
          allowed = x.allowed;
          is = x.is;
          changes = x.changes;
          made = transcript-back ∙ carried-is;
          codes = codes;
        }

    -- A is written
    module _ (m : ℕ) (alt' : List ℕ) (read : m ≡ length (protein_by r p new)) (held : alt' ≡ over (protein_by r p new) alt) where
      pub altered-fits : m ≤ length alt'
      altered-fits = fits_over (protein_by r p new) alt alt' m read held

      altered-back : take m alt' ≡ protein_by r p new
      altered-back = read_back (protein_by r p new) alt alt' m read held

      pub shares : (ahead behind : ℕ) → Shares ahead behind protein (protein_by r p new) → Shares ahead behind protein (take m alt')
      shares ahead behind y = rw altered-back y

      pub reports : (found : Record) (looked : ℕ) → found ≡ record_from p.shift p.number protein (take m alt') → looked ≡ looked_by r p new
          → ◌≡◌ {A = Report} record { found = found; frameshift = p.shift; transcript = n; reference = k.residues; altered = m; codons = looked } (report_by r p new)
      unfolding report_by
      reports found looked made counted-codons =
          let told : found ≡ record_from p.shift p.number (reference_protein r) (protein_by r p new) = rw (x.known.read, altered-back) at made in
          rw (told, counted, read, counted-codons, residues-is x.limits s k e protein x.known)
