-- Laws of the transcript that a plan makes: what goes in, by its source, and its length.
-- Assumes nothing.
use mathlib.Core.Path.{◌≡◌, sym, ap, ◌∙◌}
use mathlib.Core.List.{List}
use Prim.Native.Nat.{ℕ, ◌+◌, ◌-◌, ◌≤◌}
use native.Mathlib.Omega.{arith}
use lib.ListN.{length, take, drop}
use lib.Seq.{length-take-le}
use Rattle.rules.specs.Complement.{reverse_complement}
use Rattle.rules.specs.Reference.{Reference, size}
use Rattle.rules.specs.Edit.{Asked}
use Rattle.rules.specs.Altered.{part, carried, altered_transcript, altered_length}
use Rattle.rules.specs.declared.Limits.{Limits}
use Rattle.rules.specs.Refusal.{refusal}
use Rattle.rules.proofs.Over.{tail-is}
use Rattle.rules.proofs.Complement.{length-complement}
use Rattle.rules.proofs.Parts.{length_part, take_part, take-complement}
use Rattle.rules.proofs.Refusing.{reference-accepted}
use Rattle.rules.proofs.Span.{indexes, span}
use Rattle.rules.proofs.Altered.{length-carried, altered_length_lem}
use Rattle.edits.specs.declared.plans.Plan.{Plan}
use Rattle.edits.specs.declared.plans.Source.TheVariants.{New, Copy, Turned}
use Rattle.edits.specs.Plans.{plan_of, source_bytes, goes_in}
use Rattle.edits.proofs.Planning.{kept_fits, transcript_is}
use Rattle.transcript.specs.Carrying.{carried_by, Sourced, Fits}

-- the letters before a place, and those behind it
pub front_part : (n : ℕ) (s : List ℕ) → part 0 n s ≡ take n s
unfolding part
front_part n s = let all : n - 0 ≡ n = omega arith in rw all

pub tail_part : (n size : ℕ) (s : List ℕ) → size ≡ length s → part n size s ≡ drop n s
unfolding part
tail_part n size s h = rw h (tail-is n s)

module _ (p : Plan) (letters new : List ℕ) (i : Sourced p letters new) where
  pub length-goes-in : length (goes_in p letters new) ≡ p.kept
  unfolding goes_in
  length-goes-in = length-take-le p.kept (source_bytes p.source p.start p.end letters new) i.kept

  -- new bases
  pub new-fits : p.source ≡ New → p.kept ≤ length new
  unfolding source_bytes
  new-fits e = rw e at i.kept

  pub new-goes-in : p.source ≡ New → take p.kept new ≡ goes_in p letters new
  unfolding goes_in source_bytes
  new-goes-in e = rw e

  -- a copy
  pub copy-fits : p.source ≡ Copy → p.start + p.kept ≤ p.end
  unfolding source_bytes
  copy-fits e = omega (arith, rw e at i.kept, i.rising, length_part p.start p.end letters i.ends)

  pub copy-goes-in : p.source ≡ Copy → part p.start (p.start + p.kept) letters ≡ goes_in p letters new
  unfolding goes_in source_bytes
  copy-goes-in e = rw e (sym (take_part p.kept p.start p.end letters (copy-fits e)))

  -- a reverse complement
  pub turned-fits : p.source ≡ Turned → p.start + p.kept ≤ p.end
  unfolding source_bytes
  turned-fits e =
      omega (arith, rw e at i.kept, i.rising, length-complement (part p.start p.end letters), length_part p.start p.end letters i.ends)

  pub turned-goes-in : p.source ≡ Turned → reverse_complement (part (p.end - p.kept) p.end letters) ≡ goes_in p letters new
  unfolding goes_in source_bytes
  turned-goes-in e = rw e (sym (take-complement p.kept p.start p.end letters (turned-fits e) i.ends))

pub length-carried_by : (p : Plan) (letters new : List ℕ) (room : ℕ) → Fits p letters new room
    → length (carried_by p letters new) ≡ p.from + (p.kept + (length letters - p.to))
unfolding carried_by
length-carried_by p letters new room f =
    length-carried (record { from = p.from; to = p.to; put = goes_in p letters new }) letters f.rising f.ends
    ∙ ap (λ (n : ℕ). p.from + (n + (length letters - p.to))) (length-goes-in p letters new f.source)

-- what a caller has of an edit that isn't refused
module _ (m : Limits) (r : Reference) (e : Asked) (ok : refusal m r e ≡ 0) where
  pub sourced-of : Sourced (plan_of r e) r.letters e.new
  unfolding plan_of size
  sourced-of =
      let i = indexes m r e ok in
      record {
        letters-are = (reference-accepted m r e ok).letters;
        rising = omega (arith, i.rising);
        ends = i.ends;
        kept = kept_fits r e;
      }

  pub fits-of : (room : ℕ) → altered_length r e ≤ room → Fits (plan_of r e) r.letters e.new room
  unfolding plan_of size
  fits-of room h =
      let w = span m r e ok in
      record {
        source = sourced-of;
        rising = w.rising;
        ends = w.ends;
        written = omega (arith, (altered_length_lem m r e ok).parts);
      }

pub carried_by_is : (r : Reference) (e : Asked) → carried_by (plan_of r e) r.letters e.new ≡ altered_transcript r e
unfolding carried_by carried
carried_by_is r e = sym (transcript_is r e)
