-- Laws of a letter of the altered transcript, by where it stands.
-- Assumes nothing.
use mathlib.Core.Path.{◌≡◌, sym, ap, ◌∙◌}
use mathlib.Core.Bool.{true}
use mathlib.Core.List.{List, ◌++◌}
use Prim.Native.Nat.{ℕ, zero, suc, ◌+◌, ◌-◌, ◌≤◌, ◌<◌}
use native.Mathlib.Omega.{arith}
use lib.ListN.{length, take, drop, get_or, length-drop, get_or-append}
use lib.Seq.{length-take-le, get_or-take, get_or-drop, get_or-append-add}
use Rattle.rules.specs.Bytes.{all}
use Rattle.rules.specs.Letters.{letter_set, is_letter}
use Rattle.rules.specs.Complement.{complement, reverse_complement}
use Rattle.rules.specs.Reference.{Reference, size}
use Rattle.rules.specs.Edit.{Asked}
use Rattle.rules.specs.Altered.{part, carried}
use Rattle.rules.specs.declared.Limits.{Limits}
use Rattle.rules.specs.Refusal.{refusal}
use Rattle.rules.proofs.Tests.{all_take, all_drop, all_both}
use Rattle.rules.proofs.Lists.{all_at}
use Rattle.rules.proofs.Complement.{complement-last, letters-complement}
use Rattle.rules.proofs.Parts.{letters-part}
use Rattle.rules.proofs.Refusing.{reference-accepted}
use Rattle.rules.proofs.Span.{span}
use Rattle.rules.proofs.Altered.{altered_length_lem, longest_altered, altered-fits}
use Rattle.letters.proofs.Sets.{letter_some}
use Rattle.edits.specs.declared.plans.Plan.{Plan}
use Rattle.edits.specs.declared.plans.Source.{Source}
use Rattle.edits.specs.declared.plans.Source.TheVariants.{New, Copy, Turned}
use Rattle.edits.specs.Plans.{plan_of, source_bytes, goes_in}
use Rattle.transcript.specs.Carrying.{Sourced, carried_by}
use Rattle.transcript.proofs.Transcripts.{length-goes-in, length-carried_by, copy-fits, turned-fits, sourced-of, carried_by_is}
use Rattle.altered.specs.Over.{Makes}

-- a letter of a reverse complement is that of the letter as far from the end
pub complement_at : (s : List ℕ) (m i : ℕ) → m ≤ length s → i < m → get_or (reverse_complement (take m s)) i 0 ≡ complement (get_or s (m - 1 - i) 0)
complement_at s zero i h k = absurd (omega arith)
complement_at s (suc m) zero h k =
    let last : m ≡ suc m - 1 - 0 = omega arith in
    rw (complement-last s m (omega arith)) (ap (λ (n : ℕ). complement (get_or s n 0)) last)
complement_at s (suc m) (suc i) h k =
    let next : m - 1 - i ≡ suc m - 1 - suc i = omega arith in
    rw (complement-last s m (omega arith)) (complement_at s m i (omega arith) (omega arith) ∙ ap (λ (n : ℕ). complement (get_or s n 0)) next)

-- what goes in, by its source
module _ (p : Plan) (letters new : List ℕ) (x : Sourced p letters new) (i : ℕ) (h : i < p.kept) where
  pub new-at : p.source ≡ New → get_or new i 0 ≡ get_or (goes_in p letters new) i 0
  unfolding goes_in source_bytes
  new-at e = rw (get_or-take p.kept (source_bytes p.source p.start p.end letters new) i 0 h, e)

  pub copy_at : p.source ≡ Copy → get_or letters (p.start + i) 0 ≡ get_or (goes_in p letters new) i 0
  unfolding goes_in source_bytes part
  copy_at e =
      rw (get_or-take p.kept (source_bytes p.source p.start p.end letters new) i 0 h, e)
      (sym (get_or-take (p.end - p.start) (drop p.start letters) i 0 (omega (arith, copy-fits p letters new x e)) ∙ get_or-drop p.start letters i 0))

  pub turned-at : p.source ≡ Turned → complement (get_or letters (p.end - 1 - i) 0) ≡ get_or (goes_in p letters new) i 0
  unfolding goes_in source_bytes part
  turned-at e =
      let n : ℕ = p.end - p.start in
      let fits = turned-fits p letters new x e in
      let long = length-drop p.start letters in
      let place : p.start + (n - 1 - i) ≡ p.end - 1 - i = omega arith in
      rw (get_or-take p.kept (source_bytes p.source p.start p.end letters new) i 0 h, e)
      (sym (complement_at (drop p.start letters) n i (omega (arith, x.ends)) (omega arith)
      ∙ ap complement (get_or-drop p.start letters (n - 1 - i) 0 ∙ ap (λ (k : ℕ). get_or letters k 0) place)))

-- what goes in has letters only
source_letters : (x : Source) (start end : ℕ) (letters new : List ℕ) → all is_letter letters ≡ true → all is_letter new ≡ true → all is_letter (source_bytes x start end letters new) ≡ true
unfolding source_bytes
source_letters New start end letters new h k = k
source_letters Copy start end letters new h k = letters-part start end letters h
source_letters Turned start end letters new h k = letters-complement (part start end letters) (letters-part start end letters h)

-- the altered transcript
module _ (p : Plan) (letters new : List ℕ) (m : Makes p letters new) where
  pub length-made : length (carried_by p letters new) ≡ p.from + (p.kept + (length letters - p.to))
  length-made =
      length-carried_by p letters new (p.from + (p.kept + (length letters - p.to)))
      (record { source = m.source; rising = m.rising; ends = m.ends; written = omega arith })

  long : length (take p.from letters) ≡ p.from
  long = length-take-le p.from letters (omega (arith, m.rising, m.ends))

  -- before the edit
  pub before_at : (i : ℕ) → i < p.from → get_or letters i 0 ≡ get_or (carried_by p letters new) i 0
  unfolding carried_by carried
  before_at i h =
      sym (get_or-append (take p.from letters) (goes_in p letters new ++ drop p.to letters) 0 i (omega (arith, long)) ∙ get_or-take p.from letters i 0 h)

  -- what goes in
  pub inside-at : (i : ℕ) → p.from ≤ i → i - p.from < p.kept → get_or (goes_in p letters new) (i - p.from) 0 ≡ get_or (carried_by p letters new) i 0
  unfolding carried_by carried
  inside-at i h k =
      let n : ℕ = i - p.from in
      let place : i ≡ length (take p.from letters) + n = omega (arith, long) in
      sym (ap (λ (j : ℕ). get_or (carried_by p letters new) j 0) place
      ∙ get_or-append-add (take p.from letters) (goes_in p letters new ++ drop p.to letters) n 0
      ∙ get_or-append (goes_in p letters new) (drop p.to letters) 0 n (omega (arith, length-goes-in p letters new m.source)))

  -- behind the edit
  pub behind-at : (i : ℕ) → p.from ≤ i → p.kept ≤ i - p.from → get_or letters (i - p.from - p.kept + p.to) 0 ≡ get_or (carried_by p letters new) i 0
  unfolding carried_by carried
  behind-at i h k =
      let n : ℕ = i - p.from - p.kept in
      let put = length-goes-in p letters new m.source in
      let place : i ≡ length (take p.from letters) + (length (goes_in p letters new) + n) = omega (arith, long) in
      let old : p.to + n ≡ n + p.to = omega arith in
      sym (ap (λ (j : ℕ). get_or (carried_by p letters new) j 0) place
      ∙ get_or-append-add (take p.from letters) (goes_in p letters new ++ drop p.to letters) (length (goes_in p letters new) + n) 0
      ∙ get_or-append-add (goes_in p letters new) (drop p.to letters) n 0 ∙ get_or-drop p.to letters n 0 ∙ ap (λ (j : ℕ). get_or letters j 0) old)

  pub letters-made : all is_letter (carried_by p letters new) ≡ true
  unfolding carried_by carried goes_in
  letters-made =
      let old = m.source.letters-are in
      let put = source_letters p.source p.start p.end letters new old m.new-letters in
      all_both is_letter (take p.from letters) (goes_in p letters new ++ drop p.to letters) (all_take is_letter p.from letters old)
      (all_both is_letter (goes_in p letters new) (drop p.to letters)
      (all_take is_letter p.kept (source_bytes p.source p.start p.end letters new) put) (all_drop is_letter p.to letters old))

  -- a letter's set
  pub some-set : (i : ℕ) → i < length (carried_by p letters new) → 0 < letter_set (get_or (carried_by p letters new) i 0)
  some-set i h = letter_some (get_or (carried_by p letters new) i 0) (all_at is_letter (carried_by p letters new) i letters-made h)

-- what a caller has of an edit that isn't refused, whose new bases are letters
pub makes_of : (m : Limits) (r : Reference) (e : Asked) → refusal m r e ≡ 0 → longest_altered m < 4294967296 → all is_letter e.new ≡ true
    → Makes (plan_of r e) r.letters e.new
unfolding plan_of size
makes_of m r e ok short new =
    let w = span m r e ok in
    record {
      source = sourced-of m r e ok;
      rising = w.rising;
      ends = w.ends;
      old-short = omega (arith, (reference-accepted m r e ok).fits);
      new-short = rw (carried_by_is r e) (omega (arith, (altered_length_lem m r e ok).is, altered-fits m r e ok));
      new-letters = new;
    }
