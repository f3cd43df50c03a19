-- The promises of `answer_edit` and of `answer_first` admit one answer.
-- Assumes nothing.
use mathlib.Core.Path.{◌≡◌, refl, sym, ap, ◌∙◌}
use mathlib.Core.List.{List, []}
use Prim.Native.Nat.{ℕ}
use native.Mathlib.Omega.{arith}
use lib.ListN.{length, take}
use lib.Seq.{length-take-le}
use Rattle.rules.specs.Reference.{Reference}
use Rattle.rules.specs.Views.{bare, cds_of}
use Rattle.text_answers.specs.declared.Phase.{Phase}
use Rattle.text_answers.specs.declared.Phase.TheVariants.{Opening, Editing, Ended}
use Rattle.text_answers.specs.Stage.{Stage}
use Rattle.text_answers.specs.Lines.{Line, stage_by, KnownIn, Opens}

-- an edit line's answer has one length
pub line_once : (m n : ℕ) (text text' l : List ℕ) → Line m text l → Line n text' l → m ≡ n
line_once m n text text' l a b =
    sym (length-take-le m text a.fits) ∙ ap length (a.holds ∙ sym b.holds) ∙ length-take-le n text' b.fits

never : {A : Type 0} → ◌≡◌ {A = ℕ} 0 1 → A
never z = absurd (omega arith)

-- one stage, and one reference known in the buffers, tell the phase
phase_once : (p q : Phase) (letters protein : List ℕ) → stage_by p [] letters ≡ stage_by q [] letters → KnownIn p letters protein → KnownIn q letters protein → p ≡ q
phase_once Opening Opening letters protein e a b = refl
phase_once Opening (Editing k n) letters protein e a b = never (cc)
phase_once Opening Ended letters protein e a b = never (cc)
phase_once (Editing k n) Opening letters protein e a b = never (cc)
phase_once (Editing k n) Ended letters protein e a b = never (cc)
phase_once Ended Opening letters protein e a b = never (cc)
phase_once Ended (Editing k n) letters protein e a b = never (cc)
phase_once Ended Ended letters protein e a b = refl
phase_once (Editing k m) (Editing l n) letters protein e a b =
    let same : bare (take m letters) k.cds ≡ bare (take n letters) l.cds = cc in
    let bytes : take m letters ≡ take n letters = ap (λ (r : Reference). r.letters) same in
    let cds : k.cds ≡ l.cds = ap (λ (r : Reference). cds_of r.cs r.ce r.table r.end) same in
    let size : m ≡ n = sym (length-take-le m letters a.0) ∙ ap length bytes ∙ length-take-le n letters b.0 in
    let form : k.form ≡ l.form = a.2.form ∙ sym b.2.form in
    let known : k ≡ l = a.2.known.is ∙ rw (form, bytes, cds) (sym b.2.known.is) in
    rw (known, size)

-- two answers that meet the promise are the same, and so is every byte that they leave
pub record Alike (p q : Phase) (m n : ℕ) (letters₁ letters₂ protein₁ protein₂ text₁ text₂ : List ℕ) : Type 0 where
  pub phase : p ≡ q
  pub size : m ≡ n
  pub letters : letters₁ ≡ letters₂
  pub protein : protein₁ ≡ protein₂
  pub text : text₁ ≡ text₂

pub first_once : (a : List ℕ) (x : Stage) (p q : Phase) (m n : ℕ) (letters letters₁ letters₂ protein protein₁ protein₂ text text₁ text₂ : List ℕ) → Opens a x p m letters letters₁ protein protein₁ text text₁
    → Opens a x q n letters letters₂ protein protein₂ text text₂ → Alike p q m n letters₁ letters₂ protein₁ protein₂ text₁ text₂
first_once a x p q m n letters letters₁ letters₂ protein protein₁ protein₂ text text₁ text₂ h k =
    let same : letters₁ ≡ letters₂ = h.keeps-letters ∙ sym k.keeps-letters in
    let held : protein₁ ≡ protein₂ = h.keeps-protein ∙ sym k.keeps-protein in
    record {
      phase = phase_once p q letters₂ protein₂ (rw same at h.reaches ∙ sym k.reaches) (rw (same, held) at h.known) k.known;
      size = h.counts ∙ sym k.counts;
      letters = same;
      protein = held;
      text = h.prints ∙ sym k.prints;
    }
