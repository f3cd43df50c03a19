-- Laws of a first line's answer: what the check of a reference prints and leaves, and which lines are in the form.
-- Assumes nothing.
use Rattle.std.specs.Prelude.{if◌then◌else◌, None, Some}
use Rattle.std.specs.Prelude.{Option as Returned}
use mathlib.Core.Path.{◌≡◌, refl, sym, ap, ◌∙◌}
use mathlib.Core.Bool.{true, false}
use mathlib.Core.List.{List, [], ◌∷◌, ◌++◌}
use mathlib.Core.Option.{Option, none, some}
use Prim.Native.Nat.{ℕ, zero, suc, ◌-◌, ◌≤◌, ◌<◌}
use native.Mathlib.Omega.{arith}
use lib.ListN.{length, take, drop}
use Rattle.rules.specs.declared.Exceptions.{Exceptions}
use Rattle.rules.specs.Bytes.{bytes, given, refused, over}
use Rattle.rules.specs.Translation.{no_exceptions, exception_list}
use Rattle.rules.specs.Reference.{Reference, size, reference_protein}
use Rattle.rules.specs.Refusal.{reference_refusal}
use Rattle.rules.specs.Line.{text_limits, reference_line, fits_line}
use Rattle.rules.specs.Run.{refused_line, answers_from, answers_of, answers, line_feed, unlines}
use Rattle.rules.proofs.Over.{copied, fits_over, read_back, tail-is}
use Rattle.rules.proofs.Reference.{accepted as passed}
use Rattle.rules.specs.declared.Form.TheVariants.{Bytes}
use Rattle.rules.specs.declared.Cds.{Cds}
use Rattle.rules.specs.Views.{bare, reference_of}
use Rattle.reference.specs.declared.Known.{Known}
use Rattle.reference.specs.Known.{protein_unless, checked_of, known_of, Knows}
use Rattle.reference.proofs.Checking.{checked_refused, checked-accepted, nothing_read, protein_held, cds-known, form-known, residues-within, knows}
use Rattle.text_forms.specs.declared.line.ReferenceLine.{ReferenceLine}
use Rattle.text_forms.specs.Views.{reference_line_in}
use Rattle.text_answers.specs.declared.Phase.{Phase}
use Rattle.text_answers.specs.declared.Phase.TheVariants.{Editing, Ended}
use Rattle.text_answers.specs.Rooms.{letters_room, first_room}
use Rattle.text_answers.specs.Stage.{Stage, opening, editing, ended, accepted_by, accepted, behind_first, next_line, answered}
use Rattle.text_answers.specs.Lines.{Opens}
use Rattle.text_answers.proofs.Asking.{protein-short}

-- a refused first line: n bytes of its answer over a buffer
pub opens_ended : (a k : List ℕ) (x : Stage) (p : Phase) (n : ℕ) (letters protein protein' text text' : List ℕ) → a ≡ k → x ≡ ended → p ≡ Ended → protein' ≡ protein → n ≡ length k → text' ≡ over k text
    → Opens a x p n letters letters protein protein' text text'
unfolding over
opens_ended a k x p n letters protein protein' text text' is ends done same e q =
    rw (is, ends, done, same) (record { counts = e; prints = q; reaches = refl; known = tt; keeps-letters = refl; keeps-protein = refl })

refused_answers : (r : Reference) (n : ℕ) → (n ≡ 0 → ⊥) → answers_from n r [] ≡ refused_line n ∷ []
unfolding answers_from
refused_answers r zero h = absurd (h refl)
refused_answers r (suc n) h = refl

refused_ends : (r : Reference) (n : ℕ) → (n ≡ 0 → ⊥) → accepted_by n r ≡ none
unfolding accepted_by
refused_ends r zero h = absurd (h refl)
refused_ends r (suc n) h = refl

-- a reference without exceptions, checked
module _ (x₀ : Exceptions) (are : x₀ ≡ no_exceptions) (s : List ℕ) (c : Cds) where
  abbrev given-answer : List ℕ
  given-answer = unlines (answers_of (some (bare s c)) [])

  abbrev given-next : Stage
  given-next = behind_first (accepted (some (bare s c)))

  none-given : checked_of letters_room Bytes s c x₀ ≡ checked_of letters_room Bytes s c no_exceptions
  none-given = ap (checked_of letters_room Bytes s c) are

  pub opens-refused : (n : ℕ) (p : Phase) (m : ℕ) → refused n ≡ checked_of letters_room Bytes s c x₀ → (letters protein protein' text text' : List ℕ) → protein' ≡ over (protein_unless (reference_refusal letters_room (reference_of s c x₀)) (reference_of s c x₀)) protein → p ≡ Ended → m ≡ length (refused_line n ++ (line_feed ∷ [])) → text' ≡ over (refused_line n ++ (line_feed ∷ [])) text
      → Opens given-answer given-next p m letters letters protein protein' text text'
  unfolding exception_list answers_of unlines accepted behind_first
  opens-refused n p m h letters protein protein' text text' read done e q =
      let why = checked_refused letters_room Bytes s c no_exceptions n (h ∙ none-given) in
      let same : protein' ≡ protein = read ∙ ap (λ (x₀ : Exceptions). over (protein_unless (reference_refusal letters_room (reference_of s c x₀)) (reference_of s c x₀)) protein) are ∙ sym (nothing_read letters_room Bytes s c no_exceptions n why.0 why.1 protein) in
      opens_ended given-answer (refused_line n ++ (line_feed ∷ [])) given-next p m letters protein protein' text text'
      (rw (why.0, refused_answers (bare s c) n why.1)) (rw (why.0, refused_ends (bare s c) n why.1)) done same e q

  module _ (k : Known) (h : given k ≡ checked_of letters_room Bytes s c x₀) where
    taken : (reference_refusal letters_room (reference_of s c no_exceptions) ≡ 0) × (k ≡ known_of Bytes s c no_exceptions)
    taken = checked-accepted letters_room Bytes s c no_exceptions k (h ∙ none-given)

    pub letters-fit : length s ≤ letters_room
    unfolding size
    letters-fit = (passed letters_room (reference_of s c no_exceptions) taken.0).fits

    module _ (old protein : List ℕ) (q : protein ≡ over (protein_unless (reference_refusal letters_room (reference_of s c x₀)) (reference_of s c x₀)) old) where
      held : protein ≡ over (reference_protein (reference_of s c no_exceptions)) old
      held =
          protein_held letters_room s c no_exceptions old protein taken.0
          (q ∙ ap (λ (x₀ : Exceptions). over (protein_unless (reference_refusal letters_room (reference_of s c x₀)) (reference_of s c x₀)) old) are)

      pub protein-fits : k.residues ≤ length protein
      protein-fits = residues-within text_limits Bytes s c no_exceptions k taken.0 taken.1 old protein held

      known-here : Knows text_limits s k no_exceptions (take k.residues protein)
      known-here = knows text_limits Bytes s c no_exceptions k taken.0 taken.1 old protein held (omega arith)

      pub reference-room : (n : ℕ) → n ≡ first_room → length (bytes "reference " ++ take k.residues protein) < n
      reference-room n e = omega (arith, (protein-short s k (take k.residues protein) known-here).1)

      pub opens-known : (n m : ℕ) (letters letters' text text' : List ℕ) → n ≡ length s → letters' ≡ take (length s) s ++ drop (length s) letters
          → m ≡ length (bytes "reference " ++ take k.residues protein ++ (line_feed ∷ [])) → text' ≡ over (bytes "reference " ++ take k.residues protein ++ (line_feed ∷ [])) text
          → Opens given-answer given-next (Editing k n) m letters letters' old protein text text'
      unfolding exception_list answers_of answers_from unlines accepted accepted_by behind_first
      opens-known n m letters letters' text text' e copy e₂ q₂ =
          let cds = cds-known text_limits Bytes s c no_exceptions k taken.0 taken.1 in
          let there : letters' ≡ over s letters = copy ∙ copied s letters in
          let back : take n letters' ≡ s = read_back s letters letters' n e there in
          let same : take k.residues protein ≡ reference_protein (bare s c) = known-here.read ∙ rw cds in
          let said : given-answer ≡ bytes "reference " ++ take k.residues protein ++ (line_feed ∷ []) = rw (taken.0, ← same) in
          let next : given-next ≡ editing (bare s c) [] = rw taken.0 in
          rw (said, next)
          (record {
            counts = e₂;
            prints = q₂;
            reaches = rw (back, cds);
            known = rw back (fits_over s letters letters' n e there, protein-fits, record { form = form-known text_limits Bytes s c no_exceptions k taken.0 taken.1; known = known-here });
            keeps-letters = there;
            keeps-protein = held;
          })

-- the forms of a first line
module _ (line : List ℕ) where
  abbrev form : Option Reference
  form = if fits_line line then reference_line line else none

  formless : form ≡ none → (answered (opening line) ≡ refused_line 30 ++ (line_feed ∷ [])) × (next_line (opening line) ≡ ended)
  unfolding answered answers answers_of unlines next_line accepted behind_first
  formless h = (rw h, rw h)

  pub first-long : fits_line line ≡ false → (answered (opening line) ≡ refused_line 30 ++ (line_feed ∷ [])) × (next_line (opening line) ≡ ended)
  first-long h = formless (rw h)

  module _ (h : fits_line line ≡ true) (x : Returned ReferenceLine) (is : reference_line_in line x ≡ reference_line line) where
    pub first-formless : x ≡ None → (answered (opening line) ≡ refused_line 30 ++ (line_feed ∷ [])) × (next_line (opening line) ≡ ended)
    first-formless q = formless (rw (h, ← is, q))

    -- a reference, whose letters are the rest of the line
    pub opens-given : (g : ReferenceLine) → x ≡ Some g → (p : Phase) (n : ℕ) (letters letters' protein protein' text text' : List ℕ)
        → Opens (unlines (answers_of (some (bare (take (length line - g.at) (drop g.at line)) g.cds)) [])) (behind_first (accepted (some (bare (take (length line - g.at) (drop g.at line)) g.cds)))) p n letters letters' protein protein' text text'
        → Opens (answered (opening line)) (next_line (opening line)) p n letters letters' protein protein' text text'
    unfolding answered answers next_line
    opens-given g q p n letters letters' protein protein' text text' opens =
        let read : form ≡ some (bare (take (length line - g.at) (drop g.at line)) g.cds) = rw (h, ← is, q, tail-is g.at line) in
        rw read opens
