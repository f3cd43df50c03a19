-- Laws of the parsers' answers: the promise of `parse_edit`, and that of `parse_reference`, admits one answer.
-- Assumes nothing.
use Rattle.std.specs.Prelude.{None, Some}
use Rattle.std.specs.Prelude.{Option as Returned}
use mathlib.Core.Path.{◌≡◌, refl, sym, ap, ◌∙◌}
use mathlib.Core.List.{List}
use mathlib.Core.Option.{none, some}
use Prim.Native.Nat.{ℕ, ◌≤◌}
use native.Mathlib.Omega.{arith}
use lib.ListN.{length, drop, length-drop}
use Rattle.rules.specs.Reference.{Reference}
use Rattle.rules.specs.Edit.{Asked}
use Rattle.rules.specs.Line.{edit_line, reference_line}
use Rattle.rules.specs.Views.{cds_of}
use Rattle.text_forms.specs.declared.line.EditLine.{EditLine}
use Rattle.text_forms.specs.declared.line.ReferenceLine.{ReferenceLine}
use Rattle.text_forms.specs.Views.{edit_line_in, bases_at, reference_line_in, letters_at}

-- a place within the line is told by what stands behind it
place_once : (line : List ℕ) (a b : ℕ) → a ≤ length line → b ≤ length line → drop a line ≡ drop b line → a ≡ b
place_once line a b h k e =
    let same : length (drop a line) ≡ length (drop b line) = ap (λ (s : List ℕ). length s) e in
    omega (arith, length-drop a line, length-drop b line)

never : {A : Type 0} (x : A) → none ≡ some x → ⊥
never x e = let z : ◌≡◌ {A = ℕ} 0 1 = cc in omega arith

held : {A : Type 0} (x y : A) → some x ≡ some y → x ≡ y
held x y e = cc

asked_once : (line : List ℕ) (r t : Returned EditLine) → edit_line_in line r ≡ edit_line_in line t → bases_at r ≤ length line → bases_at t ≤ length line → r ≡ t
asked_once line None None e h k = refl
asked_once line None (Some y) e h k = absurd (never _ e)
asked_once line (Some x) None e h k = absurd (never _ (sym e))
asked_once line (Some x) (Some y) e h k =
    let z = held _ _ e in
    rw (ap (λ (q : Asked). q.edit) z, place_once line x.at y.at h k (ap (λ (q : Asked). q.new) z))

-- two answers that meet the promise are equal
pub edit_once : (line : List ℕ) (r t : Returned EditLine) → edit_line_in line r ≡ edit_line line → bases_at r ≤ length line → edit_line_in line t ≡ edit_line line → bases_at t ≤ length line → r ≡ t
edit_once line r t e h f k = asked_once line r t (e ∙ sym f) h k

given_once : (line : List ℕ) (r t : Returned ReferenceLine) → reference_line_in line r ≡ reference_line_in line t → letters_at r ≤ length line → letters_at t ≤ length line → r ≡ t
given_once line None None e h k = refl
given_once line None (Some y) e h k = absurd (never _ e)
given_once line (Some x) None e h k = absurd (never _ (sym e))
given_once line (Some x) (Some y) e h k =
    let z = held _ _ e in
    rw (ap (λ (q : Reference). cds_of q.cs q.ce q.table q.end) z, place_once line x.at y.at h k (ap (λ (q : Reference). q.letters) z))

pub reference_once : (line : List ℕ) (r t : Returned ReferenceLine) → reference_line_in line r ≡ reference_line line → letters_at r ≤ length line → reference_line_in line t ≡ reference_line line → letters_at t ≤ length line → r ≡ t
reference_once line r t e h f k = given_once line r t (e ∙ sym f) h k
