-- `cuts::insert_stop_seq_end` meets its contract. Assumes nothing.
use mathlib.Core.Path.{◌≡◌, ◌∙◌, sym, ap}
use Prim.Native.Nat.{ℕ, ◌+◌, ◌-◌}
use Rattle.std.specs.Prelude.{List}
use Rattle.rules.specs.declared.Form.{Form}
use native.Mathlib.Omega.{arith}
use lib.ListN.{drop, length-drop}
use Rattle.rules.specs.Altered.{part}
use Rattle.rules.specs.Packed.{letters_by}
use Rattle.rules.proofs.Parts.{length_part}
use Rattle.cuts.specs.Cuts.{cut_of}
use Rattle.cuts.specs.declared.Cut.{Cut}
use Rattle.cuts.proofs.Cuts.{part_behind, cuts_behind, cut_le, cut_short_lem, cut-at-once, cut_later}
use Rattle.cuts.proofs.insert_stop_seq_end.Goals as goal

-- the cut of the bases behind the first codon
rest-cut : (r : Cut) (form : Form) (table frame start end : ℕ) (letters : List ℕ) → r ≡ cut_of table 0 (part (start + (3 - frame)) end (letters_by form letters)) → r ≡ cut_of table 0 (drop (3 - frame) (part start end (letters_by form letters)))
rest-cut r form table frame start end letters e = e ∙ ap (cut_of table 0) (part_behind start end (3 - frame) (letters_by form letters))

pub returns-then-size-first : goal.returns-then-size-first
returns-then-size-first c =
    let a = c.args in
    let long = length_part a.start a.end (letters_by a.form a.letters.now) c.requires.in_letters.ends in
    rw long at (cut_short_lem a.table a.frame (part a.start a.end (letters_by a.form a.letters.now)) (omega arith) (omega (arith, long)))

pub returns-then-framed_codon-eq42 : goal.returns-then-framed_codon-eq42
returns-then-framed_codon-eq42 c =
    let a = c.args in
    let long = length_part a.start a.end (letters_by a.form a.letters.now) c.requires.in_letters.ends in
    cut-at-once a.table a.frame (part a.start a.end (letters_by a.form a.letters.now)) (omega arith) c.requires.frame_bound (omega (arith, long, c.requires.frame_bound)) (sym c.framed_codon.ensures ∙ c.if-framed_codon-eq42.true)

pub cut_in_frame-cut-requires : goal.cut_in_frame-cut-requires
cut_in_frame-cut-requires c =
    let a = c.args in
    record { in_letters = record { letters = c.requires.in_letters.letters; rising = omega (arith, c.requires.in_letters.rising); ends = c.requires.in_letters.ends }; cuts = cuts_behind a.table a.start a.end (3 - a.frame) a.plain (letters_by a.form a.letters.now) c.requires.cuts }

pub overflow_add-result : goal.overflow_add-result
overflow_add-result c =
    let a = c.args in
    let rest = drop (3 - a.frame) (part a.start a.end (letters_by a.form a.letters.now)) in
    let long = length_part a.start a.end (letters_by a.form a.letters.now) c.requires.in_letters.ends in
    omega (arith, ap (λ (x : Cut). x.kept) (rest-cut _ a.form a.table a.frame a.start a.end a.letters.now c.cut_in_frame-cut.ensures), cut_le a.table 0 rest, length-drop (3 - a.frame) (part a.start a.end (letters_by a.form a.letters.now)), long)

pub returns : goal.returns
returns c =
    let a = c.args in
    let long = length_part a.start a.end (letters_by a.form a.letters.now) c.requires.in_letters.ends in
    cut_later a.table a.frame (part a.start a.end (letters_by a.form a.letters.now)) (omega arith) c.requires.frame_bound (omega (arith, long, c.requires.frame_bound))
    (λ e. c.if-framed_codon-eq42.false (c.framed_codon.ensures ∙ e))
    c.cut_in_frame-cut.result
    (rest-cut _ a.form a.table a.frame a.start a.end a.letters.now c.cut_in_frame-cut.ensures)
