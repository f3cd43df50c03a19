-- `packed::forms::same_by` meets its contract. Assumes nothing.
use mathlib.Core.Path.{◌≡◌, sym, ap, ◌∙◌}
use Prim.Native.Nat.{ℕ}
use lib.Dec.{eqb}
use lib.ListN.{length}
use Rattle.rules.specs.Altered.{part}
use Rattle.rules.specs.Packed.{letters_by}
use Rattle.rules.specs.Trims.{common_prefix}
use Rattle.rules.proofs.Parts.{length_part}
use Rattle.rules.proofs.Trims.{same_lengths, same_equal}
use Rattle.packed.proofs.forms.same_by.Goals as goal

pub returns-then-to-from : goal.returns-then-to-from
returns-then-to-from c = let a = c.args in
    let s = part a.from a.to (letters_by a.form a.letters.now) in
    let long = length_part a.from a.to (letters_by a.form a.letters.now) c.requires.ends in
    sym (same_lengths s a.new.now (λ (h : length s ≡ length a.new.now). c.if-to-from.true (sym long ∙ h)))

pub returns : goal.returns
returns c = let a = c.args in
    let s = part a.from a.to (letters_by a.form a.letters.now) in
    let long = length_part a.from a.to (letters_by a.form a.letters.now) c.requires.ends in
    let even = long ∙ c.if-to-from.false in
    ap (λ (n : ℕ). eqb n (length a.new.now)) c.prefix_by.ensures
    ∙ ap (eqb (common_prefix s a.new.now)) (sym even)
    ∙ sym (same_equal s a.new.now even)
