-- `pairs::carry::write_both` meets its contract. Assumes nothing.
use mathlib.Core.Path.{sym, ap, ◌∙◌}
use mathlib.Core.List.{List}
use Prim.Native.Nat.{ℕ}
use lib.ListN.{length}
use Rattle.rules.specs.Bytes.{over}
use Rattle.rules.specs.Packed.{letters_by}
use Rattle.pairs.proofs.Rows.{both-ahead, both_behind}
use Rattle.pairs.proofs.carry.write_both.Goals as goal

pub returns-then-first-second : goal.returns-then-first-second
returns-then-first-second c =
    let a = c.args in
    let one = c.write_parts in
    let is = both-ahead a.first a.second (letters_by a.form a.letters.now) a.new.now a.other.now 0 c.if-first-second.true in
    record { value = one.ensures.value ∙ sym (ap length is); transcript_after = one.ensures.transcript_after ∙ sym (ap (λ (l : List ℕ). over l a.transcript.now) is) }

pub returns : goal.returns
returns c =
    let a = c.args in
    let one = c.write_parts-2 in
    let is = both_behind a.first a.second (letters_by a.form a.letters.now) a.new.now a.other.now 0 c.if-first-second.false in
    record { value = one.ensures.value ∙ sym (ap length is); transcript_after = one.ensures.transcript_after ∙ sym (ap (λ (l : List ℕ). over l a.transcript.now) is) }
