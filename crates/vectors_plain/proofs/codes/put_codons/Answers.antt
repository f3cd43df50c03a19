-- The invariant: the letters put, with those to come, are all. Assumes nothing.
use mathlib.Core.Path.{sym, ap, ◌∙◌}
use mathlib.Core.List.{List, ◌∷◌}
use Prim.Native.Nat.{ℕ, ◌-◌, ◌+◌}
use native.Mathlib.Omega.{arith}
use borrow.Author.Rules.{rules}
use lib.ListN.{get_or, length-set}
use Rattle.rules.proofs.Over.{over_from, from_end, from_turn}
use Rattle.vectors_plain.specs.Rows.{fifteen, letter_at, letters_from}
use Rattle.vectors_plain.proofs.Rows.{letters_more, letters_none, over-letters}
use Rattle.vectors_plain.proofs.codes.put_codons.Goals as goal

pub loop-j-init : goal.loop-j-init
loop-j-init c = (search rules, c.requires, over-letters 10125 c.args.seq.now c.requires)

pub loop-j-preserved : goal.loop-j-preserved
unfolding letter_at
loop-j-preserved c = let j = c.loop-j.j in
    let first = letters_more j 10125 c.loop-j-test.true ∙ ap (λ (k : ℕ). get_or fifteen k 0 ∷ letters_from (j + 1) (10125 - (j + 1))) (sym c.number_at-k.ensures.value) in
    (search rules, simp length-set c.loop-j.invariant.1, from_turn j (get_or fifteen c.number_at-k.result 0) _ _ c.loop-j.seq _ (omega arith) first c.loop-j.invariant.2)

pub returns : goal.returns
returns c = sym (from_end c.loop-j.j c.loop-j.seq) ∙ ap (λ (l : List ℕ). over_from c.loop-j.j l c.loop-j.seq) (sym (letters_none c.loop-j.j 10125 c.loop-j-test.false)) ∙ c.loop-j.invariant.2
