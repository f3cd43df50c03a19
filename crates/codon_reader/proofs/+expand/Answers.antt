-- `codon_reader::expand` meets its contract: a base that the letter has adds its residues, one that it lacks adds none, and with no letter left it is the plain codon's.
use Rattle.std.proofs.Common.{◌≡◌, ◌+◌, ◌-◌, ◌*◌, ℕ, List, get_or, sym, ap, ◌∙◌, arith}
use Rattle.mixes.specs.Mixes.{joined}
use Rattle.codon_reader.specs.Expansion.{expanded, joined_all}
use Rattle.codon_reader.proofs.Expanded.{turn_in, turn_out, expanded_none, expanded_one}
use Rattle.codon_reader.proofs.+expand.Goals as goal
use Rattle.codon_reader.proofs.+expand.Goals.{then-letter-bit-eq1, else-letter-bit-eq1}

pub returns-then-left-eq0 : goal.returns-then-left-eq0
returns-then-left-eq0 t c =
    let a = c.args in
    c.join.ensures ∙ ap (joined a.found) c.plain_residue.ensures
    ∙ sym (expanded_none a.left a.table a.place a.sets a.found c.if-left-eq0.true)

pub loop-base-init : goal.loop-base-init
loop-base-init t c =
    let a = c.args in
    ap (joined_all a.found) (sym (expanded_one a.left a.table a.place a.sets c.if-left-eq0.false))

pub loop-base-preserved : goal.loop-base-preserved
loop-base-preserved t c =
    let a = c.args in
    let letter : ℕ = get_or a.sets (3 - a.left) 0 in
    let rest : ℕ → List ℕ = λ i. expanded (a.left - 1) a.table a.sets (a.place * 4 + i) in
    elim c.if-letter-bit-eq1.branch [
      | then-letter-bit-eq1 w ↦ rw (w.all-is, w.expand-all.ensures) (turn_in letter c.loop-base.base c.loop-base.all _ rest c.loop-base-test.true w.if-letter-bit-eq1.true c.loop-base.invariant)
      | else-letter-bit-eq1 w ↦ rw w.all-is (turn_out letter c.loop-base.base c.loop-base.all _ rest c.loop-base-test.true w.if-letter-bit-eq1.false c.loop-base.invariant)
    ]

pub returns : goal.returns
unfolding joined_all
returns t c =
    let done : c.loop-base.base ≡ 4 = omega arith in
    rw done at c.loop-base.invariant
