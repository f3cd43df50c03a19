-- `silent::keeps_protein` meets its contract. The invariant: what is left of R and of the protein is the same exactly if all of it is.
use mathlib.Core.Path.{sym, ◌∙◌}
use Prim.Native.Nat.{◌+◌}
use native.Mathlib.Omega.{arith}
use Rattle.silent.proofs.Same.{first_some, in-transcript, some-residues, codes, in-made, placed, starts, starts-within, past, ends, ends-either, skipped, read_is, parts, stops, goes_on}
use Rattle.rules.specs.Packed.{letters_by}
use Rattle.silent.proofs.keeps_protein.Goals as goal

pub overflow_sub-first : goal.overflow_sub-first
overflow_sub-first c =
    let a = c.args in
    let x = c.requires in
    first_some (letters_by a.form a.letters.now) a.c a.e a.moved a.protein.now a.plan a.new.now x

pub overflow_sub-whole : goal.overflow_sub-whole
overflow_sub-whole c =
    let a = c.args in
    let x = c.requires in
    in-transcript (letters_by a.form a.letters.now) a.c a.e a.moved a.protein.now a.plan a.new.now x

pub overflow_sub-rest : goal.overflow_sub-rest
overflow_sub-rest c =
    let a = c.args in
    let x = c.requires in
    in-transcript (letters_by a.form a.letters.now) a.c a.e a.moved a.protein.now a.plan a.new.now x

pub first_changed-start-requires : goal.first_changed-start-requires
first_changed-start-requires c =
    let a = c.args in
    let x = c.requires in
    (x.front, some-residues (letters_by a.form a.letters.now) a.c a.e a.moved a.protein.now a.plan a.new.now x)

pub loop-k-init : goal.loop-k-init
loop-k-init c =
    let a = c.args in
    let x = c.requires in
    let from = c.first_changed-start in
    (starts (letters_by a.form a.letters.now) a.c a.e a.moved a.protein.now a.plan a.new.now x from.result from.ensures.result_bound from.ensures.before, starts-within (letters_by a.form a.letters.now) a.c a.e a.moved a.protein.now a.plan a.new.now x from.result from.ensures.before, omega arith)

pub returns-then-whole-k : goal.returns-then-whole-k
returns-then-whole-k c =
    let a = c.args in
    let x = c.requires in
    let turn = c.loop-k in
    c.rest_alike.ensures ∙ sym (ends (letters_by a.form a.letters.now) a.c a.e a.moved a.protein.now a.plan a.new.now x turn.k (omega (arith, turn.invariant.1, c.if-whole-k.true))) ∙ turn.invariant.0

pub returns-then-protein-k : goal.returns-then-protein-k
returns-then-protein-k c =
    let a = c.args in
    let x = c.requires in
    let turn = c.loop-k in
    sym (past (letters_by a.form a.letters.now) a.c a.e a.moved a.protein.now a.plan a.new.now x turn.k (omega (arith, c.if-whole-k.false)) c.if-protein-k.true) ∙ turn.invariant.0

pub source_of-requires : goal.source_of-requires
source_of-requires c =
    let a = c.args in
    let x = c.requires in
    placed (letters_by a.form a.letters.now) a.c a.e a.moved a.protein.now a.plan a.new.now x c.loop-k.k (omega (arith, c.if-whole-k.false))

pub returns-in-Some : goal.returns-in-Some
returns-in-Some c =
    let a = c.args in
    let x = c.requires in
    let turn = c.loop-k in
    let found = c.in-Some.ensures in
    sym (ends-either (letters_by a.form a.letters.now) a.c a.e a.moved a.protein.now a.plan a.new.now x turn.k c.in-Some.source found.none found.behind found.place (omega (arith, c.if-protein-k.false)) found.inside) ∙ turn.invariant.0

pub residue_at-r-requires : goal.residue_at-r-requires
residue_at-r-requires c =
    let a = c.args in
    let x = c.requires in
    let skip = c.alike_from in
    let j = c.loop-k.k + skip.result in
    record { makes = x.makes; k_in_bounds = in-made (letters_by a.form a.letters.now) a.c a.e a.moved a.protein.now a.plan a.new.now x j skip.ensures.more; table_bound = (codes (letters_by a.form a.letters.now) a.c a.e a.moved a.protein.now a.plan a.new.now x, x.few) }

pub returns-then-r-protein : goal.returns-then-r-protein
returns-then-r-protein c =
    let a = c.args in
    let x = c.requires in
    let turn = c.loop-k in
    let skip = c.alike_from in
    let read = c.residue_at-r in
    let j = turn.k + skip.result in
    sym (parts (letters_by a.form a.letters.now) a.c a.e a.moved a.protein.now a.plan a.new.now x j read.result skip.ensures.more (read_is (letters_by a.form a.letters.now) a.c a.e a.moved a.protein.now a.plan a.new.now x j read.result read.ensures) skip.ensures.few c.if-r-protein.true)
    ∙ sym (skipped (letters_by a.form a.letters.now) a.c a.e a.moved a.protein.now a.plan a.new.now x turn.k skip.result skip.ensures) ∙ turn.invariant.0

pub returns-then-r-eq42 : goal.returns-then-r-eq42
returns-then-r-eq42 c =
    let a = c.args in
    let x = c.requires in
    let turn = c.loop-k in
    let skip = c.alike_from in
    let read = c.residue_at-r in
    let j = turn.k + skip.result in
    sym (stops (letters_by a.form a.letters.now) a.c a.e a.moved a.protein.now a.plan a.new.now x j read.result skip.ensures.more (read_is (letters_by a.form a.letters.now) a.c a.e a.moved a.protein.now a.plan a.new.now x j read.result read.ensures) skip.ensures.few c.if-r-protein.false c.if-r-eq42.true)
    ∙ sym (skipped (letters_by a.form a.letters.now) a.c a.e a.moved a.protein.now a.plan a.new.now x turn.k skip.result skip.ensures) ∙ turn.invariant.0

pub loop-k-preserved : goal.loop-k-preserved
loop-k-preserved c =
    let a = c.args in
    let x = c.requires in
    let turn = c.loop-k in
    let skip = c.alike_from in
    let read = c.residue_at-r in
    let j = turn.k + skip.result in (
      sym (goes_on (letters_by a.form a.letters.now) a.c a.e a.moved a.protein.now a.plan a.new.now x j read.result skip.ensures.more (read_is (letters_by a.form a.letters.now) a.c a.e a.moved a.protein.now a.plan a.new.now x j read.result read.ensures) skip.ensures.few c.if-r-protein.false c.if-r-eq42.false)
          ∙ sym (skipped (letters_by a.form a.letters.now) a.c a.e a.moved a.protein.now a.plan a.new.now x turn.k skip.result skip.ensures) ∙ turn.invariant.0,
      omega (arith, skip.ensures.more),
      omega (arith, turn.invariant.2),
    )
