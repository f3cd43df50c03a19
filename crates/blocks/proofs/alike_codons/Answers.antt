-- `blocks::alike_codons` meets its contract. Assumes nothing.
use mathlib.Core.Path.{◌≡◌, sym, ◌∙◌}
use Prim.Native.Nat.{◌+◌, ◌*◌}
use borrow.Author.Rules.{rules}
use lib.ListN.{length}
use Rattle.rules.specs.Altered.{part}
use Rattle.rules.specs.Packed.{letters_by}
use Rattle.transcript.specs.Carrying.{carried_by}
use Rattle.altered.proofs.Stretches.{block-letters}
use Rattle.blocks.proofs.Blocked.{same_read, block_read}
use Rattle.blocks.proofs.alike_codons.Goals as goal

pub returns-then-same_by-clause-each : goal.returns-then-same_by-clause-each
returns-then-same_by-clause-each c =
    let a = c.args in
    let s = letters_by a.form a.letters.now in
    let made = carried_by a.plan s a.new.now in
    let e = c.write_stretch.new.out in
    let is : e ≡ part a.at (a.at + length a.own.now * 3) made = search rules in
    same_read a.table s made a.own.now a.at (length a.own.now) e is (sym c.same_by.ensures ∙ c.if-same_by.true) c.requires.held.reads

pub alike_read-requires-clause-block_value : goal.alike_read-requires-clause-block_value
alike_read-requires-clause-block_value c =
    let a = c.args in
    let s = letters_by a.form a.letters.now in
    let is : c.write_stretch.new.out ≡ part a.at (a.at + length a.own.now * 3) (carried_by a.plan s a.new.now) = search rules in
    rw is (block-letters a.plan s a.new.now c.requires.makes a.at (length a.own.now * 3))

pub returns-clause-each : goal.returns-clause-each
returns-clause-each c =
    let a = c.args in
    let made = carried_by a.plan (letters_by a.form a.letters.now) a.new.now in
    let e = c.write_stretch.new.out in
    let is : e ≡ part a.at (a.at + length a.own.now * 3) made = search rules in
    let read = c.alike_read in
    block_read a.table made a.own.now a.at (length a.own.now) read.result e is read.ensures.upper_bound read.ensures.each
