-- `names::row_of_one` meets its contract. The invariant: the rows that are left give the name that the table gives.
-- Assumes nothing.
use mathlib.Core.Path.{◌≡◌, sym, ◌∙◌}
use native.Mathlib.Omega.{arith}
use borrow.Author.Tests.{lt-ltb}
use Rattle.rules.specs.Names.{three_of}
use Rattle.names.specs.Rows.{three_at}
use Rattle.names.proofs.Laws.{three-start, three-found, three-more, three-none, is_one_lem}
use Rattle.names.proofs.row_of_one.Goals as goal

pub loop-k-init : goal.loop-k-init
loop-k-init c = three-start _ c.requires _

pub returns-then-one-names : goal.returns-then-one-names
returns-then-one-names c =
    let k = c.loop-k.k in
    let is : three_of c.args.one ≡ three_at k = sym c.loop-k.invariant ∙ three-found _ c.requires k (omega arith) _ c.if-one-names.true in
    record { known = sym (is_one_lem _ k is ∙ lt-ltb k 25 (omega arith)); row = (omega arith, is) }

pub loop-k-preserved : goal.loop-k-preserved
loop-k-preserved c = sym (three-more _ c.requires _ (omega arith) _ c.if-one-names.false) ∙ c.loop-k.invariant

pub returns-clause-known : goal.returns-clause-known
returns-clause-known c = sym (is_one_lem _ 25 (sym c.loop-k.invariant ∙ three-none _ c.requires _ _ (omega arith)))
