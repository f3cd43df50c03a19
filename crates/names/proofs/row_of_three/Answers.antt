-- `names::row_of_three` meets its contract. The invariant: the rows that are left give the residue that the table gives.
-- Assumes nothing.
use mathlib.Core.Path.{◌≡◌, sym, ◌∙◌}
use mathlib.Core.List.{[], ◌∷◌}
use native.Mathlib.Omega.{arith}
use borrow.Author.Tests.{lt-ltb}
use Rattle.rules.specs.Names.{one_of}
use Rattle.names.specs.Rows.{one_at}
use Rattle.names.proofs.Laws.{one-start, one_found, one_more, one_none, is_three_lem}
use Rattle.names.proofs.row_of_three.Goals as goal

pub loop-k-init : goal.loop-k-init
loop-k-init c = one-start _ c.requires _

pub returns-then-a-names : goal.returns-then-a-names
returns-then-a-names c =
    let args = c.args in
    let k = c.loop-k.k in
    let is : one_of (args.a ∷ args.b ∷ args.c ∷ []) ≡ one_at k = sym c.loop-k.invariant ∙ one_found _ c.requires k (omega arith) _ _ _ c.if-a-names.true in
    record { known = sym (is_three_lem _ k is ∙ lt-ltb k 25 (omega arith)); row = (omega arith, is) }

pub loop-k-preserved : goal.loop-k-preserved
loop-k-preserved c = sym (one_more _ c.requires _ (omega arith) _ _ _ c.if-a-names.false) ∙ c.loop-k.invariant

pub returns-clause-known : goal.returns-clause-known
returns-clause-known c = sym (is_three_lem _ 25 (sym c.loop-k.invariant ∙ one_none _ c.requires _ _ (omega arith)))
