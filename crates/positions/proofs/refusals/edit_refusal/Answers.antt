-- `positions::refusals::edit_refusal` meets its contract. Assumes nothing.
use mathlib.Core.Path.{sym, ◌∙◌}
use borrow.Author.Rules.{rules}
use Prim.Native.Nat.{ℕ}
use lib.ListN.{replicate, length-replicate}
use Rattle.rules.specs.Views.{bare, asked}
use Rattle.positions.proofs.Tests.{both_inside}
use Rattle.positions.proofs.refusals.edit_refusal.Goals as goal

pub is_disordered-requires : goal.is_disordered-requires
is_disordered-requires c =
    let a = c.args in
    let any = replicate {A = ℕ} a.size 0 in
    let here = c.is_misplaced.ensures any a.new.now (length-replicate a.size 0) in
    let inside = both_inside (bare any a.c) (asked a.edit a.new.now) (sym here ∙ c.if-is_misplaced.false) in
    record { bounded = search rules; start_value = inside.0; end_value = inside.1 }
