-- The invariant: the letters passed, with those to come, are all. Assumes nothing.
use mathlib.Core.Path.{◌≡◌, refl, sym, ap, ◌∙◌}
use mathlib.Core.List.{List, ◌∷◌}
use Prim.Native.Nat.{ℕ, ◌-◌, ◌+◌}
use native.Mathlib.Omega.{arith}
use borrow.Author.Rules.{rules}
use lib.ListN.{length, set, length-set}
use Rattle.rules.proofs.Over.{over_from, from_start, from_end, from_turn}
use Rattle.vectors_calls.specs.Letters.{filled}
use Rattle.vectors_calls.proofs.Rows.{filled-length, filled_more, filled_none, over_whole}
use Rattle.vectors_calls.proofs.given_letters.fill.Goals as goal

pub loop-i-init : goal.loop-i-init
loop-i-init c = let out = c.args.out.now in
    let all = filled c.args.a c.args.b 1 (length out) in
    let whole : length out - 0 ≡ length out = omega arith in (
      search rules,
      search rules,
      refl,
      ap (λ (n : ℕ). over_from 0 (filled c.args.a c.args.b 1 n) out) whole ∙ from_start all out ∙ over_whole all out (omega (arith, filled-length c.args.a c.args.b 1 (length out))),
    )

pub loop-i-preserved : goal.loop-i-preserved
loop-i-preserved c = let n = length c.args.out.now in
    let x = c.loop-i.x in
    let i = c.loop-i.i in
    let long : length (set c.loop-i.out i c.pick.result) ≡ n = simp length-set c.loop-i.invariant.2 in
    let first : filled c.args.a c.args.b x (n - i) ≡ c.pick.result ∷ filled c.args.a c.args.b c.next-x.result (n - (i + 1)) =
    filled_more c.args.a c.args.b x n i (omega arith) ∙ rw (c.pick.ensures, c.next-x.ensures.value) in
    (omega arith, search rules, long, from_turn i c.pick.result _ _ c.loop-i.out _ (omega arith) first c.loop-i.invariant.3)

pub returns : goal.returns
returns c = let none = filled_none c.args.a c.args.b c.loop-i.x (length c.args.out.now) c.loop-i.i (omega arith) in
    sym (from_end c.loop-i.i c.loop-i.out) ∙ ap (λ (l : List ℕ). over_from c.loop-i.i l c.loop-i.out) (sym none) ∙ c.loop-i.invariant.3
