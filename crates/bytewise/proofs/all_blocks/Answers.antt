-- `bytewise::all_blocks` meets its contract.
use Rattle.std.proofs.Common.{◌≡◌, ℕ, List, ◌++◌, Bool, ◌&&◌, ◌∙◌, sym, ap, arith}
use Rattle.rules.specs.Bytes.{all}
use Rattle.rules.proofs.Lists.{all_append, all_end}
use Rattle.bytewise.proofs.all_blocks.Goals as goal

-- a block and what is behind it decide
block : (p : ℕ → Bool) (now after s : List ℕ) (r : Bool) → s ≡ now ++ after → r ≡ all p now → r && all p after ≡ all p s
block p now after s r e is = ap (λ (x : Bool). x && all p after) is ∙ sym (ap (all p) e ∙ all_append p now after)

pub returns-then-not-all_bytes : goal.returns-then-not-all_bytes
returns-then-not-all_bytes g c = record {
  value = λ p computes.
      block p _ _ _ _ c.in-Some.ensures.steps.1.0 (sym c.if-not-all_bytes.true ∙ c.all_bytes.ensures.value p computes)
      ∙ c.loop-block.invariant p computes;
}

pub loop-block-preserved : goal.loop-block-preserved
loop-block-preserved g c p computes =
    block p _ _ _ _ c.in-Some.ensures.steps.1.0 (sym c.if-not-all_bytes.false ∙ c.all_bytes.ensures.value p computes)
    ∙ c.loop-block.invariant p computes

pub returns : goal.returns
returns g c = record {
  value = λ p computes. sym (all_end p _ 0 (omega (arith, c.in-None.ensures.steps.1.0))) ∙ c.loop-block.invariant p computes;
}
