-- `same_blocks::same_eight` meets its contract: two numbers of eight bytes each are equal where the bytes are.
use Prim.Native.Nat.{ℕ, ◌<◌}
use borrow.Author.Rules.{rules}
use native.Mathlib.Omega.{arith}
use lib.ListN.{get_or}
use Rattle.same_blocks.proofs.Eights.{eight-same}
use Rattle.same_blocks.proofs.same_eight.Goals as goal

pub returns : goal.returns
returns c =
    let args = c.args in
    let small : (k : ℕ) → get_or args.a.now k 0 < 256 = λ k. search rules in
    let small' : (k : ℕ) → get_or args.b.now k 0 < 256 = λ k. search rules in
    rw (c.eight_at.ensures, c.eight_at-2.ensures) (eight-same args.a.now args.b.now small small' args.k (omega arith) (omega arith))
