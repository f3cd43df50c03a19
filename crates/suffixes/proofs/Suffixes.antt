-- Laws of a comparison that goes over two lists in blocks, from the end. Assumes nothing.
use mathlib.Core.Path.{◌≡◌, sym, ap, ap₂, ◌∙◌}
use mathlib.Core.Bool.{true}
use mathlib.Core.List.{List, ◌++◌}
use Prim.Native.Nat.{ℕ, ◌+◌, ◌-◌, ◌≤◌}
use native.Mathlib.Omega.{arith}
use lib.ListN.{length, take, drop, length-drop}
use lib.Seq.{take-add, length-take-le}
use Rattle.rules.specs.Bytes.{same}
use Rattle.rules.specs.Trims.{common_suffix}
use Rattle.rules.proofs.Trims.{cs_append}
use Rattle.same_blocks.proofs.Blocks.{same_true}

last_at : (a b : List ℕ) (k m n : ℕ) → m + k ≤ length a → n + k ≤ length b → same (take k (drop m a)) (take k (drop n b)) ≡ true → common_suffix (take (m + k) a) (take (n + k) b) ≡ k + common_suffix (take m a) (take n b)
last_at a b k m n h g e =
    let p = take k (drop m a) in
    let long : length p ≡ k = length-take-le k (drop m a) (simp length-drop (omega arith)) in
    let right : take (n + k) b ≡ take n b ++ p = take-add n k b ∙ ap (take n b ++◌) (sym (same_true p (take k (drop n b)) e)) in
    ap₂ common_suffix (take-add m k a) right ∙ cs_append p (take m a) (take n b) ∙ ap (◌+ common_suffix (take m a) (take n b)) long

back : (l i k : ℕ) → i + k ≤ l → l - (i + k) + k ≡ l - i
back l i k h = omega arith

whole : (m k : ℕ) → m + k - m ≡ k
whole m k = omega arith

down : (l i k : ℕ) → l - i - k ≡ l - (i + k)
down l i k = omega arith

-- two equal blocks before the last i
pub last_block : (a b : List ℕ) (k i : ℕ) → i + k ≤ length a → i + k ≤ length b → same (take (length a - i - k + k - (length a - i - k)) (drop (length a - i - k) a)) (take (length b - i - k + k - (length b - i - k)) (drop (length b - i - k) b)) ≡ true → common_suffix (take (length a - i) a) (take (length b - i) b) ≡ k + common_suffix (take (length a - (i + k)) a) (take (length b - (i + k)) b)
last_block a b k i ha hb e =
    let m = length a - (i + k) in
    let n = length b - (i + k) in
    let left : take (length a - i - k + k - (length a - i - k)) (drop (length a - i - k) a) ≡ take k (drop m a) = rw (whole (length a - i - k) k, down (length a) i k) in
    let right : take (length b - i - k + k - (length b - i - k)) (drop (length b - i - k) b) ≡ take k (drop n b) = rw (whole (length b - i - k) k, down (length b) i k) in
    let found : same (take k (drop m a)) (take k (drop n b)) ≡ true = ap₂ same (sym left) (sym right) ∙ e in
    rw (← back (length a) i k ha, ← back (length b) i k hb) (last_at a b k m n (omega arith) (omega arith) found)
