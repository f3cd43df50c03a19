-- `entries::halves_at` meets its contract. Assumes nothing.
use Prim.Native.Nat.{ℕ, ◌+◌, ◌/◌, ◌<◌}
use native.Mathlib.Omega.{arith}
use lib.ListN.{get_or}
use Rattle.entries.proofs.Entries.{even-halves, odd-halves}
use Rattle.entries.proofs.halves_at.Goals as goal

pub returns-then-place-eq0 : goal.returns-then-place-eq0
returns-then-place-eq0 c =
    let a = c.args in
    let bytes : (k : ℕ) → get_or a.packed.now k 0 < 256 = λ k. omega (arith, c.type_inv.packed k) in
    record { value = cc (even-halves a.packed.now bytes a.place c.if-place-eq0.true); small = omega (arith, c.from.ensures, c.from-2.ensures, bytes (a.place / 2), bytes (a.place / 2 + 1)) }

pub returns : goal.returns
returns c =
    let a = c.args in
    let bytes : (k : ℕ) → get_or a.packed.now k 0 < 256 = λ k. omega (arith, c.type_inv.packed k) in
    record { value = cc (odd-halves a.packed.now bytes a.place c.if-place-eq0.false); small = omega arith }
