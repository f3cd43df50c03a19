-- `halves::half::half_at` meets its contract. Assumes nothing.
use Rattle.std.proofs.Common.{◌≡◌, ◌+◌, ◌*◌, ◌/◌, ◌%◌, ◌<◌, get_or, sym, ap, ◌∙◌, arith}
use Rattle.rules.specs.Packed.{set_at}
use Rattle.halves.proofs.Halves.{high_at, low_at}
use Rattle.halves.proofs.half.half_at.Goals as goal

pub returns-then-place-eq0 : goal.returns-then-place-eq0
returns-then-place-eq0 c =
    let s = c.args.packed.now in
    let k = c.args.place in
    let at : k / 2 * 2 ≡ k = omega (arith, c.if-place-eq0.true) in
    let small : get_or s (k / 2) 0 < 256 = omega (arith, c.type_inv.packed (k / 2)) in
    let same : get_or s (k / 2) 0 / 16 ≡ get_or s (k / 2) 0 / 16 % 16 = omega arith in
    record { value = same ∙ sym (high_at s (k / 2)) ∙ ap (set_at s) at; small = omega arith }

pub returns : goal.returns
returns c =
    let s = c.args.packed.now in
    let k = c.args.place in
    let at : k / 2 * 2 + 1 ≡ k = omega (arith, c.if-place-eq0.false) in
    record { value = sym (low_at s (k / 2)) ∙ ap (set_at s) at; small = omega arith }
