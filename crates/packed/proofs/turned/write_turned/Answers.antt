-- `packed::turned::write_turned` meets its contract. Assumes nothing.
use mathlib.Core.Path.{◌≡◌, refl, sym, ap, ◌∙◌}
use mathlib.Core.List.{List}
use Prim.Native.Nat.{ℕ, ◌-◌, ◌*◌, ◌≤◌}
use native.Mathlib.Omega.{arith}
use lib.ListN.{length, take, drop, length-drop}
use lib.Seq.{length-take-le}
use Rattle.rules.specs.Bytes.{all, over}
use Rattle.rules.specs.Letters.{is_letter}
use Rattle.rules.specs.Altered.{part}
use Rattle.rules.specs.Complement.{reverse_complement}
use Rattle.rules.proofs.Over.{read_back, length_over}
use Rattle.rules.proofs.Parts.{length_part}
use Rattle.rules.proofs.Complement.{length-complement}
use Rattle.rules.specs.Packed.{letters_in}
use Rattle.rules.proofs.Packed.{length-letters}
use Rattle.halves.proofs.Halves.{length_of_part}
use Rattle.packed.proofs.Turning.{turned_none, turned_more, some-letters}
use borrow.Author.Rules.{rules}
use Rattle.packed.proofs.turned.write_turned.Goals as goal

pub loop-p-init : goal.loop-p-init
loop-p-init c = (search rules, omega arith, refl, turned_none _ _ _)

pub write_revcomp-requires : goal.write_revcomp-requires
write_revcomp-requires c = let k = c.min-k.result in
    let at = c.loop-p.p - k in
    let s = letters_in c.args.packed.now in
    let fits : c.loop-p.p ≤ length c.args.packed.now * 2 = omega (arith, c.requires.to_in_bounds) in
    let long : k ≡ length (part at c.loop-p.p s) = sym (length_of_part at c.loop-p.p c.args.packed.now fits ∙ omega arith) in
    let back : take k c.unpack_part.new.out ≡ part at c.loop-p.p s = read_back (part at c.loop-p.p s) _ _ k long c.unpack_part.ensures in
    let room : length (take (length c.loop-p.out - c.loop-p.i) (drop c.loop-p.i c.loop-p.out)) ≡ length c.loop-p.out - c.loop-p.i = length-take-le (length c.loop-p.out - c.loop-p.i) (drop c.loop-p.i c.loop-p.out) (rw length-drop (omega arith)) in
    record { seq_value = ap (all is_letter) back ∙ some-letters c.args.from c.args.to at c.loop-p.p s (omega arith) (omega arith) (omega arith) c.requires.packed_value.0; seq_in_bounds = rw (back, room) (omega (arith, long, c.requires.packed_value.1)) }

pub loop-p-preserved : goal.loop-p-preserved
loop-p-preserved c = let k = c.min-k.result in
    let at = c.loop-p.p - k in
    let s = letters_in c.args.packed.now in
    let fits : c.loop-p.p ≤ length c.args.packed.now * 2 = omega (arith, c.requires.to_in_bounds) in
    let long : k ≡ length (part at c.loop-p.p s) = sym (length_of_part at c.loop-p.p c.args.packed.now fits ∙ omega arith) in
    let back : take k c.unpack_part.new.out ≡ part at c.loop-p.p s = read_back (part at c.loop-p.p s) _ _ k long c.unpack_part.ensures in
    let few : c.args.to ≤ length s = rw length-letters c.requires.to_in_bounds in
    let room : c.loop-p.i ≤ length c.args.out.now = omega (arith, c.requires.packed_value.1) in
    let more = turned_more at c.loop-p.p c.args.to c.loop-p.i s c.args.out.now c.loop-p.out _ (omega arith) (omega arith) few c.loop-p.invariant.1 room c.loop-p.invariant.3 (c.write_revcomp.ensures ∙ ap (λ (l : List ℕ). over (reverse_complement l) (take (length c.loop-p.out - c.loop-p.i) (drop c.loop-p.i c.loop-p.out))) back) in
    let whole : length (reverse_complement (part at c.args.to s)) ≤ length c.args.out.now = omega (arith, length-complement (part at c.args.to s), length_part at c.args.to s few, c.requires.packed_value.1) in
    (omega arith, omega arith, ap (λ (l : List ℕ). length l) more ∙ length_over (reverse_complement (part at c.args.to s)) c.args.out.now whole, more)
