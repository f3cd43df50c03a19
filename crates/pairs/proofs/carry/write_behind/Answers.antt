-- `pairs::carry::write_behind` meets its contract: what goes in and the tail go into the part of the buffer that is lent on behind the letters between.
use mathlib.Core.Path.{◌≡◌, sym, ap}
use mathlib.Core.List.{◌++◌}
use Prim.Native.Nat.{ℕ, ◌+◌, ◌-◌}
use native.Mathlib.Omega.{arith}
use lib.ListN.{length, drop}
use Rattle.rules.specs.Packed.{letters_by}
use Rattle.rules.specs.Altered.{part}
use Rattle.rules.proofs.Over.{lent_on_by}
use Rattle.rules.proofs.Parts.{length_part}
use Rattle.edits.specs.Plans.{goes_in}
use Rattle.pairs.proofs.carry.write_behind.Goals as goal

pub returns : goal.returns
returns c =
    let a = c.args in
    let x = c.requires in
    let s = letters_by a.form a.letters.now in
    let between = part a.to a.behind.from s in
    let rest = goes_in a.behind s a.other.now ++ drop a.behind.to s in
    let one = c.copy_letters in
    let two = c.write_rest in
    let many : length between ≡ a.behind.from - a.to = length_part a.to a.behind.from s (omega (arith, x.rising, x.ends)) in
    record { value = ap (λ (n : ℕ). (a.behind.from - a.to) + n) two.ensures.value; rest_after = lent_on_by between rest a.rest.now one.new.out two.new.rest (a.behind.from - a.to) (sym many) (omega (arith, many, x.written)) one.ensures two.ensures.rest_after }
