-- `stored::read::join_rest` meets its contract: the third part goes into the part of the buffer that is lent on behind the second.
use mathlib.Core.Path.{ap, ◌∙◌}
use Prim.Native.Nat.{◌-◌}
use native.Mathlib.Omega.{arith}
use lib.ListN.{length, take, drop}
use Rattle.rules.specs.Record.{part_of}
use Rattle.rules.proofs.Over.{copied_as, lent_on_by}
use Rattle.fields.proofs.Places.{length_of_part}
use Rattle.stored.proofs.read.join_rest.Goals as goal

pub copy-n-requires : goal.copy-n-requires
copy-n-requires c =
    let a = c.args in
    omega (arith, ap length c.bytes_at.ensures, length_of_part a.s.now a.p.second c.requires.placed.second-within, c.requires.len_in_bounds)

pub copy-requires : goal.copy-requires
copy-requires c =
    let a = c.args in
    omega (arith, c.copy-n.ensures.count, ap length c.bytes_at.ensures, length_of_part a.s.now a.p.second c.requires.placed.second-within, ap length c.bytes_at-2.ensures, length_of_part a.s.now a.p.third c.requires.placed.third-within, c.requires.len_in_bounds)

pub returns : goal.returns
returns c =
    let a = c.args in
    let one = c.copy-n in
    let two = c.copy in
    let front = part_of a.p.second a.s.now in
    let rest = part_of a.p.third a.s.now in
    let src = c.bytes_at in
    let src2 = c.bytes_at-2 in
    let whole = one.new.dst in
    lent_on_by front rest a.out.now whole two.new.dst one.result (one.ensures.count ∙ ap length src.ensures) (omega (arith, length_of_part a.s.now a.p.second c.requires.placed.second-within, c.requires.len_in_bounds))
    (copied_as src.result.now front a.out.now whole src.ensures one.ensures.after)
    (copied_as src2.result.now rest (take (length whole - one.result) (drop one.result whole)) two.new.dst src2.ensures two.ensures.after)
