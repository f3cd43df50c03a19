-- `stored::read::join` meets its contract: the other parts go into the part of the buffer that is lent on behind the first.
use mathlib.Core.Path.{ap, ◌∙◌}
use mathlib.Core.List.{◌++◌}
use native.Mathlib.Omega.{arith}
use lib.ListN.{length}
use Rattle.rules.specs.Record.{part_of}
use Rattle.rules.proofs.Over.{copied_as, lent_on_by}
use Rattle.fields.proofs.Places.{length_of_part}
use Rattle.stored.proofs.read.join.Goals as goal

pub copy-n-requires : goal.copy-n-requires
copy-n-requires c =
    let a = c.args in
    omega (arith, ap length c.bytes_at.ensures, length_of_part a.s.now a.p.letters c.requires.placed.letters-within, c.requires.len_in_bounds)

pub join_rest-requires : goal.join_rest-requires
join_rest-requires c =
    let a = c.args in
    record { placed = c.requires.placed; len_in_bounds = omega (arith, c.copy-n.ensures.count, ap length c.bytes_at.ensures, length_of_part a.s.now a.p.letters c.requires.placed.letters-within, c.requires.len_in_bounds) }

pub returns : goal.returns
returns c =
    let a = c.args in
    let one = c.copy-n in
    let two = c.join_rest in
    let front = part_of a.p.letters a.s.now in
    let src = c.bytes_at in
    let whole = one.new.dst in
    lent_on_by front (part_of a.p.second a.s.now ++ part_of a.p.third a.s.now) a.joined.now whole two.new.out one.result (one.ensures.count ∙ ap length src.ensures) (omega (arith, length_of_part a.s.now a.p.letters c.requires.placed.letters-within, c.requires.len_in_bounds))
    (copied_as src.result.now front a.joined.now whole src.ensures one.ensures.after) two.ensures
