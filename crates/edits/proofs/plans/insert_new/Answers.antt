-- `edits::plans::insert_new` meets its contract. Assumes nothing.
use mathlib.Core.Path.{refl, ap, ◌∙◌}
use Prim.Native.Nat.{◌+◌, ◌-◌, ◌%◌}
use native.Mathlib.Omega.{arith}
use Rattle.cuts.specs.declared.Cut.{Cut}
use Rattle.cuts.specs.Cuts.{cut_of}
use Rattle.cuts.proofs.Cuts.{cut_le, whole_part, cuts_bases}
use Rattle.edits.proofs.plans.insert_new.Goals as goal

pub insert_stop_seq_end-cut-requires : goal.insert_stop_seq_end-cut-requires
insert_stop_seq_end-cut-requires c =
    let a = c.args in
    record { in_letters = record { letters = c.requires.table_bound.1; rising = omega arith; ends = omega arith }; frame_bound = omega arith; cuts = cuts_bases a.c.table a.new.now c.all_bases.result c.requires.table_bound.0 c.requires.table_bound.1 c.all_bases.ensures }

pub insert-requires : goal.insert-requires
insert-requires c =
    let a = c.args in
    let cut = c.insert_stop_seq_end-cut in
    let is = cut.ensures ∙ ap (cut_of a.c.table ((a.range.start + 1 - (a.c.cs - 1)) % 3)) (whole_part a.new.now) in
    (c.requires.size_bound.0, omega (arith, ap (λ (x : Cut). x.kept) is, cut_le a.c.table ((a.range.start + 1 - (a.c.cs - 1)) % 3) a.new.now, c.requires.size_bound.2))

pub returns : goal.returns
returns c =
    let a = c.args in
    let cut = c.insert_stop_seq_end-cut in
    let is = cut.ensures ∙ ap (cut_of a.c.table ((a.range.start + 1 - (a.c.cs - 1)) % 3)) (whole_part a.new.now) in
    λ s e long h k. c.insert.ensures s a.new.now a.c e (record { long = long; many = refl; cuts = is }) h k
