-- `edits::plans::replace` meets its contract. Assumes nothing.
use mathlib.Core.Path.{ap}
use Prim.Native.Nat.{ℕ, ◌+◌, ◌-◌}
use lib.ListN.{length}
use Rattle.rules.specs.Reference.{size}
use Rattle.rules.specs.Packed.{letters_by}
use Rattle.rules.specs.Views.{bare}
use Rattle.edits.proofs.Planning.{replaces-plan}
use Rattle.edits.proofs.plans.replace.Goals as goal

pub returns : goal.returns
unfolding size
returns c =
    let a = c.args in
    λ e h k. replaces-plan (bare (letters_by a.form a.letters.now) a.c) e a.range a.new.now h _ c.is_shift.result a.number (ap (λ (n : ℕ). n - (a.range.end - a.range.start) + length a.new.now) c.size_of.ensures) (c.is_shift.ensures e h) k
