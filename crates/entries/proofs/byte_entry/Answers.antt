-- `entries::byte_entry` meets its contract. Assumes nothing.
use native.Mathlib.Omega.{arith}
use Rattle.entries.specs.Entries.{entry_of}
use Rattle.entries.proofs.byte_entry.Goals as goal

pub returns : goal.returns
unfolding entry_of
returns c =
    let first = c.base_at-first.ensures in
    let second = c.base_at-second.ensures in
    let third = c.base_at-third.ensures in
    record { value = rw (first.value, second.value, third.value); small = omega (arith, first.small, second.small, third.small) }
