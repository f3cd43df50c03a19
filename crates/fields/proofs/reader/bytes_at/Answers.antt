-- `fields::reader::bytes_at` meets its contract. Assumes nothing.
use mathlib.Core.Path.{◌≡◌}
use Prim.Native.Nat.{◌+◌, ◌-◌}
use native.Mathlib.Omega.{arith}
use Rattle.rules.specs.Record.{part_of}
use Rattle.fields.proofs.reader.bytes_at.Goals as goal

pub returns : goal.returns
unfolding part_of
returns c = let p = c.args.p in
    let few : p.at + p.len - p.at ≡ p.len = omega arith in
    rw few
