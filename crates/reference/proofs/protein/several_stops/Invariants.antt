use mathlib.Core.Path.{◌≡◌}
use Prim.Native.Nat.{◌+◌}
use Rattle.std.specs.Slice.Iter.{chunks_rest, chunks_size}
use Rattle.rules.specs.Bytes.{byte, count}
use Rattle.reference.proofs.protein.several_stops.Given as goal

abbrev pub invariant-loop-block : goal.invariant-loop-block
invariant-loop-block l = (l.stops + count (byte "*") (chunks_rest l.block-iterator) ≡ count (byte "*") l.protein) × (chunks_size l.block-iterator ≡ 255)
