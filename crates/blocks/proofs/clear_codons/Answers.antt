-- `blocks::clear_codons` meets its contract. Assumes nothing.
use Prim.Native.Nat.{◌+◌}
use native.Mathlib.Omega.{arith}
use Rattle.rules.specs.Translation.{exception_list}
use Rattle.blocks.proofs.Blocked.{clear_next, next_ahead}
use Rattle.blocks.proofs.clear_codons.Goals as goal

pub overflow_sub-min : goal.overflow_sub-min
overflow_sub-min c =
    let a = c.args in
    let own = c.next_exception-own in
    let other = c.next_exception-other in
    omega (arith, c.min.ensures, next_ahead (exception_list a.e) a.k (a.k + a.n + 1) own.result (omega arith) own.ensures, next_ahead (exception_list a.moved) a.k (a.k + a.n + 1) other.result (omega arith) other.ensures)

pub returns : goal.returns
returns c =
    let a = c.args in
    let own = c.next_exception-own in
    let other = c.next_exception-other in
    let past = a.k + a.n + 1 in
    let ahead = next_ahead (exception_list a.e) a.k past own.result (omega arith) own.ensures in
    let ahead-2 = next_ahead (exception_list a.moved) a.k past other.result (omega arith) other.ensures in
    record { upper_bound = omega (arith, c.min-2.ensures); own = clear_next (exception_list a.e) a.k past own.result c.min-2.result (omega arith) own.ensures (omega (arith, c.min-2.ensures, c.min.ensures, ahead, ahead-2)); moved = clear_next (exception_list a.moved) a.k past other.result c.min-2.result (omega arith) other.ensures (omega (arith, c.min-2.ensures, c.min.ensures, ahead, ahead-2)) }
