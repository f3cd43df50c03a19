-- `walks::turn_at` meets its contract: a codon with an exception, and one without. Assumes nothing.
use Prim.Native.Nat.{◌+◌}
use native.Mathlib.Omega.{arith}
use Rattle.rules.specs.Translation.{exception_list}
use Rattle.excepted.proofs.Putting.{next_clear, still_clear}
use Rattle.walks.proofs.turn_at.Goals as goal

pub returns-then-i-next-clause-clear : goal.returns-then-i-next-clause-clear
returns-then-i-next-clause-clear c = let args = c.args in
    next_clear (exception_list args.e) (args.i + 1) args.past c.next_exception.result (omega arith) (rw c.if-i-next.true c.next_exception.ensures)

pub returns : goal.returns
returns c = let args = c.args in
    let still = still_clear (exception_list args.e) args.i args.next args.residue c.requires.clear c.if-i-next.false in
    record { residue_value = still.0; clear = still.1 }
