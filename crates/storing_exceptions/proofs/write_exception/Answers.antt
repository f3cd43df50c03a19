-- `storing_exceptions::write_exception` meets its contract. Assumes nothing.
use native.Mathlib.Omega.{arith}
use Rattle.rules.specs.Storing.{in_two, exception_bytes}
use Rattle.rules.proofs.Over.{stored_behind}
use Rattle.storing_exceptions.proofs.write_exception.Goals as goal

pub returns : goal.returns
unfolding in_two exception_bytes
returns c =
    let w = c.write_two-codon in
    record { value = omega arith; out_after = stored_behind (in_two c.args.e.codon) c.args.out.now w.new.out w.result c.args.e.residue w.ensures.value (omega arith) w.ensures.out_after }
