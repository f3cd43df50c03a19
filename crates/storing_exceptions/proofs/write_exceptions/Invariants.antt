use mathlib.Core.Path.{◌≡◌}
use lib.ListN.{length}
use Rattle.rules.specs.Bytes.{over}
use Rattle.rules.specs.Translation.{no_exception, exception_list}
use Rattle.rules.specs.Storing.{exception_bytes}
use Rattle.storing_exceptions.proofs.Rows.{row}
use Rattle.storing_exceptions.proofs.write_exceptions.Given as goal

abbrev pub invariant-loop-i : goal.invariant-loop-i
invariant-loop-i l = (l.at ≡ length (row exception_bytes (exception_list l.fn.e) no_exception l.i)) × (l.out ≡ over (row exception_bytes (exception_list l.fn.e) no_exception l.i) l.initial.out) × (length l.fn.e.all ≡ 16)
