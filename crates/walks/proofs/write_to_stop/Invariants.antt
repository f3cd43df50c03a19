use mathlib.Core.Path.{◌≡◌}
use mathlib.Core.List.{List}
use Prim.Native.Nat.{ℕ}
use lib.ListN.{length}
use Rattle.rules.specs.Translation.{exception_list, folded_translated, through_stop}
use Rattle.excepted.specs.Exceptions.{Clear}
use Rattle.walks.specs.Walks.{ReadsCodons}
use Rattle.walks.proofs.Walks.{Walk}
use Rattle.walks.proofs.write_to_stop.Given as goal

abbrev pub invariant-loop-i : goal.invariant-loop-i
invariant-loop-i g l = record {
  clear : Clear (exception_list l.e) l.i l.next;
  walk : (t : ℕ) (s : List ℕ) → ReadsCodons (goal.F-post g l.read) t s l.whole → Walk t (exception_list l.e) s (through_stop (folded_translated t (exception_list l.e) s)) l.initial.out l.out l.i;
  counted : l.looked ≡ l.i;
  same : length l.out ≡ length l.initial.out;
}
