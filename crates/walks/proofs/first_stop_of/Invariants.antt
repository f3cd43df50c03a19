use mathlib.Core.Path.{◌≡◌}
use mathlib.Core.List.{List}
use Prim.Native.Nat.{ℕ}
use Rattle.rules.specs.Translation.{exception_list, before_stop, whole_codons, folded_translated}
use Rattle.excepted.specs.Exceptions.{Clear}
use Rattle.walks.specs.Walks.{ReadsCodons}
use Rattle.walks.proofs.Walks.{stops_from}
use Rattle.walks.proofs.first_stop_of.Given as goal

abbrev pub invariant-loop-i : goal.invariant-loop-i
invariant-loop-i g l = record {
  clear : Clear (exception_list l.e) l.i l.next;
  left : (t : ℕ) (s : List ℕ) → ReadsCodons (goal.F-post g l.read) t s l.whole → stops_from t (exception_list l.e) s l.i ≡ before_stop (folded_translated t (exception_list l.e) (whole_codons s));
}
