-- What is left to be written before the first codon. Assumes nothing.
use mathlib.Core.Path.{◌≡◌, ap, ◌∙◌}
use mathlib.Core.List.{List, []}
use Prim.Native.Nat.{ℕ}
use Rattle.rules.specs.Bytes.{over}
use Rattle.rules.specs.Translation.{folded_translated}
use Rattle.rules.proofs.Over.{over_from, from_start}
use Rattle.places.proofs.Residues.{left_from, left-all}

pub left-start : (t : ℕ) (s out : List ℕ) → over_from 0 (left_from t [] s 0) out ≡ over (folded_translated t [] s) out
left-start t s out = ap (λ (l : List ℕ). over_from 0 l out) (left-all t [] s) ∙ from_start (folded_translated t [] s) out
