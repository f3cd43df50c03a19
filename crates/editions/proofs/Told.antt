-- What a comparison tells admits one answer: the second's numbers are above the first's, and two refusals with one number are the same.
-- Assumes nothing.
use mathlib.Core.Path.{◌≡◌, ap}
use Prim.Native.Nat.{ℕ, ◌+◌}
use native.Mathlib.Omega.{arith}
use Rattle.std.specs.Prelude.{Ok, Err}
use Rattle.std.specs.Prelude.{Result as Returned}
use Rattle.rules.specs.Bytes.{given, refused}
use Rattle.rules.proofs.Told.{number_few, number_once}
use Rattle.editions.specs.declared.Uncompared.{Uncompared}
use Rattle.editions.specs.declared.Uncompared.TheVariants.{First, Second}
use Rattle.editions.specs.Uncompared.{uncompared_number, compared_told}

pub uncompared_once : (u v : Uncompared) → uncompared_number u ≡ uncompared_number v → u ≡ v
uncompared_once (First r) (First s) h = ap First (number_once r s h)
uncompared_once (First r) (Second s) h = absurd (omega (arith, h, number_few r))
uncompared_once (Second r) (First s) h = absurd (omega (arith, h, number_few s))
uncompared_once (Second r) (Second s) h = ap Second (number_once r s (omega (arith, h)))

pub compared_once : {A : Type 0} → (x y : Returned A Uncompared) → compared_told x ≡ compared_told y → x ≡ y
compared_once (Ok x) (Ok y) h = ap Ok cc
compared_once (Ok x) (Err v) h = let z : ◌≡◌ {A = ℕ} 0 1 = cc in absurd (omega arith)
compared_once (Err u) (Ok y) h = let z : ◌≡◌ {A = ℕ} 0 1 = cc in absurd (omega arith)
compared_once (Err u) (Err v) h = ap Err (uncompared_once u v cc)
