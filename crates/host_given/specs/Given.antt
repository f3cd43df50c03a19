-- The numbers that a host gives.
use Rattle.std.specs.Prelude.{ℕ, zero, suc, ℤ, pos, negsuc}
use Rattle.rules.specs.declared.Position.{Position}
use Rattle.rules.specs.declared.Position.TheVariants.{Plus, Minus, Star}
use Rattle.rules.specs.declared.Edit.{Edit}
use Rattle.rules.specs.Values.{kind_at}

-- a position: a signed number p, or a star number q where `star` is 1. A negative q and every other `star` is no position; it stands as star 0,
-- which is refused with 7
abbrev pub position_at : ℕ → ℤ → Position
position_at zero (pos n) = Plus n
position_at zero (negsuc n) = Minus (suc n)
position_at (suc zero) (pos n) = Star n
position_at (suc zero) (negsuc n) = Star 0
position_at (suc (suc star)) p = Star 0

abbrev pub edit_at : ℕ → ℕ → ℤ → ℕ → ℤ → Edit
edit_at kind start_star start end_star end = record { kind = kind_at kind; start = position_at start_star start; end = position_at end_star end }
