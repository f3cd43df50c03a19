-- "Positions and edits": a position is a signed number p, never zero, or a star number q from 1 to 65,535.
use Rattle.std.specs.Prelude.{ℕ, ◌+◌, ◌-◌, min, Bool, true, false, ◌||◌, eqb, ltb}
use Rattle.rules.specs.declared.Position.{Position}
use Rattle.rules.specs.declared.Position.TheVariants.{Plus, Minus, Star}

-- counted from 0: p > 0 is cs+p-2; p < 0 is cs-1+p; star q is ce+q-1
unfoldable pub place : ℕ → ℕ → Position → ℕ
place cs ce (Plus p) = cs + p - 2
place cs ce (Minus p) = cs - 1 - p
place cs ce (Star q) = ce + q - 1

-- 0; past the CDS; before base 1 of the transcript; star 0 or above 65,535
unfoldable pub is_outside : ℕ → ℕ → Position → Bool
is_outside cs ce (Plus p) = eqb p 0 || ltb (ce + 1 - cs) p
is_outside cs ce (Minus p) = eqb p 0 || ltb (cs - 1) p
is_outside cs ce (Star q) = eqb q 0 || ltb 65535 q

-- the index used in editing, as setup_incorporate: p < 0 gives cs-1, p > 0 its place, star q min(ce+q-1, L)
unfoldable pub index : ℕ → ℕ → ℕ → Position → ℕ
index cs ce L (Plus p) = cs + p - 2
index cs ce L (Minus p) = cs - 1
index cs ce L (Star q) = min (ce + q - 1) L

-- before the CDS
unfoldable pub is_before : Position → Bool
is_before (Plus p) = false
is_before (Minus p) = true
is_before (Star q) = false

-- behind the CDS
unfoldable pub is_behind : Position → Bool
is_behind (Plus p) = false
is_behind (Minus p) = false
is_behind (Star q) = true

-- s or e in a silent record's number: p, q for a star, 1 where p < 0
unfoldable pub counted : Position → ℕ
counted (Plus p) = p
counted (Minus p) = 1
counted (Star q) = q
