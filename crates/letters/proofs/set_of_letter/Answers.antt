-- `letters::set_of_letter` meets its contract: antt computes the sets alike for all letters. Assumes nothing.
use Rattle.std.specs.Prelude.{if◌then◌else◌}
use mathlib.Core.Path.{◌≡◌, refl}
use mathlib.Core.Bool.{true}
use Prim.Native.Nat.{ℕ, ◌*◌, ◌/◌, ◌%◌, ◌^◌}
use native.Mathlib.Omega.{arith}
use lib.Dec.{ltb}
use Rattle.rules.specs.Letters.{letter_set, is_letter, upper, folded}
use Rattle.letters.specs.Sets.{folded_set}
use Rattle.letters.proofs.Sets.{at_letter}
use Rattle.letters.proofs.set_of_letter.Goals as goal

packed-set : (b : ℕ) → is_letter (folded b) ≡ true → (if ltb (b % 32) 16 then 0x0f30c00b400d2e10 else 0x000000a097886500) / 2 ^ (b % 32 % 16 * 4) % 16 ≡ folded_set b
unfolding letter_set is_letter upper folded folded_set
packed-set b e =
    at_letter 0 (λ (k : ℕ). (if ltb (k % 32) 16 then 0x0f30c00b400d2e10 else 0x000000a097886500) / 2 ^ (k % 32 % 16 * 4) % 16) folded_set refl b e

pub returns : goal.returns
returns c = record { value = rw c.sets_of_half.ensures (packed-set c.args.b c.requires); small = omega arith }
