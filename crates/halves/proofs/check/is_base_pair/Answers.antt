-- `halves::check::is_base_pair` meets its contract: antt computes the two tests alike for all bytes. Assumes nothing.
use Rattle.std.proofs.Common.{◌≡◌, ℕ, ◌+◌, ◌%◌, false, not, ◌&&◌, eqb, ltb, refl, arith, rules}
use lib.Bits.{bit_and}
use Rattle.rules.specs.Letters.{letter_set, is_letter}
use Rattle.rules.specs.Letters.{is_base}
use Rattle.letters.proofs.Listed.{at_byte}
use Rattle.rules.specs.Packed.{letter_of}
use Rattle.halves.specs.Halves.{are_pair}
use Rattle.halves.proofs.check.is_base_pair.Goals as goal

pub returns : goal.returns
unfolding are_pair letter_of letter_set is_letter
returns c =
    let less : c.wrapping_sub_u8-less.result ≡ (c.args.b + 239) % 256 = omega arith in
    rw less
    (at_byte false (λ (b : ℕ). ltb 15 b && not (eqb (b % 16) 0) && eqb (bit_and b ((b + 239) % 256)) 0)
    (are_pair is_base) refl c.args.b (search rules))
