-- E10, "Four bits a base": letters two to a byte, each the sum of its bases (A 1, C 2, G 4, T 8), first letter in the high half, the low half of an odd
-- last byte zero.
use Rattle.std.specs.Prelude.{ℕ, zero, suc, ◌+◌, ◌/◌, ◌%◌, not, ◌&&◌, List, [], ◌∷◌, map, eqb, length, get_or, take, replicate, if◌then◌else◌}
use Rattle.rules.specs.declared.Form.{Form}
use Rattle.rules.specs.declared.Form.TheVariants.{Bytes, Packed}
use Rattle.rules.specs.Bytes.{all, Test, ◌↯◌}
use Rattle.rules.specs.Letters.{pick, letters, is_letter}
use Rattle.rules.specs.Reference.{is_size}

-- two letter sets a byte, the high half first
unfoldable pub halves : List ℕ → List ℕ
halves [] = []
halves (b ∷ bs) = b / 16 % 16 ∷ b % 16 ∷ halves bs

-- the letter set at a place, counted from 0; behind the last byte the empty set
unfoldable pub set_at : List ℕ → ℕ → ℕ
set_at bs k = get_or (halves bs) k 0

-- what stands before a set in a list of pairs, and 0 where it is in none
abbrev pub key_of : ℕ → List (ℕ × ℕ) → ℕ
key_of s [] = 0
key_of s (p ∷ ps) = pick (eqb s p.1) p.0 (key_of s ps)

-- the letter of a set; of the empty set 0, which is no letter
unfoldable pub letter_of : ℕ → ℕ
letter_of s = key_of s letters

-- the letters of all halves
unfoldable pub letters_in : List ℕ → List ℕ
letters_in bs = map letter_of (halves bs)

-- half of L, rounded up
abbrev pub half_up : ℕ → ℕ
half_up n = n / 2 + n % 2

-- what the packed bytes of L letters hold. Another number of bytes holds no letters, which is refused with 1; where the spare half, behind the last
-- letter, isn't zero, they stand as L bytes that are no letters, which is refused with 2
unfoldable pub unpacked : ℕ → List ℕ → List ℕ
unpacked n bs =
    if not (eqb (length bs) (half_up n)) then []
    else if not (eqb (set_at bs n) 0) then replicate n 0
    else take n (letters_in bs)

-- 1: L is 0 or above the limit, or the byte count isn't half of L, rounded up; 2: the spare half isn't zero, or a letter set is empty. These are
-- the refusals of the letters that the bytes hold: proofs/Packed has the proof
unfoldable pub packed_tests : ℕ → ℕ → List ℕ → List Test
packed_tests longest n bs =
    not (is_size longest n && eqb (length bs) (half_up n)) ↯ 1
    ∷ not (eqb (set_at bs n) 0 && all is_letter (take n (letters_in bs))) ↯ 2
    ∷ []

-- the letters of a reference, by their form
abbrev pub letters_by : Form → List ℕ → List ℕ
letters_by Bytes s = s
letters_by (Packed n) s = unpacked n s

-- the form of a host's two numbers: 0, a byte a letter, and the size isn't looked at; 1, packed, the size is L. Any other is no form; it stands as
-- packed with L 0, which is refused with 1
abbrev pub form_at : ℕ → ℕ → Form
form_at zero size = Bytes
form_at (suc zero) size = Packed size
form_at (suc (suc n)) size = Packed 0
