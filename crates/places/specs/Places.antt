-- Codons by index, and where their residues stand in a table, by the numbers of their letters. Assumes nothing: these are definitions.
use Rattle.std.specs.Prelude.{ℕ, ◌+◌, ◌*◌, ◌/◌, ◌%◌, Bool, List, get_or}
use Rattle.std.specs.Int.Bits.{bit_and}
use Rattle.rules.specs.Bytes.{all}
use Rattle.rules.specs.Codons.{codon}
use Rattle.rules.specs.Translation.{whole_codons}
use Rattle.letters.specs.Sets.{folds_to_base, letter_number}

-- the residue of codon i, counted from 0, of a list of letters
unfoldable pub codon_at : ℕ → List ℕ → ℕ → ℕ
codon_at t s i = codon t (get_or s (i * 3) 0) (get_or s (i * 3 + 1) 0) (get_or s (i * 3 + 2) 0)

-- the number of a base's letter: A 0, C 1, T and U 2, G 3
abbrev pub number_of : ℕ → ℕ
number_of b = b / 2 % 4

-- where the residue of plain codon i stands among the 64
unfoldable pub place_at : List ℕ → ℕ → ℕ
place_at s i = number_of (get_or s (i * 3) 0) * 16 + number_of (get_or s (i * 3 + 1) 0) * 4 + number_of (get_or s (i * 3 + 2) 0)

-- where the residue of codon i of letters stands among the 4,096
unfoldable pub entry_at : List ℕ → ℕ → ℕ
entry_at s i = letter_number (get_or s (i * 3 + 2) 0) * 256 + letter_number (get_or s (i * 3) 0) * 16 + letter_number (get_or s (i * 3 + 1) 0)

-- of six letters in a number, the first lowest: the places of their two codons, from bit 10 on and from bit 34 on
unfoldable pub entries_of : ℕ → ℕ
entries_of six = bit_and (bit_and six 0x1f1f1f1f1f1f + bit_and six 0x0e0e0e0e0e0e * 4 + 0x010101010101) 0x3c3c3c3c3c3c * 4097

-- each byte of the whole codons is a base of plain translation
unfoldable pub fold_to_bases : List ℕ → Bool
fold_to_bases s = all folds_to_base (whole_codons s)

-- three bytes from place k on as one number, the first lowest
abbrev pub three_at : List ℕ → ℕ → ℕ
three_at s k = get_or s k 0 + get_or s (k + 1) 0 * 256 + get_or s (k + 2) 0 * 65536
