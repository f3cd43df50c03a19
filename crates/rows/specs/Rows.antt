-- Codons by the numbers of their letters, and what the rows of residues hold. Assumes nothing: these are definitions.
use Rattle.std.specs.Prelude.{ℕ, zero, suc, ◌+◌, ◌*◌, ◌/◌, ◌%◌, ◌<◌, List, [], ◌∷◌, ◌≡◌, eqb, get_or, if◌then◌else◌}
use Rattle.rules.specs.Codons.{codon_rule}
use Rattle.letters.specs.Sets.{set_at}

-- the residue of three letters, by their numbers
abbrev pub number_rule : ℕ → ℕ → ℕ → ℕ → ℕ
number_rule t a b c = codon_rule t (set_at a) (set_at b) (set_at c)

-- the first two letters of each row: first * 16 + second. The first row is that of no letters, all X
abbrev pub pairs : List ℕ
pairs = 0x44 ∷ 0x00 ∷ 0x03 ∷ 0x08 ∷ 0x09 ∷ 0x30 ∷ 0x33 ∷ 0x38 ∷ 0x39 ∷ 0x60 ∷ 0x70 ∷ 0x80 ∷ 0x83 ∷ 0x88 ∷ 0x89 ∷ 0x90 ∷ 0x93 ∷ 0x96 ∷ 0x98 ∷ 0x99 ∷ 0xe9 ∷ 0xf8 ∷ []

abbrev pub pair_at : ℕ → ℕ
pair_at k = get_or pairs k 0

-- of the first k rows the last with a pair, and the first of all where none has it
unfoldable pub row_in : ℕ → ℕ → ℕ
row_in zero pair = 0
row_in (suc k) pair = if eqb pair (pair_at k) then k else row_in k pair

-- the residues of each row's pair and each third letter
pub record HoldsRows (t : ℕ) (xs : List ℕ) : Type 0 where
  pub entry : (k c : ℕ) → k < 22 → c < 16 → get_or xs (k * 16 + c) 0 ≡ number_rule t (pair_at k / 16) (pair_at k % 16) c

-- the residue of each codon of letters stands at its place: the third letter slowest, then the first
pub record HoldsLetters (t : ℕ) (xs : List ℕ) : Type 0 where
  pub entry : (a b c : ℕ) → a < 16 → b < 16 → c < 16 → get_or xs (c * 256 + a * 16 + b) 0 ≡ number_rule t a b c
