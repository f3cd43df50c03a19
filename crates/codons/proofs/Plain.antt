-- A table that lists the rule of plain codons holds it, for whichever code. Assumes nothing.
use mathlib.Core.Path.{◌≡◌}
use Prim.Native.Nat.{ℕ, ◌+◌, ◌*◌, ◌/◌, ◌%◌, ◌<◌}
use native.Mathlib.Omega.{arith}
use lib.ListN.{get_or}
use Rattle.rules.specs.Codons.{codon_rule}
use Rattle.letters.specs.Sets.{base_set}
use Rattle.letters.proofs.Listed.{listed, listed_at}
use Rattle.codons.specs.Tables.{HoldsPlain}

-- the codon rule at the place k of the plain codons of table t
unfoldable pub plain_at : ℕ → ℕ → ℕ
plain_at t k = codon_rule t (base_set (k / 16)) (base_set (k / 4 % 4)) (base_set (k % 4))

plain_entry : (t table : ℕ) → table ≡ t → (a b c : ℕ) → a < 4 → b < 4 → c < 4
    → get_or (listed (plain_at t) 0 64) (a * 16 + b * 4 + c) 0 ≡ codon_rule table (base_set a) (base_set b) (base_set c)
unfolding plain_at
plain_entry t table is a b c ha hb hc =
    let k : ℕ = a * 16 + b * 4 + c in
    let ea : k / 16 ≡ a = omega arith in
    let eb : k / 4 % 4 ≡ b = omega arith in
    let ec : k % 4 ≡ c = omega arith in
    rw is (rw (ea, eb, ec) at (listed_at 0 (plain_at t) 64 k (omega arith)))

pub holds_plain : (t table : ℕ) → table ≡ t → HoldsPlain table (listed (plain_at t) 0 64)
holds_plain t table is = record { entry = plain_entry t table is }
