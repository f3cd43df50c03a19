-- A table that lists the codon rule holds it: proved once, for whichever table. Assumes nothing.
use mathlib.Core.Path.{◌≡◌}
use Prim.Native.Nat.{ℕ, ◌+◌, ◌*◌, ◌/◌, ◌%◌, ◌<◌}
use native.Mathlib.Omega.{arith}
use lib.ListN.{get_or}
use Rattle.rules.specs.Codons.{codon_rule}
use Rattle.letters.proofs.Listed.{listed, listed_at}
use Rattle.codons.specs.Tables.{HoldsCode}

-- the codon rule at the place k of table t
unfoldable pub rule_at : ℕ → ℕ → ℕ
rule_at t k = codon_rule t (k / 256) (k / 16 % 16) (k % 16)

code_entry : (t table : ℕ) → table ≡ t → (a b c : ℕ) → a < 16 → b < 16 → c < 16
    → get_or (listed (rule_at t) 0 4096) (a * 256 + b * 16 + c) 0 ≡ codon_rule table a b c
unfolding rule_at
code_entry t table is a b c ha hb hc =
    let k : ℕ = a * 256 + b * 16 + c in
    let ea : k / 256 ≡ a = omega arith in
    let eb : k / 16 % 16 ≡ b = omega arith in
    let ec : k % 16 ≡ c = omega arith in
    rw is (rw (ea, eb, ec) at (listed_at 0 (rule_at t) 4096 k (omega arith)))

pub holds_code : (t table : ℕ) → table ≡ t → HoldsCode table (listed (rule_at t) 0 4096)
holds_code t table is = record { entry = code_entry t table is }
