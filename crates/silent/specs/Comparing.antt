-- What is known where R is compared with the protein that a plan makes.
use Rattle.std.specs.Prelude.{ℕ, ◌+◌, ◌-◌, ◌/◌, ◌≤◌, ◌<◌, ◌≡◌, List, length, drop, get_or}
use Rattle.rules.specs.declared.Cds.{Cds}
use Rattle.rules.specs.declared.Exceptions.{Exceptions}
use Rattle.rules.specs.Bytes.{byte, count}
use Rattle.rules.specs.Translation.{exception_list, excepted, translated, through_stop}
use Rattle.rules.specs.Trims.{common_prefix}
use Rattle.rules.specs.Reference.{reference_protein}
use Rattle.rules.specs.Exceptions.{moved_all}
use Rattle.rules.specs.Refusal.{reference_refusal}
use Rattle.rules.specs.Views.{reference_of}
use Rattle.places.specs.Places.{codon_at}
use Rattle.edits.specs.declared.plans.Plan.{Plan}
use Rattle.transcript.specs.Carrying.{carried_by}
use Rattle.altered.specs.Over.{Makes}

-- the transcript that a plan makes, from the CDS's first base on
unfoldable pub coding_by : Cds → Plan → List ℕ → List ℕ → List ℕ
coding_by c p letters new = drop (c.cs - 1) (carried_by p letters new)

-- its protein, with exceptions
unfoldable pub protein_with : Cds → Exceptions → Plan → List ℕ → List ℕ → List ℕ
protein_with c moved p letters new = through_stop (translated c.table (exception_list moved) (coding_by c p letters new))

-- an accepted reference whose R has at most one stop, R itself, a plan that leaves the letters before the CDS, and the exceptions of what it makes
pub record Compares (s : List ℕ) (c : Cds) (e moved : Exceptions) (protein : List ℕ) (p : Plan) (new : List ℕ) : Type 0 where
  pub makes : Makes p s new
  pub longest : ℕ
  pub accepted : reference_refusal longest (reference_of s c e) ≡ 0
  pub read : protein ≡ reference_protein (reference_of s c e)
  pub once : count (byte "*") protein ≤ 1
  pub front : c.cs - 1 ≤ p.from
  pub long : p.length ≡ length (carried_by p s new)
  pub few : moved.count ≤ 16
  pub moves : exception_list moved ≡ moved_all (common_prefix s (carried_by p s new)) (c.cs - 1) s (carried_by p s new) (exception_list e)

-- from codon k on, n codons of what a plan makes read as residues of R, none of them its last, and a whole codon is left behind them
pub record Alike (c : Cds) (moved : Exceptions) (p : Plan) (letters new protein : List ℕ) (k n : ℕ) : Type 0 where
  pub few : k + n < length protein
  pub more : k + n < (p.length - (c.cs - 1)) / 3
  pub each : (i : ℕ) → i < n → get_or protein (k + i) 0 ≡ excepted (exception_list moved) (k + i + 1) (codon_at c.table (coding_by c p letters new) (k + i))
