-- The transcript that two plans make, and what is known of them where it is written.
use Rattle.std.specs.Prelude.{ℕ, ◌+◌, ◌-◌, ◌≤◌, ◌<◌, ◌≡◌, true, List, [], ltb, length, drop, if◌then◌else◌}
use Rattle.rules.specs.declared.Cds.{Cds}
use Rattle.rules.specs.declared.Exceptions.{Exceptions}
use Rattle.rules.specs.declared.Edit.{Edit}
use Rattle.rules.specs.Bytes.{all, first_number}
use Rattle.rules.specs.Letters.{is_letter}
use Rattle.rules.specs.Translation.{translated, through_stop, residue_count}
use Rattle.rules.specs.Edit.{edit_tests}
use Rattle.rules.specs.Altered.{Swap}
use Rattle.rules.specs.Refusal.{reference_refusal}
use Rattle.rules.specs.Pair.{pair_tests, PairRoom, pair_room_tests, PairLimits, PairOutcome, pair_by}
use Rattle.rules.specs.Views.{bare, asked, reference_of}
use Rattle.rules.proofs.Pairs.{five_parts}
use Rattle.letters.specs.Sets.{is_base}
use Rattle.reference.specs.declared.Known.{Known}
use Rattle.reference.specs.Bounds.{Sound}
use Rattle.reference.specs.Known.{known_of}
use Rattle.edits.specs.declared.plans.Plan.{Plan}
use Rattle.edits.specs.Plans.{plan_of, goes_in}
use Rattle.transcript.specs.Carrying.{Sourced}
use Rattle.joints.specs.Joints.{Knowing}

-- what a plan replaces by what
unfoldable pub swap_of : Plan → List ℕ → List ℕ → Swap
swap_of p letters new = record { from = p.from; to = p.to; put = goes_in p letters new }

-- the five parts of two plans, in the order in which they lie
unfoldable pub both_by : Plan → Plan → List ℕ → List ℕ → List ℕ → List ℕ
both_by p q letters new other =
    if ltb p.to q.from then five_parts (swap_of p letters new) (swap_of q letters other) letters
    else five_parts (swap_of q letters other) (swap_of p letters new) letters

-- the plan behind: what lies between, what goes in and the tail have room
pub record Behind (to : ℕ) (q : Plan) (letters other : List ℕ) (room : ℕ) : Type 0 where
  pub source : Sourced q letters other
  pub apart : to ≤ q.from
  pub rising : q.from ≤ q.to
  pub ends : q.to ≤ length letters
  pub written : (q.from - to) + (q.kept + (length letters - q.to)) ≤ room

-- two plans in their order, and room for all five parts
pub record InRow (p q : Plan) (letters new other : List ℕ) (room : ℕ) : Type 0 where
  pub source : Sourced p letters new
  pub rising : p.from ≤ p.to
  pub behind : Behind p.to q letters other ((q.from - p.to) + (q.kept + (length letters - q.to)))
  pub written : p.from + (p.kept + ((q.from - p.to) + (q.kept + (length letters - q.to)))) ≤ room

-- the protein of a transcript, read without exceptions
unfoldable pub protein_in : Cds → List ℕ → List ℕ
protein_in c transcript = through_stop (translated c.table [] (drop (c.cs - 1) transcript))

-- a transcript that two edits make of a checked reference, and room for its protein
pub record Codes (k : Known) (new other transcript altered : List ℕ) : Type 0 where
  pub code : k.cds.table < 3
  pub first : 1 ≤ k.cds.cs
  pub front : k.cds.cs - 1 ≤ length transcript
  pub letters : all is_letter transcript ≡ true
  pub plain : k.plain ≡ true → all is_base new ≡ true → all is_base other ≡ true → all is_base transcript ≡ true
  pub room : residue_count (length transcript + 1 - k.cds.cs) ≤ length altered

-- the two buffers lent
abbrev pub pair_room_of : List ℕ → List ℕ → PairRoom
pair_room_of t a = record { transcript = length t; altered = length a }

-- L plus both net changes, by the plans' lengths
abbrev pub length_by : Plan → Plan → List ℕ → ℕ
length_by p q letters = p.length + q.length - length letters

-- 11 or 12, else the transcript of both and its protein
unfoldable pub carried_outcome : Cds → Plan → Plan → List ℕ → List ℕ → List ℕ → PairRoom → PairOutcome
carried_outcome c p q letters new other room =
    pair_by (first_number (pair_room_tests c.cs (length_by p q letters) room)) (both_by p q letters new other) (protein_in c (both_by p q letters new other))

-- the plans of two accepted edits that lie apart, of a checked reference
pub record Goes (s : List ℕ) (k : Known) (p q : Plan) (new other : List ℕ) : Type 0 where
  pub limits : PairLimits
  pub exceptions : Exceptions
  pub accepted : reference_refusal limits.longest (reference_of s k.cds exceptions) ≡ 0
  pub is : k ≡ known_of k.form s k.cds exceptions
  pub sound : Sound (bare s k.cds)
  pub small : (limits.first < 4294967296) × (limits.second < 4294967296)
  pub first : Edit
  pub second : Edit
  pub first-allowed : first_number (edit_tests limits.first (reference_of s k.cds exceptions) (asked first new)) ≡ 0
  pub second-allowed : first_number (edit_tests limits.second (reference_of s k.cds exceptions) (asked second other)) ≡ 0
  pub joined : first_number (pair_tests (reference_of s k.cds exceptions) (asked first new) (asked second other)) ≡ 0
  pub first-plan : p ≡ plan_of (reference_of s k.cds exceptions) (asked first new)
  pub second-plan : q ≡ plan_of (reference_of s k.cds exceptions) (asked second other)

-- a reference that was checked, its exceptions not at hand, and limits that keep each length small
pub record AcceptsPair (s : List ℕ) (k : Known) (most other : ℕ) : Type 0 where
  pub known : Knowing s k
  pub longest : ℕ
  pub accepted : reference_refusal longest (reference_of s k.cds known.exceptions) ≡ 0
  pub small : (most < 4294967296) × (other < 4294967296)
