-- E12: with a smaller longest edit, refusal 10's limit reads that number.
use Rattle.std.specs.Prelude.{ℕ, Bool, [], eqb, leb, if◌then◌else◌}
use Rattle.rules.specs.declared.Limits.{Limits}
use Rattle.rules.specs.Bytes.{refused}
use Rattle.rules.specs.Reference.{Reference}
use Rattle.rules.specs.Edit.{Asked}
use Rattle.rules.specs.Refusal.{limits, Room}
use Rattle.rules.specs.Answer.{Outcome, writes_nothing, outcome}
use Rattle.rules.specs.Check.{Proposal, CheckOutcome, checks_nothing, check_outcome}
use Rattle.rules.specs.Pair.{PairRoom, PairOutcome, pair_by, pair_outcome}

-- what a call may give as its longest edit: 1 to 4,096, or 0 for 4,096
unfoldable pub is_given_longest : ℕ → Bool
is_given_longest n = leb n limits.most

unfoldable pub limits_with : ℕ → Limits
limits_with n = record { longest = limits.longest; most = if eqb n 0 then limits.most else n }

-- 62, before 1, for any other number; else what is answered within these limits
unfoldable pub with_longest : {A : Type 0} → ℕ → A → (Limits → A) → A
with_longest n refusal62 answer = if is_given_longest n then answer (limits_with n) else refusal62

unfoldable pub outcome_within : ℕ → Reference → Asked → Room → Outcome
outcome_within n r e room = with_longest n (writes_nothing (refused 62)) (λ m. outcome m r e room)

unfoldable pub check_within : ℕ → Reference → Asked → Proposal → Room → CheckOutcome
check_within n r e p room = with_longest n (checks_nothing 62) (λ m. check_outcome m r e p room)

-- a pair has one for each edit, and 62 if either is bad
unfoldable pub pair_within : ℕ → ℕ → Reference → Asked → Asked → PairRoom → PairOutcome
pair_within n k r e f room =
    with_longest n (pair_by 62 [] [])
    (λ m. with_longest k (pair_by 62 [] [])
    (λ l. pair_outcome (record { longest = m.longest; first = m.most; second = l.most }) r e f room))
