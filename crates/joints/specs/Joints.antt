-- What is decided of two edits of a checked reference before a byte is written.
use Rattle.std.specs.Prelude.{ℕ, ◌≡◌, List, ◌++◌, take}
use Rattle.rules.specs.declared.Exceptions.{Exceptions}
use Rattle.rules.specs.Bytes.{first_number, Result, unless}
use Rattle.rules.specs.Reference.{Reference}
use Rattle.rules.specs.Edit.{Asked, edit_tests}
use Rattle.rules.specs.Pair.{pair_tests}
use Rattle.reference.specs.declared.Known.{Known}
use Rattle.reference.specs.Known.{known_of, Checks}
use Rattle.edits.specs.Plans.{plan_of}
use Rattle.joints.specs.declared.Joint.{Joint}

-- what is known of a checked reference, its exceptions not at hand
pub record Knowing (s : List ℕ) (k : Known) : Type 0 where
  pub exceptions : Exceptions
  pub is : k ≡ known_of k.form s k.cds exceptions
  pub checks : Checks s k

-- the first's 7 to 10, then the second's, 51 and 52, for which nothing is worked out, and 0 where none applies; `most` and `other` are the most
-- new bases of each
unfoldable pub early_pair : ℕ → ℕ → Reference → Asked → Asked → ℕ
early_pair most other r e f = first_number (edit_tests most r e ++ (edit_tests other r f ++ take 2 (pair_tests r e f)))

-- the same and 53, else what each does
unfoldable pub joint_of : ℕ → ℕ → Reference → Asked → Asked → Result Joint
joint_of most other r e f =
    unless (first_number (edit_tests most r e ++ (edit_tests other r f ++ pair_tests r e f)))
    (record { first = plan_of r e; second = plan_of r f })
