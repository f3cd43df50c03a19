-- What an edit of the profile is judged by, in numbers.
use Rattle.std.specs.Prelude.{ℕ, ◌%◌, ◌≡◌, List, [], ◌∷◌, Bool, false, not, eqb}
use Rattle.rules.specs.declared.Kind.{Kind}
use Rattle.rules.specs.declared.Kind.TheVariants.{Substitution, Deletion, Delins, Insertion, Duplication, Inversion, Identity, Other}
use Rattle.rules.specs.Bytes.{Test, ◌↯◌, first_number}
use Rattle.rules.specs.Edit.{Asked, edit_tests}
use Rattle.rules.specs.Views.{bare}
use Rattle.reference.specs.declared.Known.{Known}
use Rattle.reference.specs.Known.{Checks}

-- whether the net change isn't divisible by three, by the bases named and the new ones
unfoldable pub uneven_by : Kind → ℕ → ℕ → Bool
uneven_by Substitution span len = false
uneven_by Deletion span len = not (eqb (span % 3) 0)
uneven_by Duplication span len = not (eqb (span % 3) 0)
uneven_by Insertion span len = not (eqb (len % 3) 0)
uneven_by Delins span len = false
uneven_by Inversion span len = false
uneven_by Identity span len = false
uneven_by Other span len = false

-- 40 to 43, by what the four tests say
abbrev pub tests_by : Bool → Bool → Bool → Bool → List Test
tests_by bases panel uneven names = not bases ↯ 40 ∷ not panel ↯ 41 ∷ uneven ↯ 42 ∷ not names ↯ 43 ∷ []

-- an edit of a checked reference to which none of 7 to 10 applies
pub record Editable (s : List ℕ) (k : Known) (e : Asked) : Type 0 where
  pub checks : Checks s k
  pub most : ℕ
  pub clear : first_number (edit_tests most (bare s k.cds) e) ≡ 0
