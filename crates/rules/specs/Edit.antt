-- "Positions and edits": an edit and its new bases, and refusals 7 to 10.
use Rattle.std.specs.Prelude.{ℕ, ◌+◌, min, List, [], ◌∷◌, Bool, false, ◌&&◌, ◌||◌, not, eqb, leb, ltb, length}
use Rattle.rules.specs.declared.Kind.{Kind}
use Rattle.rules.specs.declared.Kind.TheVariants.{Substitution, Deletion, Delins, Insertion, Duplication, Inversion, Identity, Other}
use Rattle.rules.specs.declared.Edit.{Edit}
use Rattle.rules.specs.Bytes.{is_none, all, Test, ◌↯◌}
use Rattle.rules.specs.Letters.{is_letter}
use Rattle.rules.specs.Reference.{Reference, size}
use Rattle.rules.specs.Position.{place, is_outside, index, is_before, is_behind}

-- an edit and its new bases
pub record Asked : Type 0 where
  pub edit : Edit
  pub new : List ℕ

-- the number that a host gives each kind; every other number is an unknown kind, here 0
abbrev pub kind_number : Kind → ℕ
kind_number Other = 0
kind_number Substitution = 1
kind_number Deletion = 2
kind_number Delins = 3
kind_number Insertion = 4
kind_number Duplication = 5
kind_number Inversion = 6
kind_number Identity = 7

-- the same kind
abbrev pub is : Kind → Kind → Bool
is a b = eqb (kind_number a) (kind_number b)

abbrev pub kind_of : Asked → Kind
kind_of e = e.edit.kind

unfoldable pub start_place : Reference → Asked → ℕ
start_place r e = place r.cs r.ce e.edit.start

unfoldable pub end_place : Reference → Asked → ℕ
end_place r e = place r.cs r.ce e.edit.end

-- the start index
unfoldable pub start_index : Reference → Asked → ℕ
start_index r e = index r.cs r.ce (size r) e.edit.start

-- `end` is the end index plus one, at most L
unfoldable pub end_index : Reference → Asked → ℕ
end_index r e = min (index r.cs r.ce (size r) e.edit.end + 1) (size r)

-- the end's place is L or more
unfoldable pub ends_past : Reference → Asked → Bool
ends_past r e = leb (size r) (end_place r e)

-- a position is 0, star 0 or above 65,535, outside as said, or a duplication's end has place L or more
unfoldable pub is_misplaced : Reference → Asked → Bool
is_misplaced r e =
    is_outside r.cs r.ce e.edit.start
    || is_outside r.cs r.ce e.edit.end
    || (is Duplication (kind_of e) && ends_past r e)

-- start place after end place, insertion anchors not neighbours, or a substitution's two places differ
unfoldable pub is_disordered : Reference → Asked → Bool
is_disordered r e =
    ltb (end_place r e) (start_place r e)
    || (is Insertion (kind_of e) && not (eqb (end_place r e) (start_place r e + 1)))
    || (is Substitution (kind_of e) && not (eqb (end_place r e) (start_place r e)))

-- both ends before the CDS, both behind it, or an insertion whose left anchor is before it
unfoldable pub is_out_of_cds : Asked → Bool
is_out_of_cds e =
    (is_before e.edit.start && is_before e.edit.end)
    || (is_behind e.edit.start && is_behind e.edit.end)
    || (is Insertion (kind_of e) && is_before e.edit.start)

-- new bases, 1 to `most` of them, all of the fifteen letters
unfoldable pub are_new_bases : ℕ → List ℕ → Bool
are_new_bases most s = leb 1 (length s) && leb (length s) most && all is_letter s

-- the new bases are those that the kind takes: one, 1 to `most`, or none; an unknown kind is refused whatever they are
unfoldable pub fit_bases : ℕ → Kind → List ℕ → Bool
fit_bases most Substitution s = are_new_bases 1 s
fit_bases most Deletion s = is_none s
fit_bases most Delins s = are_new_bases most s
fit_bases most Insertion s = are_new_bases most s
fit_bases most Duplication s = is_none s
fit_bases most Inversion s = is_none s
fit_bases most Identity s = is_none s
fit_bases most Other s = false

-- 7 to 10
unfoldable pub edit_tests : ℕ → Reference → Asked → List Test
edit_tests most r e =
    is_misplaced r e ↯ 7
    ∷ is_disordered r e ↯ 8
    ∷ is_out_of_cds e ↯ 9
    ∷ not (fit_bases most (kind_of e) e.new) ↯ 10
    ∷ []
