-- E9, "A panel profile": a stricter mode; whatever it accepts gets the full module's answer unchanged.
use Rattle.std.specs.Prelude.{ℕ, List, [], ◌∷◌, ◌++◌, Bool, true, false, ◌&&◌, ◌||◌, not, eqb, get_or}
use Rattle.rules.specs.declared.Limits.{Limits}
use Rattle.rules.specs.declared.Kind.{Kind}
use Rattle.rules.specs.declared.Kind.TheVariants.{Substitution, Deletion, Delins, Insertion, Duplication, Inversion, Identity, Other}
use Rattle.rules.specs.declared.Position.{Position}
use Rattle.rules.specs.Bytes.{all, Test, ◌↯◌, first_number, refused}
use Rattle.rules.specs.Letters.{is_base}
use Rattle.rules.specs.Reference.{Reference, reference_tests}
use Rattle.rules.specs.Position.{is_before, is_behind}
use Rattle.rules.specs.Edit.{Asked, is, kind_of, start_place, edit_tests}
use Rattle.rules.specs.Altered.{is_uneven}
use Rattle.rules.specs.Record.{is_unknown}
use Rattle.rules.specs.Refusal.{Room, room_refusal}
use Rattle.rules.specs.Answer.{Outcome, writes_nothing, writes_all, outcome_by}
use Rattle.rules.specs.Longest.{with_longest}

-- substitutions, deletions, duplications and insertions
unfoldable pub is_panel_kind : Kind → Bool
is_panel_kind Substitution = true
is_panel_kind Deletion = true
is_panel_kind Duplication = true
is_panel_kind Insertion = true
is_panel_kind Delins = false
is_panel_kind Inversion = false
is_panel_kind Identity = false
is_panel_kind Other = false

-- in the CDS: no negative and no star position
unfoldable pub is_inside : Position → Bool
is_inside p = not (is_before p) && not (is_behind p)

-- letters A, C, G, T only, in the whole transcript and among the new bases
unfoldable pub has_bases : Reference → Asked → Bool
has_bases r e = all is_base r.letters && all is_base e.new

-- a kind of the profile, with both ends in the CDS
unfoldable pub is_of_panel : Asked → Bool
is_of_panel e = is_panel_kind (kind_of e) && is_inside e.edit.start && is_inside e.edit.end

-- the base named in a substitution is the one there; in other kinds it isn't looked at
unfoldable pub names_base : Reference → Asked → ℕ → Bool
names_base r e named = not (is Substitution (kind_of e)) || eqb named (get_or r.letters (start_place r e) 0)

-- 40, a reference letter or new base outside the four; 41, a kind or position outside the profile; 42, net change not divisible by three;
-- 43, named base differs
unfoldable pub profile_tests : Reference → Asked → ℕ → List Test
profile_tests r e named =
    not (has_bases r e) ↯ 40
    ∷ not (is_of_panel e) ↯ 41
    ∷ is_uneven r e ↯ 42
    ∷ not (names_base r e named) ↯ 43
    ∷ []

-- in that order after 10 and before Unknown
unfoldable pub panel_refusal : Limits → Reference → Asked → ℕ → ℕ
panel_refusal m r e named = first_number (reference_tests m.longest r ++ edit_tests m.most r e ++ profile_tests r e named)

unfoldable pub panel_outcome : Limits → Reference → Asked → ℕ → Room → Outcome
panel_outcome m r e named room = outcome_by (panel_refusal m r e named) (is_unknown r e) (room_refusal r e room) (writes_all r e)

-- with the longest edit of a call (E12)
unfoldable pub panel_within : ℕ → Reference → Asked → ℕ → Room → Outcome
panel_within n r e named room = with_longest n (writes_nothing (refused 62)) (λ m. panel_outcome m r e named room)
