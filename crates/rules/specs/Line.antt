-- "Text program": the form of a line.
use Rattle.std.specs.Prelude.{ℕ, List, [], ◌∷◌, Bool, false, ◌&&◌, eqb, leb, length, take, drop, if◌then◌else◌}
use Rattle.std.proofs.Math.Option.{Option, none, some}
use Rattle.rules.specs.declared.Limits.{Limits}
use Rattle.rules.specs.declared.Position.{Position}
use Rattle.rules.specs.declared.Position.TheVariants.{Plus, Minus, Star}
use Rattle.rules.specs.declared.Kind.{Kind}
use Rattle.rules.specs.declared.Kind.TheVariants.{Substitution, Deletion, Delins, Insertion, Duplication, Inversion, Identity}
use Rattle.rules.specs.Bytes.{bytes, byte, same, all, is_capital}
use Rattle.rules.specs.Reference.{Reference, at_stop}
use Rattle.rules.specs.Edit.{Asked}
use Rattle.rules.specs.Number.{Numbered, number}

abbrev pub and_then : {A B : Type 0} → Option A → (A → Option B) → Option B
and_then none f = none
and_then (some a) f = f a

-- a position and what stands behind it
pub record Placed : Type 0 where
  pub position : Position
  pub rest : List ℕ

abbrev pub placed : (ℕ → Position) → List ℕ → Option Placed
placed f s = and_then (number s) (λ n. some (record { position = f n.number; rest = n.rest }))

-- `7`, `-2`, `*3`
unfoldable pub position : List ℕ → Option Placed
position [] = none
position (b ∷ s) =
    if eqb b (byte "-") then placed Minus s
    else if eqb b (byte "*") then placed Star s
    else placed Plus (b ∷ s)

-- one position or two joined by `_`, and what stands behind them
pub record Range : Type 0 where
  pub start : Position
  pub end : Position
  pub rest : List ℕ

unfoldable pub joined : Position → List ℕ → Option Range
joined p [] = some (record { start = p; end = p; rest = [] })
joined p (b ∷ s) =
    if eqb b (byte "_")
    then and_then (position s) (λ q. some (record { start = p; end = q.position; rest = q.rest }))
    else some (record { start = p; end = p; rest = b ∷ s })

unfoldable pub range : List ℕ → Option Range
range s = and_then (position s) (λ p. joined p.position p.rest)

-- one or more bytes A to Z; a wrong one is left to 2 and 10
unfoldable pub are_capitals : List ℕ → Bool
are_capitals s = leb 1 (length s) && all is_capital s

unfoldable pub starts_with : List ℕ → List ℕ → Bool
starts_with t s = same (take (length t) s) t

-- `A>G`: in a substitution one byte on each side
unfoldable pub is_arrow : List ℕ → Bool
is_arrow [] = false
is_arrow (a ∷ []) = false
is_arrow (a ∷ b ∷ []) = false
is_arrow (a ∷ b ∷ c ∷ []) = eqb b (byte ">") && is_capital a && is_capital c
is_arrow (a ∷ b ∷ c ∷ d ∷ s) = false

-- what stands behind the positions: the kind and its new bases
pub record Verb : Type 0 where
  pub kind : Kind
  pub new : List ℕ

abbrev pub verb_of : Kind → List ℕ → Option Verb
verb_of k s = some (record { kind = k; new = s })

-- with bases
unfoldable pub base_verb : List ℕ → Option Verb
base_verb s =
    if starts_with (bytes "delins") s && are_capitals (drop 6 s) then verb_of Delins (drop 6 s)
    else if starts_with (bytes "ins") s && are_capitals (drop 3 s) then verb_of Insertion (drop 3 s)
    else if is_arrow s then verb_of Substitution (drop 2 s)
    else none

unfoldable pub verb : List ℕ → Option Verb
verb s =
    if same s (bytes "del") then verb_of Deletion []
    else if same s (bytes "dup") then verb_of Duplication []
    else if same s (bytes "inv") then verb_of Inversion []
    else if same s (bytes "=") then verb_of Identity []
    else base_verb s

-- an edit line
unfoldable pub edit_line : List ℕ → Option Asked
edit_line s =
    and_then (range s) (λ g. and_then (verb g.rest) (λ v.
    some (record { edit = record { kind = v.kind; start = g.start; end = g.end }; new = v.new })))

-- what stands behind one space
unfoldable pub behind_space : List ℕ → Option (List ℕ)
behind_space [] = none
behind_space (b ∷ s) = if eqb b (byte " ") then some s else none

-- a number, and what stands behind the space behind it
unfoldable pub spaced : List ℕ → Option Numbered
spaced s = and_then (number s) (λ n. and_then (behind_space n.rest) (λ t. some (record { number = n.number; rest = t })))

unfoldable pub behind_ref : List ℕ → Option (List ℕ)
behind_ref s = if starts_with (bytes "ref ") s then some (drop 4 s) else none

-- `ref CS CE TABLE LETTERS`
unfoldable pub reference_line : List ℕ → Option Reference
reference_line s =
    and_then (behind_ref s) (λ a. and_then (spaced a) (λ cs. and_then (spaced cs.rest) (λ ce. and_then (spaced ce.rest) (λ t.
    if are_capitals t.rest
    then some (record { letters = t.rest; cs = cs.number; ce = ce.number; table = t.number; exceptions = []; end = at_stop })
    else none))))

-- what the program takes: transcripts of 1 to 16,384 bases, 1 to 4,096 new ones
abbrev pub text_limits : Limits
text_limits = record { longest = 16384; most = 4096 }

-- lines above 20,480 bytes are 30; so are empty ones, which no form takes
unfoldable pub fits_line : List ℕ → Bool
fits_line s = leb (length s) 20480
