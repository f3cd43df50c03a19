-- What a parser's answer says in document 01's terms: a kind with its new bases; and the place where they begin, 0 where nothing was read.
use Rattle.std.specs.Prelude.{ℕ, List, drop, if◌then◌else◌, None, Some}
use Rattle.std.specs.Prelude.{Option as Returned}
use Rattle.std.proofs.Math.Option.{Option, none, some}
use Rattle.rules.specs.declared.Kind.{Kind}
use Rattle.rules.specs.declared.Kind.TheVariants.{Deletion, Duplication, Inversion, Identity}
use Rattle.rules.specs.Bytes.{bytes, same}
use Rattle.rules.specs.Line.{Verb}
use Rattle.text_verbs.specs.declared.VerbAt.{VerbAt}

-- a word that is a kind by itself
abbrev pub word_kind : List ℕ → Returned Kind
word_kind s =
    if same s (bytes "del") then Some Deletion
    else if same s (bytes "dup") then Some Duplication
    else if same s (bytes "inv") then Some Inversion
    else if same s (bytes "=") then Some Identity
    else None

abbrev pub verb_in : List ℕ → Returned VerbAt → Option Verb
verb_in line None = none
verb_in line (Some v) = some (record { kind = v.kind; new = drop v.at line })

abbrev pub verb_next : Returned VerbAt → ℕ
verb_next None = 0
verb_next (Some v) = v.at
