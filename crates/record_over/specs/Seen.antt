-- A record whose inserted residues are counted from behind the first part of A.
use Rattle.std.specs.Prelude.{◌≡◌, List, [], ℕ, ◌-◌, length, get_or, take, drop}
use Rattle.rules.specs.declared.Change.{Change}
use Rattle.rules.specs.declared.Record.{Record}
use Rattle.rules.specs.declared.Record.TheVariants.{Unknown, NoProtein, Silent, Changed}
use Rattle.rules.specs.Record.{part_of}

-- a change, its inserted residues counted from `head` on
unfoldable pub change_from : ℕ → Change → Change
change_from head c =
    record {
      class = c.class;
      number = c.number;
      deleted = c.deleted;
      inserted = record { at = c.inserted.at - head; len = c.inserted.len };
      first = c.first;
    }

unfoldable pub seen_from : ℕ → Record → Record
seen_from head Unknown = Unknown
seen_from head NoProtein = NoProtein
seen_from head (Silent number residue) = Silent number residue
seen_from head (Changed c) = Changed (change_from head c)

-- the residues that a record inserts, of the list that they are counted in
unfoldable pub inserted_of : Record → List ℕ → List ℕ
inserted_of Unknown a = []
inserted_of NoProtein a = []
inserted_of (Silent number residue) a = []
inserted_of (Changed c) a = part_of c.inserted a

-- of a change of R behind s shared residues, up to an ending of n: the residues that A has for them, how many it takes away, and the first residue of A there
pub record Differs (R A : List ℕ) (s n : ℕ) (inserted : List ℕ) (deleted altered : ℕ) : Type 0 where
  pub puts : inserted ≡ take (length A - s - n) (drop s A)
  pub long : length inserted ≡ length A - s - n
  pub takes : deleted ≡ length R - s - n
  pub here : altered ≡ get_or A s 0
