-- "The record": Unknown, NoProtein, Silent or Changed, and the class.
use Rattle.std.specs.Prelude.{ℕ, ◌+◌, ◌-◌, ◌/◌, min, max, List, ◌++◌, Bool, true, false, ◌&&◌, ◌||◌, eqb, ltb, length, take, drop, get_or, if◌then◌else◌}
use Rattle.rules.specs.declared.Kind.TheVariants as kind
use Rattle.rules.specs.declared.Edit.{Edit}
use Rattle.rules.specs.declared.Class.{Class}
use Rattle.rules.specs.declared.Class.TheVariants.{StartLost, Extension, StopGained, Frameshift, Substitution, Deletion, Duplication, Insertion, Delins}
use Rattle.rules.specs.declared.Part.{Part}
use Rattle.rules.specs.declared.Change.{Change}
use Rattle.rules.specs.declared.Record.{Record}
use Rattle.rules.specs.declared.Record.TheVariants.{Unknown, NoProtein, Silent, Changed}
use Rattle.rules.specs.Bytes.{byte, same, is_none, count}
use Rattle.rules.specs.Trims.{common_prefix, common_suffix}
use Rattle.rules.specs.Reference.{Reference, reference_protein}
use Rattle.rules.specs.Position.{counted}
use Rattle.rules.specs.Edit.{Asked, is, ends_past}
use Rattle.rules.specs.Altered.{frameshift}
use Rattle.rules.specs.Protein.{altered_protein}

-- Unknown if R has more than one `*`, or if the end's place is L or more
unfoldable pub is_unknown : Reference → Asked → Bool
is_unknown r e = ltb 1 (count (byte "*") (reference_protein r)) || ends_past r e

-- brought into 1..n
unfoldable pub within : ℕ → ℕ → ℕ
within n k = max 1 (min k n)

-- ceil(s/3) for start s (1 where s < 0), but floor(e/3)+1 for a duplication with end e, brought into 1..n
unfoldable pub silent_within : ℕ → Edit → ℕ
silent_within n e =
    within n (if is kind.Duplication e.kind then counted e.end / 3 + 1 else (counted e.start + 2) / 3)

-- into 1..length of R
unfoldable pub silent_number : Reference → Asked → ℕ
silent_number r e = silent_within (length (reference_protein r)) e.edit

-- both stop before the longest ending that R and A share behind s; with the flag there is none
unfoldable pub ending : Bool → ℕ → List ℕ → List ℕ → ℕ
ending true s R A = 0
ending false s R A = common_suffix (drop s R) (drop s A)

unfoldable pub part_of : Part → List ℕ → List ℕ
part_of p s = take p.len (drop p.at s)

-- n inserted, n < number, and the n residues of R just before are the same: a copy may begin at residue 1
unfoldable pub is_copy : ℕ → ℕ → List ℕ → List ℕ → Bool
is_copy number n R A =
    ltb n number && same (take n (drop (number - 1 - n) R)) (take n (drop (number - 1) A))

-- substitution (one and one); deletion (none inserted); duplication; insertion (none deleted); delins
unfoldable pub class_by_counts : ℕ → ℕ → Bool → Class
class_by_counts d i copy =
    if eqb i 1 && eqb d 1 then Substitution
    else if eqb i 0 then Deletion
    else if eqb d 0 && copy then Duplication
    else if eqb d 0 then Insertion
    else Delins

-- first that holds: d deleted, i inserted, the residues of R and A there (0 where the protein has ended), the flag, and whether the
-- inserted ones are a copy
unfoldable pub class_by : ℕ → ℕ → ℕ → ℕ → ℕ → Bool → Bool → Class
class_by number d i in_r in_a flag copy =
    if eqb number 1 then StartLost
    else if ltb 0 d && eqb in_r (byte "*") then Extension
    else if eqb in_a (byte "*") then StopGained
    else if flag then Frameshift
    else class_by_counts d i copy

-- s leading residues shared, d deleted, i inserted
unfoldable pub class_of : Bool → ℕ → ℕ → ℕ → List ℕ → List ℕ → Class
class_of flag s d i R A = class_by (s + 1) d i (get_or R s 0) (get_or A s 0) flag (is_copy (s + 1) i R A)

-- the number of the first residue that a duplication of n copies, 0 in every other class
unfoldable pub first_copied : Class → ℕ → ℕ → ℕ
first_copied StartLost number n = 0
first_copied Extension number n = 0
first_copied StopGained number n = 0
first_copied Frameshift number n = 0
first_copied Substitution number n = 0
first_copied Deletion number n = 0
first_copied Duplication number n = number - n
first_copied Insertion number n = 0
first_copied Delins number n = 0

-- s leading residues shared, number s+1, and the rest of each protein up to an ending of n residues
unfoldable pub change_at : Bool → ℕ → ℕ → List ℕ → List ℕ → Change
change_at flag s n R A =
    let d = length R - s - n in
    let i = length A - s - n in
    let class = class_of flag s d i R A in
    record {
      class = class;
      number = s + 1;
      deleted = record { at = s; len = d };
      inserted = record { at = s; len = i };
      first = first_copied class (s + 1) i;
    }

unfoldable pub change_of : Bool → List ℕ → List ℕ → Change
change_of flag R A = change_at flag (common_prefix R A) (ending flag (common_prefix R A) R A) R A

-- of two proteins, with the number that a silent record has
unfoldable pub record_from : Bool → ℕ → List ℕ → List ℕ → Record
record_from flag number R A =
    if is_none A then NoProtein
    else if same R A then Silent number (get_or R (number - 1) 0)
    else Changed (change_of flag R A)

unfoldable pub record_of : Reference → Asked → Record
record_of r e =
    if is_unknown r e then Unknown
    else record_from (frameshift r e) (silent_number r e) (reference_protein r) (altered_protein r e)

-- a record carried out: the residues `taken` that stand at its number give way to `put`
unfoldable pub replayed : ℕ → List ℕ → List ℕ → List ℕ → List ℕ
replayed number taken put s = take (number - 1) s ++ (put ++ drop (number - 1 + length taken) s)
