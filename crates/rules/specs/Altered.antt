-- "Positions and edits": what each kind replaces by what, the stop cut, the altered transcript, its length, and the frameshift flag.
use Rattle.std.specs.Prelude.{ℕ, ◌+◌, ◌-◌, ◌*◌, ◌%◌, List, [], ◌++◌, Bool, ◌&&◌, ◌||◌, not, eqb, ltb, length, take, drop, replicate, if◌then◌else◌}
use Rattle.rules.specs.declared.Kind.{Kind}
use Rattle.rules.specs.declared.Kind.TheVariants.{Substitution, Deletion, Delins, Insertion, Duplication, Inversion, Identity, Other}
use Rattle.rules.specs.Bytes.{byte, same}
use Rattle.rules.specs.Translation.{translated, before_stop}
use Rattle.rules.specs.Complement.{reverse_complement}
use Rattle.rules.specs.Reference.{Reference, size}
use Rattle.rules.specs.Edit.{Asked, is, kind_of, start_index, end_index}

-- the elements from..to
unfoldable pub part : ℕ → ℕ → List ℕ → List ℕ
part from to s = take (to - from) (drop from s)

-- the elements from..to give way to `put`
pub record Swap : Type 0 where
  pub from : ℕ
  pub to : ℕ
  pub put : List ℕ

unfoldable pub carried : Swap → List ℕ → List ℕ
carried w s = take w.from s ++ (w.put ++ drop w.to s)

-- deletion, delins, substitution
abbrev pub is_replacing : Kind → Bool
is_replacing k = is Deletion k || is Delins k || is Substitution k

-- insertion, duplication
abbrev pub is_inserting : Kind → Bool
is_inserting k = is Insertion k || is Duplication k

-- deletion, delins, substitution: start..end give way to the new bases; insertion: new bases after the start index; duplication: a copy of
-- start..end goes in at end; inversion: start..end is reverse complemented; identity: nothing changes, as in an unknown kind
unfoldable pub swap_by : Kind → List ℕ → ℕ → ℕ → List ℕ → Swap
swap_by Substitution s start end new = record { from = start; to = end; put = new }
swap_by Deletion s start end new = record { from = start; to = end; put = new }
swap_by Delins s start end new = record { from = start; to = end; put = new }
swap_by Insertion s start end new = record { from = start + 1; to = start + 1; put = new }
swap_by Duplication s start end new = record { from = end; to = end; put = part start end s }
swap_by Inversion s start end new = record { from = start; to = end; put = reverse_complement (part start end s) }
swap_by Identity s start end new = record { from = start; to = end; put = part start end s }
swap_by Other s start end new = record { from = start; to = end; put = part start end s }

-- an edit's swap, before the stop cut
unfoldable pub swap : Reference → Asked → Swap
swap r e = swap_by (kind_of e) r.letters (start_index r e) (end_index r e) e.new

-- (insertion index - (cs-1)) mod 3
unfoldable pub frame : Reference → Swap → ℕ
frame r w = (w.from - (r.cs - 1)) % 3

-- put so many letters N before the new bases and translate; exceptions play no part in this
unfoldable pub framed : ℕ → ℕ → List ℕ → List ℕ
framed table n put = translated table [] (replicate n (byte "N") ++ put)

-- a `*` appears
unfoldable pub has_stop : ℕ → ℕ → List ℕ → Bool
has_stop table n put = ltb (before_stop (framed table n put)) (length (framed table n put))

-- the new bases through the first `*`'s codon
unfoldable pub through_stop_codon : ℕ → ℕ → List ℕ → List ℕ
through_stop_codon table n put = take (3 * (before_stop (framed table n put) + 1) - n) put

-- the new bases behind the first one's codon are dropped
unfoldable pub cut_at_stop : ℕ → ℕ → List ℕ → List ℕ
cut_at_stop table n put = if has_stop table n put then through_stop_codon table n put else put

-- the stop cut, insertions and duplications only
unfoldable pub finds_stop : Reference → Asked → Bool
finds_stop r e = is_inserting (kind_of e) && has_stop r.table (frame r (swap r e)) (swap r e).put

unfoldable pub kept : Reference → Asked → List ℕ
kept r e =
    if is_inserting (kind_of e) then cut_at_stop r.table (frame r (swap r e)) (swap r e).put
    else (swap r e).put

-- an edit's swap, after the stop cut
unfoldable pub cut_swap : Reference → Asked → Swap
cut_swap r e = record { from = (swap r e).from; to = (swap r e).to; put = kept r e }

unfoldable pub altered_transcript : Reference → Asked → List ℕ
altered_transcript r e = carried (cut_swap r e) r.letters

unfoldable pub deleted : Reference → Asked → ℕ
deleted r e = (swap r e).to - (swap r e).from

unfoldable pub inserted : Reference → Asked → ℕ
inserted r e = length (swap r e).put

unfoldable pub cut_off : Reference → Asked → ℕ
cut_off r e = inserted r e - length (kept r e)

-- altered length = L - deleted + inserted - cut off
unfoldable pub altered_length : Reference → Asked → ℕ
altered_length r e = size r - deleted r e + inserted r e - cut_off r e

-- the net change (before the cut) is not divisible by 3
unfoldable pub is_uneven : Reference → Asked → Bool
is_uneven r e = not (eqb (inserted r e % 3) (deleted r e % 3))

-- a deletion, delins or substitution with start < ce < end
unfoldable pub leaves_cds : Reference → Asked → Bool
leaves_cds r e = is_replacing (kind_of e) && ltb (start_index r e) r.ce && ltb r.ce (end_index r e)

-- the replaced bases equal the new ones
unfoldable pub puts_back : Reference → Asked → Bool
puts_back r e = same (part (swap r e).from (swap r e).to r.letters) (swap r e).put

-- never if the replaced bases equal the new ones or the stop cut finds a `*`, and never in an inversion or identity
unfoldable pub frameshift : Reference → Asked → Bool
frameshift r e =
    (is_uneven r e || leaves_cds r e)
    && not (puts_back r e || finds_stop r e)
    && not (is Inversion (kind_of e) || is Identity (kind_of e))
