-- Laws of plans: what goes in by one, and the plan of each group of kinds.
-- Assumes nothing.
use mathlib.Core.Path.{◌≡◌, refl, sym, ap, ◌∙◌}
use mathlib.Core.Bool.{Bool, true, false, ◌&&◌, ◌||◌, not, and-true, or-false}
use mathlib.Core.List.{List, [], ◌∷◌, ◌++◌}
use Prim.Native.Nat.{ℕ, ◌+◌, ◌-◌, ◌%◌, ◌≤◌, ◌<◌, min}
use native.Mathlib.Omega.{arith}
use borrow.Author.Tests.{eq-eqb}
use lib.Dec.{eqb, ltb}
use lib.ListN.{length, take, drop, length-drop}
use lib.Seq.{length-take-le}
use Rattle.rules.specs.declared.Kind.{Kind}
use Rattle.rules.specs.declared.Kind.TheVariants.{Substitution, Deletion, Delins, Insertion, Duplication, Inversion, Identity, Other}
use Rattle.rules.specs.declared.Edit.{Edit}
use Rattle.rules.specs.Bytes.{same, all, first_number}
use Rattle.rules.specs.Letters.{is_letter}
use Rattle.rules.specs.Reference.{Reference, size, cds_size, cds, reference_protein}
use Rattle.rules.specs.Position.{index}
use Rattle.rules.specs.Edit.{Asked, is, kind_of, start_index, end_index, edit_tests}
use Rattle.rules.specs.Altered.{part, Swap, carried, is_replacing, is_inserting, swap_by, swap, frame, finds_stop, kept, cut_swap, altered_transcript, deleted, inserted, cut_off, altered_length, is_uneven, leaves_cds, puts_back, frameshift}
use Rattle.rules.specs.Record.{silent_within, silent_number}
use Rattle.rules.proofs.Tests.{or_left, or_right}
use Rattle.rules.proofs.Translation.{length-translated}
use Rattle.rules.proofs.Reference.{length_protein}
use Rattle.rules.proofs.Complement.{length-complement}
use Rattle.rules.proofs.Altered.{kept-is, length-kept}
use Rattle.cuts.specs.declared.Cut.{Cut}
use Rattle.spans.specs.declared.Range.{Range}
use Rattle.edits.specs.declared.plans.Source.{Source}
use Rattle.edits.specs.declared.plans.Source.TheVariants.{New}
use Rattle.edits.specs.declared.plans.Plan.{Plan}
use Rattle.rules.specs.Views.{cds_of, bare, asked}
use Rattle.reference.specs.declared.Known.{Known}
use Rattle.reference.specs.Bounds.{Sound}
use Rattle.reference.specs.Known.{Checks}
use Rattle.letters.specs.Sets.{is_base}
use Rattle.cuts.specs.Cuts.{cut_of, Cuts}
use Rattle.edits.specs.Plans.{source_of, plan_of, source_bytes, goes_in, Planned, Ranges, Replaces, Inserts, Keeps}
use Rattle.cuts.proofs.Cuts.{cut_le, cuts_part}
use Rattle.positions.proofs.Tests.{edit-allowed, edit-indexes, edit-fitting}

never : false ≡ true → ⊥
never h = let z : ◌≡◌ {A = ℕ} 0 1 = cc in omega arith

-- what goes in before the cut is what the source holds
put_is : (k : Kind) (s : List ℕ) (start end : ℕ) (new : List ℕ) → (swap_by k s start end new).put ≡ source_bytes (source_of k) start end s new
unfolding swap_by source_bytes
put_is Substitution s start end new = refl
put_is Deletion s start end new = refl
put_is Delins s start end new = refl
put_is Insertion s start end new = refl
put_is Duplication s start end new = refl
put_is Inversion s start end new = refl
put_is Identity s start end new = refl
put_is Other s start end new = refl

-- the bytes that go in by an edit's plan are those that the cut keeps
pub goes_in_lem : (r : Reference) (e : Asked) → goes_in (plan_of r e) r.letters e.new ≡ kept r e
unfolding goes_in plan_of swap
goes_in_lem r e =
    ap (take (length (kept r e))) (sym (put_is (kind_of e) r.letters (start_index r e) (end_index r e) e.new)) ∙ sym (kept-is r e)

-- and no more than the source holds
pub kept_fits : (r : Reference) (e : Asked) → (plan_of r e).kept ≤ length (source_bytes (plan_of r e).source (plan_of r e).start (plan_of r e).end r.letters e.new)
unfolding plan_of swap inserted
kept_fits r e = rw (← put_is (kind_of e) r.letters (start_index r e) (end_index r e) e.new) (length-kept r e)

-- the altered transcript, by the plan
pub transcript_is : (r : Reference) (e : Asked) → altered_transcript r e ≡ take (plan_of r e).from r.letters ++ (goes_in (plan_of r e) r.letters e.new ++ drop (plan_of r e).to r.letters)
unfolding altered_transcript carried cut_swap plan_of
transcript_is r e = rw (goes_in_lem r e)

-- exceptions play no part
length-bare : (r : Reference) → length (reference_protein r) ≡ length (reference_protein (bare r.letters (cds_of r.cs r.ce r.table r.end)))
unfolding reference_protein cds cds_size
length-bare r = length-translated r.table r.exceptions (cds r) ∙ sym (length-translated r.table [] (cds r))

pub bare_plan : (r : Reference) (e : Asked) → plan_of r e ≡ plan_of (bare r.letters (cds_of r.cs r.ce r.table r.end)) e
unfolding plan_of size start_index end_index swap frame finds_stop kept deleted inserted cut_off altered_length is_uneven leaves_cds puts_back frameshift silent_number
bare_plan r e = rw (length-bare r)

-- a plan, field by field
module _ (r : Reference) (e : Asked) (source : Source) (start end from to n total : ℕ) (shift stopped : Bool) (number : ℕ) where
  plan-is : source_of (kind_of e) ≡ source → start_index r e ≡ start → end_index r e ≡ end → (swap r e).from ≡ from → (swap r e).to ≡ to → length (kept r e) ≡ n → altered_length r e ≡ total → frameshift r e ≡ shift → finds_stop r e ≡ stopped → number ≡ silent_number r e → ◌≡◌ {A = Plan} record { source = source; start = start; end = end; from = from; to = to; kept = n; length = total; shift = shift; stopped = stopped; number = number } (plan_of r e)
  unfolding plan_of
  plan-is a b c d f g h i j k = rw (a, b, c, d, f, g, h, i, j, k)

-- no cut in a kind that inserts nothing
module _ (r : Reference) (e : Asked) (h : is_inserting (kind_of e) ≡ false) where
  finds-none : finds_stop r e ≡ false
  unfolding finds_stop
  finds-none = rw h

  kept-all : kept r e ≡ (swap r e).put
  unfolding kept
  kept-all = rw h

-- deletion, delins, substitution
record Replacing (k : Kind) : Type 0 where
  swaps : (s : List ℕ) (start end : ℕ) (new : List ℕ) → swap_by k s start end new ≡ record { from = start; to = end; put = new }
  uncut : is_inserting k ≡ false
  comes : source_of k ≡ New
  moves : (is Inversion k || is Identity k) ≡ false

replacing : (k : Kind) → is_replacing k ≡ true → Replacing k
unfolding swap_by
replacing Substitution h = record { swaps = λ s start end new. refl; uncut = refl; comes = refl; moves = refl }
replacing Deletion h = record { swaps = λ s start end new. refl; uncut = refl; comes = refl; moves = refl }
replacing Delins h = record { swaps = λ s start end new. refl; uncut = refl; comes = refl; moves = refl }
replacing Insertion h = absurd (never h)
replacing Duplication h = absurd (never h)
replacing Inversion h = absurd (never h)
replacing Identity h = absurd (never h)
replacing Other h = absurd (never h)

none_cut : (L d n : ℕ) → L - d + n - (n - n) ≡ L - d + n
none_cut L d n = omega arith

module _ (r : Reference) (e : Asked) (g : Range) (new : List ℕ) (h : Replaces r e g new) where
  replaces-swap : swap r e ≡ record { from = g.start; to = g.end; put = new }
  unfolding swap
  replaces-swap =
      rw ((replacing (kind_of e) h.kind).swaps r.letters (start_index r e) (end_index r e) e.new, h.range.start, h.range.end, h.bases)

  replaces-kept : kept r e ≡ new
  replaces-kept = kept-all r e (replacing (kind_of e) h.kind).uncut ∙ ap (λ (w : Swap). w.put) replaces-swap

  replaces-length : altered_length r e ≡ size r - (g.end - g.start) + length new
  unfolding altered_length deleted inserted cut_off
  replaces-length = rw (replaces-swap, replaces-kept) (none_cut (size r) (g.end - g.start) (length new))

  -- the flag, by its tests, and by the comparison that is made only where they hold
  abbrev changes : Bool
  changes = not (eqb (length new % 3) ((g.end - g.start) % 3)) || (ltb g.start r.ce && ltb r.ce g.end)

  replaces-shift : frameshift r e ≡ (changes && not (same (take (g.end - g.start) (drop g.start r.letters)) new))
  unfolding frameshift is_uneven leaves_cds puts_back inserted deleted part
  replaces-shift =
      rw (
        replaces-swap,
        h.range.start,
        h.range.end,
        h.kind,
        finds-none r e (replacing (kind_of e) h.kind).uncut,
        (replacing (kind_of e) h.kind).moves,
        or-false,
        and-true,
      )

  pub shift-compared : (equal : Bool) → changes ≡ true → equal ≡ same (take (g.end - g.start) (drop g.start r.letters)) new → not equal ≡ frameshift r e
  shift-compared equal c q = rw (replaces-shift, c, q)

  pub shift_none : changes ≡ false → false ≡ frameshift r e
  shift_none c = rw (replaces-shift, c)

  pub replaces-plan : (total : ℕ) (shift : Bool) (number : ℕ) → total ≡ size r - (g.end - g.start) + length new → shift ≡ frameshift r e → number ≡ silent_number r e → ◌≡◌ {A = Plan} record { source = New; start = g.start; end = g.end; from = g.start; to = g.end; kept = length new; length = total; shift = shift; stopped = false; number = number } (plan_of r e)
  replaces-plan total shift number t f k =
      plan-is r e New g.start g.end g.start g.end (length new) total shift false number
      (replacing (kind_of e) h.kind).comes
      h.range.start
      h.range.end
      (ap (λ (w : Swap). w.from) replaces-swap)
      (ap (λ (w : Swap). w.to) replaces-swap)
      (ap length replaces-kept)
      (replaces-length ∙ sym t)
      (sym f)
      (finds-none r e (replacing (kind_of e) h.kind).uncut)
      k

-- insertion, duplication
record Inserting (k : Kind) : Type 0 where
  stays : is_replacing k ≡ false
  moves : (is Inversion k || is Identity k) ≡ false

inserting : (k : Kind) → is_inserting k ≡ true → Inserting k
inserting Substitution h = absurd (never h)
inserting Deletion h = absurd (never h)
inserting Delins h = absurd (never h)
inserting Insertion h = record { stays = refl; moves = refl }
inserting Duplication h = record { stays = refl; moves = refl }
inserting Inversion h = absurd (never h)
inserting Identity h = absurd (never h)
inserting Other h = absurd (never h)

cut_length : (L n k : ℕ) (i : ℕ) → k ≤ n → L - (i - i) + n - (n - k) ≡ L + k
cut_length L n k i h = omega arith

no_change : (i : ℕ) → (i - i) % 3 ≡ 0
no_change i = ap (◌% 3) (let z : i - i ≡ 0 = omega arith in z)

-- nothing gives way, so what is put back is nothing
shift_inserted : (put : List ℕ) (found : Bool) → ((not (eqb (length put % 3) 0) || false) && not (same [] put || found) && not false) ≡ (not (eqb (length put % 3) 0) && not found)
unfolding same
shift_inserted [] found = refl
shift_inserted (x ∷ put) found = rw (or-false, and-true)

module _ (r : Reference) (e : Asked) (g : Range) (source : Source) (index : ℕ) (put : List ℕ) (h : Inserts r e g source index put) where
  inserts-found : finds_stop r e ≡ (cut_of r.table ((index - (r.cs - 1)) % 3) put).found
  unfolding finds_stop frame cut_of
  inserts-found = rw (h.kind, h.swaps)

  inserts-kept : length (kept r e) ≡ (cut_of r.table ((index - (r.cs - 1)) % 3) put).kept
  unfolding kept frame cut_of
  inserts-kept = rw (h.kind, h.swaps)

  inserts-length : altered_length r e ≡ size r + (cut_of r.table ((index - (r.cs - 1)) % 3) put).kept
  unfolding altered_length deleted inserted cut_off
  inserts-length =
      rw (h.swaps, inserts-kept)
      (cut_length (size r) (length put) (cut_of r.table ((index - (r.cs - 1)) % 3) put).kept index (cut_le r.table ((index - (r.cs - 1)) % 3) put))

  none-replaced : part index index r.letters ≡ []
  unfolding part
  none-replaced = let z : index - index ≡ 0 = omega arith in rw z

  inserts-shift : frameshift r e ≡ (not (eqb (length put % 3) 0) && not (cut_of r.table ((index - (r.cs - 1)) % 3) put).found)
  unfolding frameshift is_uneven leaves_cds puts_back inserted deleted
  inserts-shift =
      rw (h.swaps, no_change index, (inserting (kind_of e) h.kind).stays, none-replaced, inserts-found, (inserting (kind_of e) h.kind).moves)
      (shift_inserted put (cut_of r.table ((index - (r.cs - 1)) % 3) put).found)

  pub inserts-plan : (cut : Cut) (number : ℕ) → cut ≡ cut_of r.table ((index - (r.cs - 1)) % 3) put → number ≡ silent_number r e → ◌≡◌ {A = Plan} record { source = source; start = g.start; end = g.end; from = index; to = index; kept = cut.kept; length = size r + cut.kept; shift = not (eqb (length put % 3) 0) && not cut.found; stopped = cut.found; number = number } (plan_of r e)
  inserts-plan cut number c k =
      let now = cut_of r.table ((index - (r.cs - 1)) % 3) put in
      rw c
      (plan-is r e source g.start g.end index index now.kept (size r + now.kept) (not (eqb (length put % 3) 0) && not now.found) now.found number
      h.comes
      h.range.start
      h.range.end
      (ap (λ (w : Swap). w.from) h.swaps)
      (ap (λ (w : Swap). w.to) h.swaps)
      inserts-kept
      inserts-length
      inserts-shift
      inserts-found
      k)

-- inversion, identity, an unknown kind
record Keeping (k : Kind) : Type 0 where
  from : (s : List ℕ) (start end : ℕ) (new : List ℕ) → (swap_by k s start end new).from ≡ start
  to : (s : List ℕ) (start end : ℕ) (new : List ℕ) → (swap_by k s start end new).to ≡ end
  many : (s : List ℕ) (start end : ℕ) (new : List ℕ) → length (swap_by k s start end new).put ≡ length (part start end s)

keeping : (k : Kind) → (is_replacing k || is_inserting k) ≡ false → Keeping k
unfolding swap_by
keeping Substitution h = absurd (never (sym h))
keeping Deletion h = absurd (never (sym h))
keeping Delins h = absurd (never (sym h))
keeping Insertion h = absurd (never (sym h))
keeping Duplication h = absurd (never (sym h))
keeping Inversion h =
    record { from = λ s start end new. refl; to = λ s start end new. refl; many = λ s start end new. length-complement (part start end s) }
keeping Identity h = record { from = λ s start end new. refl; to = λ s start end new. refl; many = λ s start end new. refl }
keeping Other h = record { from = λ s start end new. refl; to = λ s start end new. refl; many = λ s start end new. refl }

pub length_part : (from to : ℕ) (s : List ℕ) → to ≤ length s → length (part from to s) ≡ to - from
unfolding part
length_part from to s h = length-take-le (to - from) (drop from s) (rw length-drop (omega arith))

same_length : (L d : ℕ) → d ≤ L → L - d + d - (d - d) ≡ L
same_length L d h = omega arith

module _ (r : Reference) (e : Asked) (g : Range) (source : Source) (h : Keeps r e g source) (fits : g.end ≤ size r) where
  keeps-from : (swap r e).from ≡ g.start
  unfolding swap
  keeps-from = (keeping (kind_of e) h.kind).from r.letters (start_index r e) (end_index r e) e.new ∙ h.range.start

  keeps-to : (swap r e).to ≡ g.end
  unfolding swap
  keeps-to = (keeping (kind_of e) h.kind).to r.letters (start_index r e) (end_index r e) e.new ∙ h.range.end

  keeps-put : length (swap r e).put ≡ g.end - g.start
  unfolding swap size
  keeps-put =
      (keeping (kind_of e) h.kind).many r.letters (start_index r e) (end_index r e) e.new
      ∙ rw (h.range.start, h.range.end) (length_part g.start g.end r.letters fits)

  keeps-kept : length (kept r e) ≡ g.end - g.start
  keeps-kept = ap length (kept-all r e (or_right (is_replacing (kind_of e)) (is_inserting (kind_of e)) h.kind)) ∙ keeps-put

  keeps-length : altered_length r e ≡ size r
  unfolding altered_length deleted inserted cut_off
  keeps-length = rw (keeps-from, keeps-to, keeps-put, keeps-kept) (same_length (size r) (g.end - g.start) (omega arith))

  keeps-shift : frameshift r e ≡ false
  unfolding frameshift is_uneven leaves_cds inserted deleted
  keeps-shift =
      rw (
        keeps-from,
        keeps-to,
        keeps-put,
        or_left (is_replacing (kind_of e)) (is_inserting (kind_of e)) h.kind,
        eq-eqb ((g.end - g.start) % 3) ((g.end - g.start) % 3) refl,
      )

  pub keeps-plan : (number : ℕ) → number ≡ silent_number r e → ◌≡◌ {A = Plan} record { source = source; start = g.start; end = g.end; from = g.start; to = g.end; kept = g.end - g.start; length = size r; shift = false; stopped = false; number = number } (plan_of r e)
  keeps-plan number k =
      plan-is r e source g.start g.end g.start g.end (g.end - g.start) (size r) false false number
      h.comes
      h.range.start
      h.range.end
      keeps-from
      keeps-to
      keeps-kept
      keeps-length
      keeps-shift
      (finds-none r e (or_right (is_replacing (kind_of e)) (is_inserting (kind_of e)) h.kind))
      k

-- an edit of a checked reference that isn't refused can be planned
pub planned : (r : Reference) → Sound r → (most : ℕ) (e : Asked) → most < 4294967296 → first_number (edit_tests most r e) ≡ 0 → Planned r e
planned r known most e few none =
    let a = edit-allowed r known most e none in
    let i = edit-indexes r known most e none in
    let f = edit-fitting r known most e none in
    record {
      start-inside = a.start-inside;
      end-inside = a.end-inside;
      front = i.front;
      starts = i.starts;
      rising = i.rising;
      ends = i.ends;
      few = omega (arith, f.few);
      letters = f.letters;
    }

-- the number of a silent record, by how many residues R is known to have
pub numbered : (s : List ℕ) (k : Known) (e : Edit) (new : List ℕ) (n : ℕ) → Checks s k → n ≡ silent_within k.residues e → n ≡ silent_number (bare s k.cds) (asked e new)
unfolding silent_number
numbered s k e new n x is =
    is ∙ ap (λ (m : ℕ). silent_within m e) (x.residues ∙ sym (length_protein (bare s k.cds) x.sound.bounds))

-- where the range of an edit's bases lies
pub record Within (r : Reference) (e : Asked) (g : Range) : Type 0 where
  pub range : Ranges r e g
  pub front : r.cs - 1 ≤ g.start
  pub rising : g.start < g.end
  pub ends : g.end ≤ size r

pub ranged : (r : Reference) (e : Asked) (g : Range) → Planned r e → g.start ≡ index r.cs r.ce (size r) e.edit.start → g.end ≡ min (index r.cs r.ce (size r) e.edit.end + 1) (size r) → Within r e g
unfolding start_index end_index
ranged r e g p start end =
    record {
      range = record { start = sym start; end = sym end };
      front = omega (arith, p.front);
      rising = omega (arith, p.rising);
      ends = omega (arith, p.ends);
    }

-- what an insertion and a duplication put where
module _ (k : Kind) (s : List ℕ) (start end : ℕ) (new : List ℕ) where
  by-insertion : k ≡ Insertion → swap_by k s start end new ≡ record { from = start + 1; to = start + 1; put = new }
  unfolding swap_by
  by-insertion h = rw h

  by-duplication : k ≡ Duplication → swap_by k s start end new ≡ record { from = end; to = end; put = part start end s }
  unfolding swap_by
  by-duplication h = rw h

module _ (r : Reference) (e : Asked) (g : Range) (range : Ranges r e g) where
  pub insertion-swap : kind_of e ≡ Insertion → swap r e ≡ record { from = g.start + 1; to = g.start + 1; put = e.new }
  unfolding swap
  insertion-swap h = by-insertion (kind_of e) r.letters (start_index r e) (end_index r e) e.new h ∙ rw range.start

  pub duplication-swap : kind_of e ≡ Duplication → swap r e ≡ record { from = g.end; to = g.end; put = part g.start g.end r.letters }
  unfolding swap
  duplication-swap h = by-duplication (kind_of e) r.letters (start_index r e) (end_index r e) e.new h ∙ rw (range.start, range.end)

-- both can be cut
module _ (s : List ℕ) (k : Known) (x : Checks s k) where
  pub cuts-new : (new : List ℕ) (plain : Bool) → all is_letter new ≡ true → plain ≡ all is_base new → Cuts k.cds.table plain new
  cuts-new new plain letters is = record { code = x.sound.table; letters = letters; bases = λ p. sym is ∙ p }

  pub cuts-copy : (start end : ℕ) → Cuts k.cds.table k.plain (part start end s)
  unfolding part
  cuts-copy start end =
      cuts_part k.cds.table (end - start) start k.plain s (cuts-new s k.plain x.sound.letters x.plain)
