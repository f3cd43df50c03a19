-- Laws of exceptions that move: what becomes of one, a turn of the loop over them, and what a caller has of a reference that isn't refused.
-- Assumes nothing.
use Rattle.std.specs.Prelude.{Option, Some, None}
use mathlib.Core.Path.{◌≡◌, refl, sym, ap, ◌∙◌}
use mathlib.Core.Bool.{true}
use mathlib.Core.List.{List, [], ◌∷◌, ◌++◌, append_assoc, append-nil}
use Prim.Native.Nat.{ℕ, ◌+◌, ◌-◌, ◌*◌, ◌/◌, ◌%◌, ◌≤◌, ◌<◌}
use native.Mathlib.Numerals.{add-one}
use native.Mathlib.Omega.{arith}
use lib.ListN.{length, take, drop, get_or, set}
use lib.Seq.{take-length, take-suc, take-suc-set}
use borrow.Author.Tests.{le-leb, lt-leb, eq-eqb, ne_eqb}
use Rattle.rules.specs.declared.Exception.{Exception}
use Rattle.rules.specs.declared.Exceptions.{Exceptions}
use Rattle.rules.specs.Translation.{no_exception, exception_list}
use Rattle.rules.specs.Altered.{part}
use Rattle.rules.specs.Trims.{common_prefix, common_suffix}
use Rattle.rules.specs.Reference.{Reference, size, cds_size, codons, are_rising}
use Rattle.rules.specs.Edit.{Asked}
use Rattle.rules.specs.Altered.{altered_transcript}
use Rattle.rules.specs.Exceptions.{suffix_behind, in_prefix, in_suffix, shifted, in_frame, codon_index, codon_number, moved_one, moved_all, moved_exceptions}
use Rattle.rules.specs.declared.Limits.{Limits}
use Rattle.rules.specs.Refusal.{refusal}
use Rattle.rules.proofs.Over.{tail-is}
use Rattle.rules.proofs.Translation.{length_exceptions, first_exceptions}
use Rattle.rules.proofs.Reference.{rising_cons, rising_of, rising_at}
use Rattle.rules.proofs.Refusing.{reference-accepted}
use Rattle.rules.proofs.Moved.{moved_to, suffix_fits, before-cds_shared, cds_fits}
use Rattle.rules.proofs.Altered.{altered_length_lem, longest_altered, altered-fits}
use Rattle.exceptions.specs.Moving.{left_of, Moves, Given, Rises, Lengths, Shared}

-- what becomes of one
module _ (prefix suffix first size made : ℕ) (old new : List ℕ) (e : Exception) (shared : Shared prefix suffix size made old new) where
  pub one-stays : first + 3 * (e.codon - 1) + 3 ≤ prefix → e ∷ [] ≡ moved_one prefix first old new e
  unfolding moved_one in_prefix codon_index
  one-stays h = rw (le-leb _ prefix h)

  module _ (past : prefix < first + 3 * (e.codon - 1) + 3) where
    pub one-cut : first + 3 * (e.codon - 1) < size - suffix → [] ≡ moved_one prefix first old new e
    unfolding moved_one in_prefix in_suffix codon_index
    one-cut h = rw (lt-leb _ prefix past, ← shared.back, shared.old-size, lt-leb (size - suffix) _ h)

    module _ (behind : size - suffix ≤ first + 3 * (e.codon - 1)) where
      pub one_shifted : ((first + 3 * (e.codon - 1) + made - size) % 3 ≡ first % 3 → ⊥) → [] ≡ moved_one prefix first old new e
      unfolding moved_one in_prefix in_suffix shifted in_frame codon_index
      one_shifted h = rw (lt-leb _ prefix past, ← shared.back, shared.old-size, shared.new-size, le-leb (size - suffix) _ behind, ne_eqb _ (first % 3) h)

      -- with the lengths for the transcripts
      lands : (first + 3 * (e.codon - 1) + made - size) % 3 ≡ first % 3 → moved_to first old new e ∷ [] ≡ moved_one prefix first old new e
      unfolding moved_one in_prefix in_suffix shifted in_frame codon_index codon_number
      lands h = rw (lt-leb _ prefix past, ← shared.back, shared.old-size, shared.new-size, le-leb (size - suffix) _ behind, eq-eqb _ (first % 3) h)

      pub one-moves : (first + 3 * (e.codon - 1) + made - size) % 3 ≡ first % 3
          → record { codon = (first + 3 * (e.codon - 1) + made - size - first) / 3 + 1; residue = e.residue } ∷ [] ≡ moved_one prefix first old new e
      unfolding shifted codon_index codon_number
      one-moves h = rw (← shared.old-size, ← shared.new-size) (lands h)

-- a codon's number fits
pub number_fits : (first codon size made : ℕ) → 1 ≤ codon → first + 3 * codon ≤ size → size < 4294967296 → made < 4294967296
    → (first + 3 * (codon - 1) + made - size - first) / 3 + 1 < 4294967296
number_fits first codon size made g h k l = omega arith

-- what the two trims find
-- all of the letters
pub whole_part : (size : ℕ) (s : List ℕ) → size ≡ length s → part 0 size s ≡ s
unfolding part
whole_part size s h = let all : size - 0 ≡ length s = omega arith in rw all (take-length s)

pub shared_of : (prefix suffix size : ℕ) (old new : List ℕ) → size ≡ length old → prefix ≡ common_prefix (part 0 size old) new
    → suffix ≡ common_suffix (part prefix size old) (take (length new - prefix) (drop prefix new))
    → Shared prefix suffix size (length new) old new
unfolding suffix_behind part
shared_of prefix suffix size old new sized p s =
    record {
      front = p ∙ ap (λ (l : List ℕ). common_prefix l new) (whole_part size old sized);
      back = s ∙ rw (sized, tail-is prefix old, tail-is prefix new);
      old-size = sym sized;
      new-size = refl;
    }

pub lengths_of : (first prefix suffix size made : ℕ) (old new : List ℕ) → Moves first old new → Shared prefix suffix size made old new → Lengths first prefix suffix size made
lengths_of first prefix suffix size made old new m s =
    let fits : (prefix + suffix ≤ length old) × (prefix + suffix ≤ length new) = rw (s.back, s.front) (suffix_fits old new) in
    record {
      front = omega (arith, m.front, s.front);
      old-holds = omega (arith, fits.0, s.old-size);
      new-holds = omega (arith, fits.1, s.new-size);
      old-short = omega (arith, m.old-short, s.old-size);
      new-short = omega (arith, m.new-short, s.new-size);
    }

-- a turn of the loop
module _ (prefix first : ℕ) (old new : List ℕ) where
  pub none-moved : [] ≡ moved_all prefix first old new []
  unfolding moved_all
  none-moved = refl

  behind-all : (es : List Exception) (e : Exception) → moved_all prefix first old new (es ++ (e ∷ [])) ≡ moved_all prefix first old new es ++ moved_one prefix first old new e
  unfolding moved_all
  behind-all [] e = append-nil _
  behind-all (x ∷ es) e = rw (behind-all es e) (sym (append_assoc (moved_one prefix first old new x) (moved_all prefix first old new es) (moved_one prefix first old new e)))

  one_more : (es : List Exception) (i : ℕ) → i < length es
      → moved_all prefix first old new (take (i + 1) es) ≡ moved_all prefix first old new (take i es) ++ moved_one prefix first old new (get_or es i no_exception)
  one_more es i h = rw (add-one, take-suc es i no_exception h) (behind-all (take i es) (get_or es i no_exception))

  module _ (given all : List Exception) (i n : ℕ) (m : Option Exception) (h : i < length given) (moved : take n all ≡ moved_all prefix first old new (take i given)) (is : left_of m ≡ moved_one prefix first old new (get_or given i no_exception)) where
    pub turn-keeps : (e : Exception) → n < length all → m ≡ Some e → take (n + 1) (set all n e) ≡ moved_all prefix first old new (take (i + 1) given)
    turn-keeps e k to = rw (one_more given i h, ← is, to, ← moved, add-one) (take-suc-set all n e k)

    pub turn-drops : m ≡ None → take n all ≡ moved_all prefix first old new (take (i + 1) given)
    turn-drops dropped = rw (one_more given i h, ← is, dropped, append-nil) moved

-- none given
pub none-given : (prefix first : ℕ) (old new : List ℕ) (e : Exceptions) → e.count ≡ 0 → exception_list e ≡ moved_all prefix first old new (exception_list e)
unfolding exception_list
none-given prefix first old new e h = rw h (none-moved prefix first old new)

-- any of those given
pub given_at : (first size : ℕ) (e : Exceptions) (i : ℕ) → length e.all ≡ 16 → first ≤ size → Rises first size e → i < length (take e.count e.all)
    → (1 ≤ (get_or (take e.count e.all) i no_exception).codon) × (first + 3 * (get_or (take e.count e.all) i no_exception).codon ≤ size)
given_at first size e i long within g h =
    let x = rising_at 0 ((size - first) / 3) (take e.count e.all) i (rw (first_exceptions e long g.few) at g.rising) h in
    (x.above, omega (arith, x.inside))

-- room for more codons
rising_within : (last most more : ℕ) (es : List Exception) → most ≤ more → are_rising last most es ≡ true → are_rising last more es ≡ true
unfolding are_rising
rising_within last most more [] h r = refl
rising_within last most more (e ∷ es) h r =
    let this = rising_cons last most e es r in
    let x = this.0 in
    rising_of last more e es (record { above = x.above; inside = omega (arith, x.inside); residue = x.residue })
    (rising_within e.codon most more es h this.1)

-- of a reference that isn't refused, and the transcript that an edit makes of it
module _ (m : Limits) (r : Reference) (a : Asked) (ok : refusal m r a ≡ 0) where
  pub moves_of : longest_altered m < 4294967296 → Moves (r.cs - 1) r.letters (altered_transcript r a)
  unfolding size
  moves_of short =
      record {
        front = before-cds_shared m r a ok;
        old-short = omega (arith, (reference-accepted m r a ok).fits);
        new-short = omega (arith, (altered_length_lem m r a ok).is, altered-fits m r a ok);
      }

  pub given-of : (e : Exceptions) → r.exceptions ≡ exception_list e → Given (r.cs - 1) r.letters e
  unfolding codons cds_size size
  given-of e is =
      let x = reference-accepted m r a ok in
      let b = x.bounds in
      let fits = cds_fits r.cs r.ce (length r.letters) b.first b.rising b.inside in
      record {
        few = omega (arith, length_exceptions e, ap length is, x.few);
        rising = rising_within 0 (codons r) ((length r.letters - (r.cs - 1)) / 3) (exception_list e) (omega arith) (rw is at x.exceptions);
      }

-- what `alt_translation_exceptions` leaves, of a reference with these letters, this CDS and these exceptions
pub moved_is : (r : Reference) (new : List ℕ) (first : ℕ) (es moved : List Exception) → r.cs - 1 ≡ first → r.exceptions ≡ es
    → moved ≡ moved_all (common_prefix r.letters new) first r.letters new es → moved ≡ moved_exceptions r new
unfolding moved_exceptions
moved_is r new first es moved at is h = rw (at, is) h
