-- The altered transcript of an edit that isn't refused: its length and its letters.
-- Assumes nothing.
use Rattle.std.specs.Prelude.{if◌then◌else◌}
use mathlib.Core.Path.{◌≡◌, refl, sym, ap, ◌∙◌}
use mathlib.Core.Bool.{Bool, true, false, ◌&&◌}
use mathlib.Core.List.{List, [], ◌∷◌, ◌++◌}
use Prim.Native.Nat.{ℕ, zero, suc, ◌+◌, ◌-◌, ◌*◌, ◌≤◌, max, zero-le}
use native.Mathlib.Omega.{arith}
use lib.Dec.{leb}
use lib.ListN.{length, take, drop, length-append, length-take, length-drop, take-append-drop}
use lib.Seq.{length-take-le, take-length, drop-drop}
use borrow.Author.Tests.{leb-true}
use Rattle.rules.specs.declared.Kind.{Kind}
use Rattle.rules.specs.declared.Kind.TheVariants.{Substitution, Deletion, Delins, Insertion, Duplication, Inversion, Identity, Other}
use Rattle.rules.specs.Bytes.{is_none, all}
use Rattle.rules.specs.Letters.{is_letter}
use Rattle.rules.specs.Translation.{before_stop}
use Rattle.rules.specs.Complement.{reverse_complement}
use Rattle.rules.specs.Reference.{Reference, size}
use Rattle.rules.specs.Edit.{Asked, kind_of, start_index, end_index, are_new_bases, fit_bases}
use Rattle.rules.specs.Altered.{part, Swap, carried, swap_by, swap, is_inserting, frame, framed, has_stop, through_stop_codon, cut_at_stop, kept, cut_swap, altered_transcript, deleted, inserted, cut_off, altered_length}
use Rattle.rules.specs.declared.Limits.{Limits}
use Rattle.rules.specs.Refusal.{refusal}
use Rattle.rules.proofs.Tests.{and_left, and_right, all_take, all_drop, all_both}
use Rattle.rules.proofs.Complement.{length-complement, letters-complement}
use Rattle.rules.proofs.Parts.{letters-part}
use Rattle.rules.proofs.Refusing.{reference-accepted, edit-allowed}
use Rattle.rules.proofs.Span.{Span, indexes, span}

length_part : (from to : ℕ) (s : List ℕ) → length (part from to s) ≤ length s
unfolding part
length_part from to s = simp (length-take, length-drop) (omega arith)

-- what goes in is no longer than the new bases may be or than the transcript, and has letters only
pub record Puts (most : ℕ) (s put : List ℕ) : Type 0 where
  pub fits : length put ≤ max most (length s)
  pub letters : all is_letter put ≡ true

no-bases : (most : ℕ) (s new : List ℕ) → is_none new ≡ true → Puts most s new
unfolding all
no-bases most s [] h = record { fits = zero-le; letters = refl }
no-bases most s (x ∷ new) h = let z : ◌≡◌ {A = ℕ} 0 1 = cc in absurd (omega arith)

some_bases : (n most : ℕ) (s new : List ℕ) → n ≤ max most (length s) → are_new_bases n new ≡ true → Puts most s new
unfolding are_new_bases
some_bases n most s new k h =
    let both = and_left (leb 1 (length new) && leb (length new) n) (all is_letter new) h in
    record {
      fits = omega (arith, leb-true (length new) n (and_right (leb 1 (length new)) (leb (length new) n) both));
      letters = and_right (leb 1 (length new) && leb (length new) n) (all is_letter new) h;
    }

copied : (most from to : ℕ) (s : List ℕ) → all is_letter s ≡ true → Puts most s (part from to s)
copied most from to s h = record { fits = omega (arith, length_part from to s); letters = letters-part from to s h }

turned : (most from to : ℕ) (s : List ℕ) → all is_letter s ≡ true → Puts most s (reverse_complement (part from to s))
turned most from to s h =
    record {
      fits = omega (arith, length-complement (part from to s), length_part from to s);
      letters = letters-complement (part from to s) (letters-part from to s h);
    }

puts_by : (k : Kind) (most : ℕ) (s : List ℕ) (start end : ℕ) (new : List ℕ) → 1 ≤ length s → all is_letter s ≡ true → fit_bases most k new ≡ true → Puts most s (swap_by k s start end new).put
unfolding swap_by fit_bases
puts_by Substitution most s start end new n l h = some_bases 1 most s new (omega arith) h
puts_by Deletion most s start end new n l h = no-bases most s new h
puts_by Delins most s start end new n l h = some_bases most most s new (omega arith) h
puts_by Insertion most s start end new n l h = some_bases most most s new (omega arith) h
puts_by Duplication most s start end new n l h = copied most start end s l
puts_by Inversion most s start end new n l h = turned most start end s l
puts_by Identity most s start end new n l h = copied most start end s l
puts_by Other most s start end new n l h = copied most start end s l

pub puts : (m : Limits) (r : Reference) (e : Asked) → refusal m r e ≡ 0 → Puts m.most r.letters (swap r e).put
unfolding swap size
puts m r e h =
    let a = reference-accepted m r e h in
    puts_by (kind_of e) m.most r.letters (start_index r e) (end_index r e) e.new a.some a.letters (edit-allowed m r e h).bases

take_again : (n : ℕ) (s : List ℕ) → take n s ≡ take (length (take n s)) s
take_again zero s = refl
take_again (suc n) [] = refl
take_again (suc n) (x ∷ s) = ap (x ∷◌) (take_again n s)

-- the cut keeps the first of the new bases
pub kept-is : (r : Reference) (e : Asked) → kept r e ≡ take (length (kept r e)) (swap r e).put
unfolding kept cut_at_stop through_stop_codon
kept-is r e =
    let put = (swap r e).put in
    let n = frame r (swap r e) in
    by (is_inserting (kind_of e)) (has_stop r.table n put) (3 * (before_stop (framed r.table n put) + 1) - n) put
  where
    by : (c t : Bool) (n : ℕ) (put : List ℕ)
        → (if c then (if t then take n put else put) else put) ≡ take (length (if c then (if t then take n put else put) else put)) put
    by true true n put = take_again n put
    by true false n put = sym (take-length put)
    by false t n put = sym (take-length put)

pub length-kept : (r : Reference) (e : Asked) → length (kept r e) ≤ inserted r e
unfolding inserted
length-kept r e = omega (arith, ap length (kept-is r e) ∙ length-take (length (kept r e)) (swap r e).put)

letters-kept : (r : Reference) (e : Asked) → all is_letter (swap r e).put ≡ true → all is_letter (kept r e) ≡ true
letters-kept r e h = ap (all is_letter) (kept-is r e) ∙ all_take is_letter (length (kept r e)) (swap r e).put h

pub length-carried : (w : Swap) (s : List ℕ) → w.from ≤ w.to → w.to ≤ length s → length (carried w s) ≡ w.from + (length w.put + (length s - w.to))
unfolding carried
length-carried w s h k = simp (length-append, length-drop, length-take-le w.from s (omega arith))

letters-carried : (w : Swap) (s : List ℕ) → all is_letter s ≡ true → all is_letter w.put ≡ true → all is_letter (carried w s) ≡ true
unfolding carried
letters-carried w s h k =
    all_both is_letter (take w.from s) (w.put ++ drop w.to s) (all_take is_letter w.from s h)
    (all_both is_letter w.put (drop w.to s) k (all_drop is_letter w.to s h))

-- L - deleted + inserted - cut off
rule : (L from to n k : ℕ) → from ≤ to → to ≤ L → k ≤ n → L - (to - from) + n - (n - k) ≡ from + (k + (L - to))
rule L from to n k h l m = omega arith

-- the length rule
pub record AlteredLength (r : Reference) (e : Asked) : Type 0 where
  pub is : length (altered_transcript r e) ≡ altered_length r e
  pub parts : altered_length r e ≡ (swap r e).from + (length (kept r e) + (size r - (swap r e).to))
  pub front : r.cs - 1 ≤ altered_length r e

length_of_lem : (r : Reference) (e : Asked) → Span (r.cs - 1) (size r) (swap r e) → AlteredLength r e
unfolding altered_transcript altered_length cut_swap cut_off deleted size
length_of_lem r e s =
    let parts = rule (size r) (swap r e).from (swap r e).to (inserted r e) (length (kept r e)) s.rising s.ends (length-kept r e) in
    record {
      is = length-carried (cut_swap r e) r.letters s.rising s.ends ∙ sym parts;
      parts = parts;
      front = omega (arith, parts, s.front);
    }

pub altered_length_lem : (m : Limits) (r : Reference) (e : Asked) → refusal m r e ≡ 0 → AlteredLength r e
altered_length_lem m r e h = length_of_lem r e (span m r e h)

-- no altered transcript is longer
abbrev pub longest_altered : Limits → ℕ
longest_altered m = m.longest + max m.most m.longest

pub altered-fits : (m : Limits) (r : Reference) (e : Asked) → refusal m r e ≡ 0 → altered_length r e ≤ longest_altered m
unfolding inserted size
altered-fits m r e h =
    let fits = (reference-accepted m r e h).fits in
    let s = span m r e h in
    let most = (puts m r e h).fits in
    omega (arith, fits, most, length-kept r e, (altered_length_lem m r e h).parts, s.rising, s.ends)

pub altered_letters : (m : Limits) (r : Reference) (e : Asked) → refusal m r e ≡ 0 → all is_letter (altered_transcript r e) ≡ true
unfolding altered_transcript cut_swap
altered_letters m r e h =
    letters-carried (cut_swap r e) r.letters (reference-accepted m r e h).letters (letters-kept r e (puts m r e h).letters)

-- what is put back where it was taken from leaves all as it was
put_back : (from to : ℕ) (s : List ℕ) → from ≤ to → take from s ++ (part from to s ++ drop to s) ≡ s
unfolding part
put_back from to s h =
    let on : from + (to - from) ≡ to = omega arith in
    let behind : drop (to - from) (drop from s) ≡ drop to s = drop-drop (to - from) from s ∙ ap (λ (n : ℕ). drop n s) on in
    rw (← behind, take-append-drop (to - from) (drop from s)) (take-append-drop from s)

-- An identity that isn't refused leaves the transcript as it was.
pub identity_stays : (m : Limits) (r : Reference) (e : Asked) → refusal m r e ≡ 0 → kind_of e ≡ Identity → altered_transcript r e ≡ r.letters
unfolding altered_transcript cut_swap carried kept swap swap_by
identity_stays m r e h k =
    let s = r.letters in
    let all : kept r e ≡ (swap r e).put =
    ap (λ (k : Kind). if is_inserting k then cut_at_stop r.table (frame r (swap r e)) (swap r e).put else (swap r e).put) k in
    ap (λ (put : List ℕ). take (swap r e).from s ++ (put ++ drop (swap r e).to s)) all
    ∙ ap (λ (k : Kind). carried (swap_by k s (start_index r e) (end_index r e) e.new) s) k
    ∙ put_back (start_index r e) (end_index r e) s (omega (arith, (indexes m r e h).rising))
