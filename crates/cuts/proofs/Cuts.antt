-- Laws of the stop cut: a codon of the letters N and the first bases, and the bases behind it.
-- Assumes nothing.
use Rattle.std.specs.Prelude.{if◌then◌else◌}
use mathlib.Core.Path.{◌≡◌, refl, sym, ap, ◌∙◌}
use mathlib.Core.Bool.{Bool, true, false}
use mathlib.Core.List.{List, [], ◌∷◌}
use Prim.Native.Nat.{ℕ, zero, suc, ◌+◌, ◌-◌, ◌*◌, ◌/◌, ◌≤◌, ◌<◌, min}
use native.Mathlib.Nat.{le_refl}
use native.Mathlib.Omega.{arith}
use native.Mathlib.Decide.{dec_lt}
use borrow.Author.Tests.{lt-ltb, le-ltb, eq-eqb, ne_eqb}
use lib.ListN.{length, take, drop, get_or, length-take, length-drop}
use lib.Seq.{take-nil, take-length, get_or-take, get_or-drop, drop-drop}
use Rattle.rules.specs.declared.Exceptions.{Exceptions}
use Rattle.rules.specs.Bytes.{byte, all}
use Rattle.rules.specs.Letters.{letter_set, is_letter}
use Rattle.rules.specs.Codons.{residue_x, codon_rule, codon}
use Rattle.rules.specs.Altered.{part, framed, has_stop, through_stop_codon, cut_at_stop}
use Rattle.rules.specs.Translation.{exception_list, excepted, residues_from, translated, residue_count, before_stop, whole_codons, folded_translated}
use Rattle.rules.proofs.Lists.{all_at}
use Rattle.rules.proofs.Translation.{length-translated}
use Rattle.rules.proofs.Reading.{stop-found, no_stop_lem}
use Rattle.rules.proofs.Tests.{all_take, all_drop}
use Rattle.letters.specs.Sets.{is_base}
use Rattle.letters.proofs.Sets.{letter_some}
use Rattle.places.specs.Looked.{Reads}
use Rattle.places.proofs.Strict.{strict-letters, strict-whole, whole_bases, bases_fold}
use Rattle.cuts.specs.declared.Cut.{Cut}
use Rattle.cuts.specs.Cuts.{cut_of, Cuts}

-- a letter of a part, and what is left behind its first n
pub part_at : (start end i : ℕ) (s : List ℕ) → i < end - start → get_or s (start + i) 0 ≡ get_or (part start end s) i 0
unfolding part
part_at start end i s h = sym (get_or-take (end - start) (drop start s) i 0 h ∙ get_or-drop start s i 0)

pub part_first : (start end : ℕ) (s : List ℕ) → 0 < end - start → get_or s start 0 ≡ get_or (part start end s) 0 0
part_first start end s h = ap (λ (k : ℕ). get_or s k 0) (let z : start ≡ start + 0 = omega arith in z) ∙ part_at start end 0 s h

drop-take : (a n : ℕ) (s : List ℕ) → drop a (take n s) ≡ take (n - a) (drop a s)
drop-take zero n s = let all : n ≡ n - 0 = omega arith in ap (λ (k : ℕ). take k s) all
drop-take (suc a) zero s = let none : 0 ≡ 0 - suc a = omega arith in ap (λ (k : ℕ). take k (drop (suc a) s)) none
drop-take (suc a) (suc n) [] = sym (take-nil (suc n - suc a))
drop-take (suc a) (suc n) (x ∷ s) = let same : n - a ≡ suc n - suc a = omega arith in drop-take a n s ∙ ap (λ (k : ℕ). take k (drop a s)) same

pub part_behind : (start end n : ℕ) (s : List ℕ) → part (start + n) end s ≡ drop n (part start end s)
unfolding part
part_behind start end n s =
    let left : end - start - n ≡ end - (start + n) = omega arith in
    sym (drop-take n (end - start) (drop start s) ∙ rw (drop-drop n start s, left))

-- a part of what can be cut can be cut
pub cuts_part : (t n i : ℕ) (plain : Bool) (put : List ℕ) → Cuts t plain put → Cuts t plain (take n (drop i put))
cuts_part t n i plain put x =
    record {
      code = x.code;
      letters = all_take is_letter n (drop i put) (all_drop is_letter i put x.letters);
      bases = λ p. all_take is_base n (drop i put) (all_drop is_base i put (x.bases p));
    }

pub cuts_behind : (t start end n : ℕ) (plain : Bool) (s : List ℕ) → Cuts t plain (part start end s) → Cuts t plain (part (start + n) end s)
cuts_behind t start end n plain s x =
    rw (part_behind start end n s)
    (record {
      code = x.code;
      letters = all_drop is_letter n (part start end s) x.letters;
      bases = λ p. all_drop is_base n (part start end s) (x.bases p);
    })

-- and be read without exceptions
pub cuts_read : (t : ℕ) (plain : Bool) (put : List ℕ) (x : Exceptions) → Cuts t plain put → x.count ≡ 0 → Reads t plain put x
cuts_read t plain put x c none =
    record {
      code = c.code;
      letters = strict-letters put c.letters;
      bases = λ p. whole_bases put (bases_fold put (c.bases p));
      few = omega arith;
    }

-- all of the bases
pub whole_part : (s : List ℕ) → part 0 (length s) s ≡ s
unfolding part
whole_part s = let all : length s - 0 ≡ length s = omega arith in rw all (take-length s)

pub cuts_bases : (t : ℕ) (new : List ℕ) (plain : Bool) → t < 3 → all is_letter new ≡ true → plain ≡ all is_base new → Cuts t plain (part 0 (length new) new)
cuts_bases t new plain code letters is = rw (whole_part new) (record { code = code; letters = letters; bases = λ p. sym is ∙ p })

-- the cut keeps no more than there is
pub cut_le : (t frame : ℕ) (put : List ℕ) → (cut_of t frame put).kept ≤ length put
unfolding cut_of cut_at_stop through_stop_codon
cut_le t frame put = by (has_stop t frame put) (3 * (before_stop (framed t frame put) + 1) - frame)
  where
    by : (b : Bool) (n : ℕ) → length (if b then take n put else put) ≤ length put
    by true n = omega (arith, length-take n put)
    by false n = le_refl (length put)

-- without exceptions a codon's number plays no part
renumbered : (t n m : ℕ) (s : List ℕ) → residues_from t [] n s ≡ residues_from t [] m s
unfolding residues_from excepted
renumbered t n m [] = refl
renumbered t n m (a ∷ []) = refl
renumbered t n m (a ∷ b ∷ []) = refl
renumbered t n m (a ∷ b ∷ c ∷ s) = ap (codon t a b c ∷◌) (renumbered t (suc n) (suc m) s)

-- too few bases for a whole codon behind the letters N: X alone
framed_short : (t frame : ℕ) (put : List ℕ) → 1 ≤ frame → frame + length put < 3 → framed t frame put ≡ residue_x ∷ []
unfolding framed translated residues_from
framed_short t zero put h k = absurd (omega arith)
framed_short t (suc zero) [] h k = refl
framed_short t (suc zero) (a ∷ []) h k = refl
framed_short t (suc zero) (a ∷ b ∷ s) h k = absurd (omega arith)
framed_short t (suc (suc zero)) [] h k = refl
framed_short t (suc (suc zero)) (a ∷ s) h k = absurd (omega arith)
framed_short t (suc (suc (suc n))) put h k = absurd (omega arith)

-- the first codon has the letters N in it; the rest is read as if it stood alone
framed_cons : (t frame : ℕ) (put : List ℕ) → 1 ≤ frame → frame < 3 → 3 ≤ frame + length put → framed t frame put ≡ get_or (framed t frame put) 0 0 ∷ framed t 0 (drop (3 - frame) put)
unfolding framed translated residues_from excepted
framed_cons t zero put h k l = absurd (omega arith)
framed_cons t (suc zero) [] h k l = absurd (omega arith)
framed_cons t (suc zero) (a ∷ []) h k l = absurd (omega arith)
framed_cons t (suc zero) (a ∷ b ∷ s) h k l = ap (codon t (byte "N") a b ∷◌) (renumbered t 2 1 s)
framed_cons t (suc (suc zero)) [] h k l = absurd (omega arith)
framed_cons t (suc (suc zero)) (a ∷ s) h k l = ap (codon t (byte "N") (byte "N") a ∷◌) (renumbered t 2 1 s)
framed_cons t (suc (suc (suc n))) put h k l = absurd (omega arith)

-- the first residue of framed bases, by the sets of its letters
framed_one : (t : ℕ) (put : List ℕ) → 2 ≤ length put → get_or (framed t 1 put) 0 0 ≡ codon t (byte "N") (get_or put 0 0) (get_or put 1 0)
unfolding framed translated residues_from excepted
framed_one t [] h = absurd (omega arith)
framed_one t (a ∷ []) h = absurd (omega arith)
framed_one t (a ∷ b ∷ s) h = refl

framed_two : (t : ℕ) (put : List ℕ) → 1 ≤ length put → get_or (framed t 2 put) 0 0 ≡ codon t (byte "N") (byte "N") (get_or put 0 0)
unfolding framed translated residues_from excepted
framed_two t [] h = absurd (omega arith)
framed_two t (a ∷ s) h = refl

-- a letter's set is not empty
pub some-set : (s : List ℕ) (i x : ℕ) → all is_letter s ≡ true → i < length s → x ≡ letter_set (get_or s i 0) → x < 16 → (0 < x) × (x < 16)
some-set s i x h k e l = (rw e (letter_some (get_or s i 0) (all_at is_letter s i h k)), l)

module _ (t frame : ℕ) (put : List ℕ) (enough : 3 ≤ frame + length put) (a r : ℕ) (e : a ≡ letter_set (get_or put 0 0)) where
  pub codon-of-two : frame ≡ 2 → r ≡ codon_rule t 15 15 a → r ≡ get_or (framed t frame put) 0 0
  unfolding codon letter_set
  codon-of-two f h = h ∙ rw (f, e) (sym (framed_two t put (omega arith)))

  pub codon-of-one : 1 ≤ frame → frame < 3 → (frame ≡ 2 → ⊥) → (b : ℕ) → b ≡ letter_set (get_or put 1 0) → r ≡ codon_rule t 15 a b → r ≡ get_or (framed t frame put) 0 0
  unfolding codon letter_set
  codon-of-one k l f b d h =
      let one : frame ≡ 1 = omega arith in
      h ∙ rw (one, e, d) (sym (framed_one t put (omega arith)))

counts : (frame b n m : ℕ) → 1 ≤ frame → frame < 3 → 3 ≤ frame + n → m ≡ n - (3 - frame) → 3 - frame + min (3 * (b + 1) - 0) m ≡ min (3 * (suc b + 1) - frame) n
counts frame b n m h k l e = omega arith

all_of : (frame n : ℕ) → frame < 3 → 3 ≤ frame + n → 3 - frame + (n - (3 - frame)) ≡ n
all_of frame n h k = omega arith

-- a `*` that appears behind b residues, and none
module _ (t frame : ℕ) (put : List ℕ) where
  cut-found : (b n : ℕ) → before_stop (framed t frame put) ≡ b → b < length (framed t frame put) → n ≡ min (3 * (b + 1) - frame) (length put) → ◌≡◌ {A = Cut} record { found = true; kept = n } (cut_of t frame put)
  unfolding cut_of has_stop cut_at_stop through_stop_codon
  cut-found b n e h k = rw (e, lt-ltb b (length (framed t frame put)) h, length-take (3 * (b + 1) - frame) put, k)

  cut-none : length (framed t frame put) ≤ before_stop (framed t frame put) → ◌≡◌ {A = Cut} record { found = false; kept = length put } (cut_of t frame put)
  unfolding cut_of has_stop cut_at_stop
  cut-none h = rw (le-ltb (before_stop (framed t frame put)) (length (framed t frame put)) h)

module _ (t frame : ℕ) (put : List ℕ) (some : 1 ≤ frame) where
  pub cut_short_lem : frame + length put < 3 → ◌≡◌ {A = Cut} record { found = false; kept = length put } (cut_of t frame put)
  unfolding before_stop
  cut_short_lem h = cut-none t frame put (rw (framed_short t frame put some h) (omega arith))

  module _ (small : frame < 3) (enough : 3 ≤ frame + length put) where
    -- the first codon is a stop
    pub cut-at-once : get_or (framed t frame put) 0 0 ≡ byte "*" → ◌≡◌ {A = Cut} record { found = true; kept = 3 - frame } (cut_of t frame put)
    unfolding before_stop
    cut-at-once h =
        cut-found t frame put 0 (3 - frame)
        (rw (framed_cons t frame put some small enough, eq-eqb (get_or (framed t frame put) 0 0) (byte "*") h))
        (rw (framed_cons t frame put some small enough) (omega arith))
        (omega arith)

    -- it is none: the bases behind it are cut as if they stood alone
    later-before : (get_or (framed t frame put) 0 0 ≡ byte "*" → ⊥) → before_stop (framed t frame put) ≡ suc (before_stop (framed t 0 (drop (3 - frame) put)))
    unfolding before_stop
    later-before h = rw (framed_cons t frame put some small enough, ne_eqb (get_or (framed t frame put) 0 0) (byte "*") h)

    later-length : length (framed t frame put) ≡ suc (length (framed t 0 (drop (3 - frame) put)))
    later-length = ap length (framed_cons t frame put some small enough)

    pub cut_later : (get_or (framed t frame put) 0 0 ≡ byte "*" → ⊥) → (cut : Cut) → cut ≡ cut_of t 0 (drop (3 - frame) put) → ◌≡◌ {A = Cut} record { found = cut.found; kept = 3 - frame + cut.kept } (cut_of t frame put)
    cut_later h cut e = rw e (by (dec_lt (before_stop (framed t 0 rest)) (length (framed t 0 rest))))
      where
        rest : List ℕ
        rest = drop (3 - frame) put

        by : Dec (before_stop (framed t 0 rest) < length (framed t 0 rest)) → ◌≡◌ {A = Cut} record { found = (cut_of t 0 rest).found; kept = 3 - frame + (cut_of t 0 rest).kept } (cut_of t frame put)
        by (yes k) =
            let b = before_stop (framed t 0 rest) in
            let alone : cut_of t 0 rest ≡ record { found = true; kept = min (3 * (b + 1) - 0) (length rest) } = sym (cut-found t 0 rest b (min (3 * (b + 1) - 0) (length rest)) refl k refl) in
            rw alone
            (cut-found t frame put (suc b) (3 - frame + min (3 * (b + 1) - 0) (length rest)) (later-before h) (omega (arith, later-length, k)) (counts frame b (length put) (length rest) some small enough (length-drop (3 - frame) put)))
        by (no k) =
            let alone : cut_of t 0 rest ≡ record { found = false; kept = length rest } = sym (cut-none t 0 rest (omega arith)) in
            rw (alone, length-drop (3 - frame) put, all_of frame (length put) small enough) (cut-none t frame put (omega (arith, later-length, later-before h)))

pub none_listed : (e : Exceptions) → e.count ≡ 0 → exception_list e ≡ []
unfolding exception_list
none_listed e h = rw h

-- the cut by the index of the first stop or the codon count
module _ (t : ℕ) (put : List ℕ) (letters : all is_letter put ≡ true) (x : Exceptions) (none : x.count ≡ 0) (k : ℕ) (e : k ≡ before_stop (folded_translated t (exception_list x) (whole_codons put))) where
  whole_before : before_stop (translated t [] (whole_codons put)) ≡ k
  whole_before = sym (e ∙ rw (none_listed x none) (ap before_stop (strict-whole put letters t [])))

  pub cut-found-at : k < length put / 3 → ◌≡◌ {A = Cut} record { found = true; kept = (k + 1) * 3 } (cut_of t 0 put)
  unfolding framed residue_count
  cut-found-at h =
      cut-found t 0 put k ((k + 1) * 3)
      (stop-found t [] put (rw whole_before h) ∙ whole_before)
      (omega (arith, length-translated t [] put))
      (omega arith)

  pub cut-nowhere : length put / 3 ≤ k → ◌≡◌ {A = Cut} record { found = false; kept = length put } (cut_of t 0 put)
  unfolding framed
  cut-nowhere h = cut-none t 0 put (omega (arith, no_stop_lem t [] put (rw whole_before h)))
