-- Laws of a walk from one difference to the next: what it skips, counts and writes.
-- Assumes nothing.
use Rattle.std.specs.Prelude.{if◌then◌else◌}
use mathlib.Core.Path.{◌≡◌, refl, sym, ap, ◌∙◌}
use mathlib.Core.Bool.{true, false}
use mathlib.Core.List.{List, [], ◌∷◌, ◌++◌}
use Prim.Native.Nat.{ℕ, zero, suc, ◌+◌, ◌-◌, ◌<◌, ◌≤◌, min}
use native.Mathlib.Omega.{arith}
use lib.ListN.{length, take, drop, set, length-append, length-take, length-drop}
use lib.Seq.{length-take-le, take-add, take_all, take_at, drop_at, drop-drop}
use borrow.Rule.Slice.PartMut.{put_mid}
use Rattle.rules.specs.Bytes.{each, over}
use Rattle.rules.specs.Reference.{Reference}
use Rattle.rules.specs.Editions.{is_equal_codon, Difference, difference_at, differences_from, difference_bytes}
use Rattle.rules.proofs.Over.{length_over, lent_on_by}
use Rattle.alike.specs.Reading.{AreEqual}
use Rattle.skips.specs.Walks.{Passes, Skips}

-- four bytes stored at a buffer's start, the last two by what they are equal to
pub put_four : (d : List ℕ) (w x y z v u : ℕ) → 4 ≤ length d → y ≡ v → z ≡ u → set (set (set (set d 0 w) 1 x) 2 y) 3 z ≡ over (w ∷ x ∷ v ∷ u ∷ []) d
unfolding over
put_four [] w x y z v u h e f = absurd (omega arith)
put_four (a ∷ []) w x y z v u h e f = absurd (omega arith)
put_four (a ∷ b ∷ []) w x y z v u h e f = absurd (omega arith)
put_four (a ∷ b ∷ c ∷ []) w x y z v u h e f = absurd (omega arith)
put_four (a ∷ b ∷ c ∷ k ∷ d) w x y z v u h e f = rw (e, f)

module _ (r s : Reference) (past : ℕ) where
  -- the differences from codon n on, and before `past`
  abbrev pub left : ℕ → List Difference
  left n = differences_from r s n (past - n)

  -- a codon that is equal is skipped, another is taken
  one_more : (m : ℕ) → m < past → left m ≡ (if is_equal_codon r s m then left (m + 1) else (difference_at r s m ∷ left (m + 1)))
  unfolding differences_from
  one_more m h =
      let k : past - m ≡ suc (past - (m + 1)) = omega arith in
      let next : suc m ≡ m + 1 = omega arith in
      ap (differences_from r s m) k
      ∙ ap (λ (j : ℕ). if is_equal_codon r s m then differences_from r s j (past - (m + 1)) else (difference_at r s m ∷ differences_from r s j (past - (m + 1)))) next

  pub skip-one : (m : ℕ) → m < past → is_equal_codon r s m ≡ true → left m ≡ left (m + 1)
  skip-one m h e = one_more m h ∙ rw e

  -- and so are many
  skip-many : (n k : ℕ) → ((m : ℕ) → n ≤ m → m < n + k → is_equal_codon r s m ≡ true) → n + k ≤ past → left n ≡ left (n + k)
  skip-many n zero e h = let is : n ≡ n + 0 = omega arith in ap (λ (j : ℕ). left j) is
  skip-many n (suc k) e h =
      let is : n + k + 1 ≡ n + suc k = omega arith in
      skip-many n k (λ m a b. e m a (omega arith)) (omega arith) ∙ skip-one (n + k) (omega arith) (e (n + k) (omega arith) (omega arith)) ∙ ap (λ (j : ℕ). left j) is

  pub passed : (n k m : ℕ) → AreEqual r s n k → n ≤ past → m ≡ min (n + k) past → Passes r s n past m
  unfolding AreEqual
  passed n k m e h is =
      let at : n + (m - n) ≡ m = omega arith in
      record {
        from = omega arith;
        within = omega arith;
        list = skip-many n (m - n) (λ j a b. e j a (omega arith)) (omega arith) ∙ ap (λ (j : ℕ). left j) at;
      }

  take-one : (m : ℕ) → m < past → is_equal_codon r s m ≡ false → left m ≡ difference_at r s m ∷ left (m + 1)
  take-one m h e = one_more m h ∙ rw e

  none_left : (m : ℕ) → past ≤ m → left m ≡ []
  unfolding differences_from
  none_left m h = let z : past - m ≡ 0 = omega arith in rw z

  -- a turn of a loop that goes to the next difference
  taken : (n m : ℕ) → n < past → is_equal_codon r s n ≡ false → Skips r s (n + 1) past m → left n ≡ difference_at r s n ∷ left m
  taken n m h e x = take-one n h e ∙ ap (difference_at r s n ∷◌) x.list

  pub counted : (n m count total : ℕ) → n < past → is_equal_codon r s n ≡ false → Skips r s (n + 1) past m → count + length (left n) ≡ total → count + 1 + length (left m) ≡ total
  counted n m count total h e x is = omega (arith, ap (λ (ds : List Difference). length ds) (taken n m h e x))

  pub all-counted : (n count total : ℕ) → past ≤ n → count + length (left n) ≡ total → count ≡ total
  all-counted n count total h is = omega (arith, ap (λ (ds : List Difference). length ds) (none_left n h))

  length-bytes : (d : Difference) → length (difference_bytes d) ≡ 4
  unfolding difference_bytes
  length-bytes d = refl

  -- the bytes behind a place are those of the differences left: four of them are the next one's
  module _ (L : List ℕ) (n at : ℕ) (h : n < past) (e : is_equal_codon r s n ≡ false) (within : at ≤ length L) (is : drop at L ≡ each difference_bytes (left n)) where
    abbrev bytes : List ℕ
    bytes = difference_bytes (difference_at r s n)

    parts : drop at L ≡ bytes ++ each difference_bytes (left (n + 1))
    unfolding each
    parts = is ∙ ap (each difference_bytes) (take-one n h e)

    pub four-more : at + 4 ≤ length L
    four-more =
        omega (arith, length-drop at L, ap (λ (l : List ℕ). length l) parts, length-append bytes (each difference_bytes (left (n + 1))), length-bytes (difference_at r s n))

    pub bytes_left : (m : ℕ) → Skips r s (n + 1) past m → drop (at + 4) L ≡ each difference_bytes (left m)
    bytes_left m x =
        sym (drop-drop 4 at L) ∙ ap (drop 4) parts ∙ drop_at bytes (each difference_bytes (left (n + 1))) 4 (length-bytes (difference_at r s n)) ∙ ap (each difference_bytes) x.list

    bytes-taken : take (at + 4) L ≡ take at L ++ bytes
    bytes-taken =
        take-add at 4 L
        ∙ ap (λ (l : List ℕ). take at L ++ l) (ap (take 4) parts ∙ take_at bytes (each difference_bytes (left (n + 1))) 4 (length-bytes (difference_at r s n)))

    pub written_on : (old out put : List ℕ) → length L ≤ length old → out ≡ over (take at L) old → put ≡ over bytes (take (length out - at) (drop at out)) → put_mid at (length out - at) out put ≡ over (take (at + 4) L) old
    written_on old out put room held given =
        let long : length (take at L) ≡ at = length-take-le at L within in
        lent_on_by (take at L) bytes old out put at (sym long) (omega arith) held given ∙ ap (λ (l : List ℕ). over l old) (sym bytes-taken)

    pub length-on : (old out put : List ℕ) → length L ≤ length old → out ≡ over (take at L) old → put ≡ over bytes (take (length out - at) (drop at out)) → length (put_mid at (length out - at) out put) ≡ length old
    length-on old out put room held given =
        ap (λ (l : List ℕ). length l) (written_on old out put room held given) ∙ length_over (take (at + 4) L) old (omega (arith, length-take (at + 4) L, four-more))

  -- all of it is written
  pub all-written : (L old out : List ℕ) (n at : ℕ) → past ≤ n → at ≤ length L → drop at L ≡ each difference_bytes (left n) → out ≡ over (take at L) old → out ≡ over L old
  unfolding each
  all-written L old out n at h within is held =
      let none : drop at L ≡ [] = is ∙ ap (each difference_bytes) (none_left n h) in
      held ∙ ap (λ (l : List ℕ). over l old) (take_all at L (omega (arith, length-drop at L, ap (λ (l : List ℕ). length l) none)))
