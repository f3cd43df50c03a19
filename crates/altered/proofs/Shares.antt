-- Laws of what a transcript and the one that a plan makes of it share: the beginning, and the ending behind it.
-- Assumes nothing.
use Rattle.std.specs.Prelude.{if◌then◌else◌}
use mathlib.Core.Path.{◌≡◌, refl, sym, ap, ◌∙◌}
use mathlib.Core.Bool.{Bool, true, false}
use mathlib.Core.List.{List, [], ◌∷◌, ◌++◌, append_assoc, reverse, reverse-append}
use Prim.Native.Nat.{ℕ, zero, suc, ◌+◌, ◌-◌, ◌≤◌, ◌<◌}
use native.Mathlib.Omega.{arith}
use lib.ListN.{length, take, drop, length-append, length-take, length-drop, length-reverse, take-append-drop}
use lib.Dec.{eqb}
use lib.Seq.{length-take-le, take-take, take-add, take_at, drop-drop, drop_at, drop-append-add}
use Rattle.rules.specs.Trims.{common_prefix, common_suffix}
use Rattle.rules.specs.Altered.{part, carried}
use Rattle.rules.specs.Exceptions.{suffix_behind}
use Rattle.rules.proofs.Trims.{cp_take, cp_append, cs_append, cs_drop, cs_le_l, cs_le_r}
use Rattle.rules.proofs.Parts.{length_part}
use Rattle.edits.specs.declared.plans.Plan.{Plan}
use Rattle.edits.specs.Plans.{goes_in}
use Rattle.transcript.specs.Carrying.{carried_by}
use Rattle.transcript.proofs.Transcripts.{length-goes-in}
use Rattle.exceptions.specs.Moving.{Moves, Lengths, Shared}
use Rattle.exceptions.proofs.Moving.{lengths_of}
use Rattle.altered.specs.Over.{Makes}
use Rattle.altered.proofs.Letters.{length-made}

-- what two lists share within n first letters, they share
pub short_front : (n : ℕ) (a b : List ℕ) → n ≤ length a → n ≤ length b → common_prefix (take n a) (take n b) < n → common_prefix a b ≡ common_prefix (take n a) (take n b)
unfolding common_prefix
short_front zero a b h k l = absurd (omega arith)
short_front (suc n) [] b h k l = absurd (omega arith)
short_front (suc n) (x ∷ a) [] h k l = absurd (omega arith)
short_front (suc n) (x ∷ a) (y ∷ b) h k l = by (eqb x y) l (λ m. short_front n a b (omega arith) (omega arith) m)
  where
    by : (q : Bool) → (if q then suc (common_prefix (take n a) (take n b)) else 0) < suc n → (common_prefix (take n a) (take n b) < n → common_prefix a b ≡ common_prefix (take n a) (take n b))
        → (if q then suc (common_prefix a b) else 0) ≡ (if q then suc (common_prefix (take n a) (take n b)) else 0)
    by true m next = ap suc (next (omega arith))
    by false m next = refl

-- a block of n letters from place i on: they are shared up to the first that differs, or all are
module _ (s t : List ℕ) (i n r : ℕ) (h : i + n ≤ length s) (k : i + n ≤ length t) (is : r ≡ common_prefix (part i (i + n) s) (part i (i + n) t)) where
  few : i + n - i ≡ n
  few = omega arith

  firsts : r ≡ common_prefix (take n (drop i s)) (take n (drop i t))
  unfolding part
  firsts = is ∙ rw few

  pub block-parts : r < n → common_prefix (drop i s) (drop i t) ≡ r
  block-parts l = short_front n (drop i s) (drop i t) (omega (arith, length-drop i s)) (omega (arith, length-drop i t)) (omega (arith, firsts)) ∙ sym firsts

  pub block-shared : n ≤ r → common_prefix (drop i s) (drop i t) ≡ n + common_prefix (drop (i + n) s) (drop (i + n) t)
  block-shared l =
      let a = drop i s in
      let b = drop i t in
      let size : length (take n a) ≡ n = length-take-le n a (omega (arith, length-drop i s)) in
      let equal : take n a ≡ take n b =
      sym (take-take n n a (omega arith)) ∙ cp_take n (take n a) (take n b) (omega (arith, firsts)) ∙ take-take n n b (omega arith) in
      ap (λ (l : List ℕ). common_prefix l b) (sym (take-append-drop n a))
      ∙ ap (common_prefix (take n a ++ drop n a)) (sym (take-append-drop n b) ∙ ap (◌++ drop n b) (sym equal))
      ∙ cp_append (take n a) (drop n a) (drop n b)
      ∙ rw (size, drop-drop n i s, drop-drop n i t)

-- a shared ending counts whole
cs_shared : (a b : List ℕ) (i : ℕ) → i ≤ length a → drop (length a - i) a ≡ drop (length b - i) b
    → common_suffix a b ≡ i + common_suffix (take (length a - i) a) (take (length b - i) b)
cs_shared a b i h e =
    let m : ℕ = length a - i in
    let n : ℕ = length b - i in
    let q = drop m a in
    let long : length q ≡ i = length-drop m a ∙ omega arith in
    let left : a ≡ take m a ++ q = sym (take-append-drop m a) in
    let right : b ≡ take n b ++ q = sym (take-append-drop n b) ∙ ap (λ (l : List ℕ). take n b ++ l) (sym e) in
    ap (λ (l : List ℕ). common_suffix l b) left ∙ ap (common_suffix (take m a ++ q)) right ∙ cs_append q (take m a) (take n b) ∙ ap (λ (k : ℕ). k + common_suffix (take m a) (take n b)) long

-- what is left to share once i last letters behind the prefix are passed
abbrev pub left_back : ℕ → List ℕ → List ℕ → ℕ → ℕ
left_back p s t i = common_suffix (take (length (drop p s) - i) (drop p s)) (take (length (drop p t) - i) (drop p t))

-- what two lists share within n last letters, they share
short_back : (xs ys zs ws : List ℕ) (n : ℕ) → length zs ≡ n → length ws ≡ n → common_suffix zs ws < n → common_suffix (xs ++ zs) (ys ++ ws) ≡ common_suffix zs ws
unfolding common_suffix
short_back xs ys zs ws n h k l =
    let a : List ℕ = reverse zs ++ reverse xs in
    let b : List ℕ = reverse ws ++ reverse ys in
    let first : take n a ≡ reverse zs = take_at (reverse zs) (reverse xs) n (length-reverse zs ∙ h) in
    let second : take n b ≡ reverse ws = take_at (reverse ws) (reverse ys) n (length-reverse ws ∙ k) in
    let both : common_prefix (take n a) (take n b) ≡ common_prefix (reverse zs) (reverse ws) = rw (first, second) in
    rw (reverse-append xs zs, reverse-append ys ws)
    (short_front n a b (omega (arith, length-append (reverse zs) (reverse xs), length-reverse zs)) (omega (arith, length-append (reverse ws) (reverse ys), length-reverse ws)) (omega (arith, both)) ∙ both)

-- a block of n letters before the last i: they are shared from the last up to one that differs, or all are
module _ (p : ℕ) (s t : List ℕ) (i n r : ℕ) (h : p + i + n ≤ length s) (k : p + i + n ≤ length t)
    (is : r ≡ common_suffix (part (length s - (i + n)) (length s - (i + n) + n) s) (part (length t - (i + n)) (length t - (i + n) + n) t)) where
  abbrev rest : List ℕ → List ℕ
  rest u = take (length (drop p u) - (i + n)) (drop p u)

  abbrev last : List ℕ → List ℕ
  last u = part (length u - (i + n)) (length u - (i + n) + n) u

  length_last : (u : List ℕ) → p + i + n ≤ length u → length (last u) ≡ n
  length_last u l = length_part (length u - (i + n)) (length u - (i + n) + n) u (omega arith) ∙ omega arith

  split-last : (u : List ℕ) → p + i + n ≤ length u → take (length (drop p u) - i) (drop p u) ≡ rest u ++ last u
  unfolding part
  split-last u l =
      let m : ℕ = length (drop p u) - (i + n) in
      let whole : length (drop p u) - i ≡ m + n = omega (arith, length-drop p u) in
      let place : p + m ≡ length u - (i + n) = omega (arith, length-drop p u) in
      let few : length u - (i + n) + n - (length u - (i + n)) ≡ n = omega arith in
      rw (whole, take-add m n (drop p u), drop-drop m p u, place, few)

  both-split : left_back p s t i ≡ common_suffix (rest s ++ last s) (rest t ++ last t)
  both-split = rw (split-last s h, split-last t k)

  pub back-parts : r < n → left_back p s t i ≡ r
  back-parts l = both-split ∙ short_back (rest s) (rest t) (last s) (last t) n (length_last s h) (length_last t k) (omega (arith, is)) ∙ sym is

  pub back-shared : n ≤ r → left_back p s t i ≡ n + left_back p s t (i + n)
  back-shared l =
      let none : length (last s) - n ≡ 0 = omega (arith, length_last s h) in
      let none_2 : length (last t) - n ≡ 0 = omega (arith, length_last t k) in
      let equal : last s ≡ last t =
      ap (λ (m : ℕ). drop m (last s)) (sym none) ∙ cs_drop n (last s) (last t) (omega (arith, is)) ∙ ap (λ (m : ℕ). drop m (last t)) none_2 in
      both-split ∙ ap (λ (l : List ℕ). common_suffix (rest s ++ last s) (rest t ++ l)) (sym equal) ∙ cs_append (last s) (rest s) (rest t)
      ∙ ap (◌+ common_suffix (rest s) (rest t)) (length_last s h)

-- at its end
pub back_within : (p : ℕ) (s t : List ℕ) (i : ℕ) → p + i ≤ length s → p + i ≤ length t → (p + i + left_back p s t i ≤ length s) × (p + i + left_back p s t i ≤ length t)
back_within p s t i h k =
    let m : ℕ = length (drop p s) - i in
    let n : ℕ = length (drop p t) - i in (
      omega (arith, cs_le_l (take m (drop p s)) (take n (drop p t)), length-take m (drop p s), length-drop p s),
      omega (arith, cs_le_r (take m (drop p s)) (take n (drop p t)), length-take n (drop p t), length-drop p t),
    )

module _ (p : Plan) (letters new : List ℕ) (m : Makes p letters new) where
  long : length (take p.from letters) ≡ p.from
  long = length-take-le p.from letters (omega (arith, m.rising, m.ends))

  -- the letters before the edit are shared
  pub front-starts : common_prefix letters (carried_by p letters new) ≡ p.from + common_prefix (drop p.from letters) (drop p.from (carried_by p letters new))
  unfolding carried_by carried
  front-starts =
      let front = take p.from letters in
      let behind = goes_in p letters new ++ drop p.to letters in
      let rest : drop p.from (front ++ behind) ≡ behind = drop_at front behind p.from long in
      ap (λ (l : List ℕ). common_prefix l (front ++ behind)) (sym (take-append-drop p.from letters))
      ∙ cp_append front (drop p.from letters) behind ∙ rw (long, rest)

  -- so are those behind it
  tail_at : (i : ℕ) → i ≤ length letters - p.to → drop (length (carried_by p letters new) - i) (carried_by p letters new) ≡ drop (length letters - i) letters
  unfolding carried_by carried
  tail_at i h =
      let front = take p.from letters ++ goes_in p letters new in
      let tail = drop p.to letters in
      let j : ℕ = length letters - p.to - i in
      let size = length-made p letters new m in
      let many : length front ≡ p.from + p.kept = length-append (take p.from letters) (goes_in p letters new) ∙ omega (arith, long, length-goes-in p letters new m.source) in
      let place : length (carried_by p letters new) - i ≡ length front + j = omega (arith, m.ends) in
      let old : p.to + j ≡ length letters - i = omega (arith, m.ends) in
      let split : carried_by p letters new ≡ front ++ tail = sym (append_assoc (take p.from letters) (goes_in p letters new) tail) in
      ap (λ (n : ℕ). drop n (carried_by p letters new)) place ∙ ap (drop (length front + j)) split ∙ drop-append-add front tail j
      ∙ drop-drop j p.to letters ∙ ap (λ (n : ℕ). drop n letters) old

  behind-prefix : (q i : ℕ) (s : List ℕ) → q + i ≤ length s → drop (length (drop q s) - i) (drop q s) ≡ drop (length s - i) s
  behind-prefix q i s h =
      let place : q + (length (drop q s) - i) ≡ length s - i = omega (arith, length-drop q s) in
      drop-drop (length (drop q s) - i) q s ∙ ap (λ (n : ℕ). drop n s) place

  pub back-starts : (q i : ℕ) → i ≤ length letters - p.to → q + i ≤ length letters → q + i ≤ length (carried_by p letters new)
      → suffix_behind q letters (carried_by p letters new) ≡ i + left_back q letters (carried_by p letters new) i
  unfolding suffix_behind
  back-starts q i h k l =
      let t = carried_by p letters new in
      cs_shared (drop q letters) (drop q t) i (omega (arith, length-drop q letters)) (behind-prefix q i letters k ∙ sym (tail_at i h) ∙ sym (behind-prefix q i t l))

  -- what is known where exceptions move
  moves-over : (first : ℕ) → first ≤ p.from → Moves first letters (carried_by p letters new)
  moves-over first h = record { front = omega (arith, front-starts); old-short = m.old-short; new-short = m.new-short }

  module _ (prefix suffix made : ℕ) (front : prefix ≡ common_prefix letters (carried_by p letters new)) (back : suffix ≡ suffix_behind prefix letters (carried_by p letters new))
      (is : made ≡ length (carried_by p letters new)) where
    pub shared-over : Shared prefix suffix (length letters) made letters (carried_by p letters new)
    shared-over = record { front = front; back = back; old-size = refl; new-size = sym is }

    pub lengths-over : (first : ℕ) → first ≤ p.from → Lengths first prefix suffix (length letters) made
    lengths-over first h = lengths_of first prefix suffix (length letters) made letters (carried_by p letters new) (moves-over first h) shared-over
