-- Laws of the beginning and the ending that two proteins share, where a part of each is known.
-- Assumes nothing.
use Rattle.std.specs.Prelude.{if◌then◌else◌}
use mathlib.Core.Path.{◌≡◌, refl, sym, ap, ap₂, ◌∙◌}
use mathlib.Core.Bool.{Bool, true, false, ◌&&◌, and_self, and-eq-true_iff}
use mathlib.Core.List.{List, [], ◌∷◌, ◌++◌}
use Prim.Native.Nat.{ℕ, suc, ◌+◌, ◌-◌, ◌≤◌, ◌<◌, min, zero-le}
use native.Mathlib.Nat.{sub-zero, zero-add}
use native.Mathlib.Omega.{arith}
use lib.Dec.{eqb, ltb}
use lib.ListN.{length, take, drop, length-append, length-drop, take-append-drop}
use lib.Seq.{length-take-le, take-take, take-add, take_at, drop-drop, drop-length, drop-append-add}
use borrow.Author.Tests.{ltb-true, ltb-false, eqb-true}
use Rattle.rules.specs.Trims.{common_prefix, common_suffix}
use Rattle.rules.specs.Record.{ending}
use Rattle.rules.proofs.Over.{tail-is}
use Rattle.rules.proofs.Trims.{cp_le_l, cp_le_r, cp_take, cp_append, cs_le_l, cs_le_r, cs_append, same_self, same_equal}
use Rattle.shares.specs.Shares.{Shares}

-- n first elements that are known to be shared count whole, and n last ones
pub cp_shared : (n : ℕ) (a b : List ℕ) → n ≤ length a → take n a ≡ take n b → common_prefix a b ≡ n + common_prefix (drop n a) (drop n b)
cp_shared n a b h e =
    let left : a ≡ take n a ++ drop n a = sym (take-append-drop n a) in
    let right : b ≡ take n a ++ drop n b = sym (take-append-drop n b) ∙ ap (◌++ drop n b) (sym e) in
    ap₂ common_prefix left right ∙ cp_append (take n a) (drop n a) (drop n b) ∙ ap (◌+ common_prefix (drop n a) (drop n b)) (length-take-le n a h)

pub cs_shared : (n : ℕ) (a b : List ℕ) → n ≤ length a → drop (length a - n) a ≡ drop (length b - n) b → common_suffix a b ≡ n + common_suffix (take (length a - n) a) (take (length b - n) b)
cs_shared n a b h e =
    let m = length a - n in
    let k = length b - n in
    let left : a ≡ take m a ++ drop m a = sym (take-append-drop m a) in
    let right : b ≡ take k b ++ drop m a = sym (take-append-drop k b) ∙ ap (take k b ++◌) (sym e) in
    let long : length (drop m a) ≡ n = omega (arith, length-drop m a) in
    ap₂ common_suffix left right ∙ cs_append (drop m a) (take m a) (take k b) ∙ ap (◌+ common_suffix (take m a) (take k b)) long

-- where two lists differ within both, what stands behind them doesn't count
cp_inside : (a b p q : List ℕ) → common_prefix a b < length a → common_prefix a b < length b → common_prefix (a ++ p) (b ++ q) ≡ common_prefix a b
unfolding common_prefix
cp_inside [] b p q h k = absurd (omega arith)
cp_inside (x ∷ a) [] p q h k = absurd (omega arith)
cp_inside (x ∷ a) (y ∷ b) p q h k = at (eqb x y) h k (cp_inside a b p q)
  where
    at : (t : Bool) → (if t then suc (common_prefix a b) else 0) < suc (length a) → (if t then suc (common_prefix a b) else 0) < suc (length b)
        → (common_prefix a b < length a → common_prefix a b < length b → common_prefix (a ++ p) (b ++ q) ≡ common_prefix a b)
        → (if t then suc (common_prefix (a ++ p) (b ++ q)) else 0) ≡ (if t then suc (common_prefix a b) else 0)
    at true h k r = ap suc (r (omega arith) (omega arith))
    at false h k r = refl

pub cp_self : (a : List ℕ) → common_prefix a a ≡ length a
cp_self a = eqb-true _ _ (sym (same_equal a a refl) ∙ same_self a)

-- the part of a list from a place up to an end
abbrev part : ℕ → ℕ → List ℕ → List ℕ
part from end l = take (end - from) (drop from l)

length_part : (from end : ℕ) (l : List ℕ) → end ≤ length l → length (part from end l) ≡ end - from
length_part from end l h = length-take-le (end - from) (drop from l) (rw length-drop (omega arith))

part-rest : (from end : ℕ) (l : List ℕ) → part from end l ++ drop (end - from) (drop from l) ≡ drop from l
part-rest from end l = take-append-drop (end - from) (drop from l)

-- the beginning: k is what the parts between the known ones share at their start
module _ (ahead behind : ℕ) (R A : List ℕ) (known : Shares ahead behind R A) (k : ℕ) (is : k ≡ common_prefix (part ahead (length R - behind) R) (part ahead (length A - behind) A)) where
  pub begin-fits : (ahead + k ≤ length R - behind) × (ahead + k ≤ length A - behind)
  begin-fits =
      let P = part ahead (length R - behind) R in
      let Q = part ahead (length A - behind) A in (
        omega (arith, known.in-reference, cp_le_l P Q, length_part ahead (length R - behind) R (omega arith)),
        omega (arith, known.in-altered, cp_le_r P Q, length_part ahead (length A - behind) A (omega arith)),
      )

  pub begin-in : (ahead + k ≤ length R) × (ahead + k ≤ length A)
  begin-in = (omega (arith, begin-fits.0), omega (arith, begin-fits.1))

  -- the first ahead + k are shared
  shared : take (ahead + k) R ≡ take (ahead + k) A
  shared =
      let P = part ahead (length R - behind) R in
      let Q = part ahead (length A - behind) A in
      let in-r : k ≤ length R - behind - ahead = omega (arith, begin-fits.0) in
      let in-a : k ≤ length A - behind - ahead = omega (arith, begin-fits.1) in
      let both : take k P ≡ take k Q = cp_take k P Q (omega arith) in
      let between : take k (drop ahead R) ≡ take k (drop ahead A) =
      sym (take-take k (length R - behind - ahead) (drop ahead R) in-r) ∙ both ∙ take-take k (length A - behind - ahead) (drop ahead A) in-a in
      take-add ahead k R ∙ ap₂ ◌++◌ known.first between ∙ sym (take-add ahead k A)

  -- the parts differ within both
  pub begin-differs : (ltb (ahead + k) (length R - behind) && ltb (ahead + k) (length A - behind)) ≡ true → ahead + k ≡ common_prefix R A
  begin-differs t =
      let less = (and-eq-true_iff (ltb (ahead + k) (length R - behind)) (ltb (ahead + k) (length A - behind))).0 t in
      let m = length R - behind in
      let n = length A - behind in
      let P = part ahead m R in
      let Q = part ahead n A in
      let long-p : length P ≡ m - ahead = length_part ahead m R (omega arith) in
      let long-q : length Q ≡ n - ahead = length_part ahead n A (omega arith) in
      let inside = cp_inside P Q (drop (m - ahead) (drop ahead R)) (drop (n - ahead) (drop ahead A))
      (omega (arith, ltb-true (ahead + k) m less.0)) (omega (arith, ltb-true (ahead + k) n less.1)) in
      let behind-ahead : common_prefix (drop ahead R) (drop ahead A) ≡ k = sym (ap₂ common_prefix (part-rest ahead m R) (part-rest ahead n A)) ∙ inside ∙ sym is in
      omega (arith, cp_shared ahead R A (omega (arith, known.in-reference)) known.first, behind-ahead)

  -- one of them has ended: with both, all is shared
  pub begin-whole : (ltb (ahead + k) (length R - behind) && ltb (ahead + k) (length A - behind)) ≡ false → length R - behind ≡ length A - behind → length R ≡ common_prefix R A
  begin-whole t e =
      let past : length R - behind ≤ ahead + k = ltb-false (ahead + k) (length R - behind) (sym (and_self (ltb (ahead + k) (length R - behind))) ∙ ap (λ (n : ℕ). ltb (ahead + k) (length R - behind) && ltb (ahead + k) n) e ∙ t) in
      let here : ahead + k ≡ length R - behind = omega (arith, begin-fits.0) in
      let begins : take (length R - behind) R ≡ take (length A - behind) A = ap (λ (n : ℕ). take n R) (sym here) ∙ shared ∙ ap (λ (n : ℕ). take n A) (here ∙ e) in
      let equal : R ≡ A = sym (take-append-drop (length R - behind) R) ∙ ap₂ ◌++◌ begins known.last ∙ take-append-drop (length A - behind) A in
      sym (cp_self R) ∙ ap (common_prefix R) equal

  -- with one, the comparison goes on
  pub begin-on : (j : ℕ) → j ≡ common_prefix (part (ahead + k) (length R) R) (part (ahead + k) (length A) A) → ahead + k + j ≡ common_prefix R A
  begin-on j e =
      let s = ahead + k in
      let rest : j ≡ common_prefix (drop s R) (drop s A) = e ∙ ap₂ common_prefix (tail-is s R) (tail-is s A) in
      omega (arith, rest, cp_shared s R A (omega (arith, begin-fits.0)) shared)

-- the last n of a list are those of its part from s on, where that has as many
last_of : (s n : ℕ) (l : List ℕ) → s + n ≤ length l → drop (length (drop s l) - n) (drop s l) ≡ drop (length l - n) l
last_of s n l h =
    let at : s + (length (drop s l) - n) ≡ length l - n = omega (arith, length-drop s l) in
    drop-drop (length (drop s l) - n) s l ∙ ap (λ (m : ℕ). drop m l) at

within : (s k n m : ℕ) → m ≡ n - s → s + k ≤ n → k ≤ m
within s k n m e h = omega arith

less : (s k : ℕ) (l : List ℕ) → length (drop s l) - k ≡ length l - k - s
less s k l = omega (arith, length-drop s l)

-- fewer of the last ones are shared too
last_fewer : (n m : ℕ) (a b : List ℕ) → n ≤ m → m ≤ length a → m ≤ length b → drop (length a - m) a ≡ drop (length b - m) b → drop (length a - n) a ≡ drop (length b - n) b
last_fewer n m a b h ha hb e =
    let at_a : length a - m + (m - n) ≡ length a - n = omega arith in
    let at_b : length b - m + (m - n) ≡ length b - n = omega arith in
    ap (λ (i : ℕ). drop i a) (sym at_a) ∙ sym (drop-drop (m - n) (length a - m) a) ∙ ap (drop (m - n)) e ∙ drop-drop (m - n) (length b - m) b ∙ ap (λ (i : ℕ). drop i b) at_b

least_le : (x y k : ℕ) → k ≡ min x y → (k ≤ x) × (k ≤ y)
least_le x y k e = (omega arith, omega arith)

-- so many of those behind s that each list has them
least_fits : (x m n s k : ℕ) → s ≤ m → s ≤ n → k ≡ min x (min m n - s) → (s + k ≤ m) × (s + k ≤ n)
least_fits x m n s k hm hn e =
    let few = (least_le x (min m n - s) k e).1 in
    let both = least_le m n (min m n) refl in
    (omega arith, omega arith)

-- the ending behind s residues, k of it known
module _ (behind s k : ℕ) (R A : List ℕ) (known : Shares 0 behind R A) (in-r : s ≤ length R) (in-a : s ≤ length A) (is : k ≡ min behind (min (length R) (length A) - s)) where
  pub ending-is : (n : ℕ) → n ≡ common_suffix (part s (length R - k) R) (part s (length A - k) A) → k + n ≡ ending false s R A
  unfolding ending
  ending-is n e =
      let few : k ≤ behind = (least_le behind (min (length R) (length A) - s) k is).0 in
      let fits = least_fits behind (length R) (length A) s k in-r in-a is in
      let last : drop (length R - k) R ≡ drop (length A - k) A = last_fewer k behind R A few (rw zero-add at known.in-reference) (rw zero-add at known.in-altered) known.last in
      let rest : drop (length (drop s R) - k) (drop s R) ≡ drop (length (drop s A) - k) (drop s A) = last_of s k R fits.0 ∙ last ∙ sym (last_of s k A fits.1) in
      let whole = cs_shared k (drop s R) (drop s A) (within s k (length R) (length (drop s R)) (length-drop s R) fits.0) rest in
      let parts : n ≡ common_suffix (take (length (drop s R) - k) (drop s R)) (take (length (drop s A) - k) (drop s A)) =
      e ∙ ap₂ common_suffix (ap (λ (m : ℕ). take m (drop s R)) (sym (less s k R))) (ap (λ (m : ℕ). take m (drop s A)) (sym (less s k A))) in
      ap (k +◌) parts ∙ sym whole

  -- the sum fits: an ending is at most as long as its list
  pub ending-in : (n : ℕ) → n ≡ common_suffix (part s (length R - k) R) (part s (length A - k) A) → k + n ≤ length R
  unfolding ending
  ending-in n e = rw (ending-is n e) (omega (arith, cs_le_l (drop s R) (drop s A), length-drop s R))

-- what is known at the end is known alone; and nothing is, of any two
pub shares_last : (ahead behind : ℕ) (R A : List ℕ) → Shares ahead behind R A → Shares 0 behind R A
shares_last ahead behind R A known =
    record { in-reference = omega (arith, known.in-reference); in-altered = omega (arith, known.in-altered); first = refl; last = known.last }

pub shares_none : (R A : List ℕ) → Shares 0 0 R A
shares_none R A = record { in-reference = zero-le; in-altered = zero-le; first = refl; last = simp (sub-zero, drop-length) }

-- A of three parts: the first residues of R, any others, and the last of R
pub shares_parts : (ahead behind : ℕ) (R M : List ℕ) → ahead + behind ≤ length R → Shares ahead behind R (take ahead R ++ (M ++ drop (length R - behind) R))
shares_parts ahead behind R M h =
    let first = take ahead R in
    let last = drop (length R - behind) R in
    let long-first : length first ≡ ahead = length-take-le ahead R (omega arith) in
    let long-last : length last ≡ behind = omega (arith, length-drop (length R - behind) R) in
    let long : length (first ++ (M ++ last)) ≡ ahead + (length M + behind) = simp length-append (omega arith) in
    let at : length (first ++ (M ++ last)) - behind ≡ length first + (length M + 0) = omega arith in
    record {
      in-reference = h;
      in-altered = omega arith;
      first = sym (take_at first (M ++ last) ahead long-first);
      last = sym (ap (λ (n : ℕ). drop n (first ++ (M ++ last))) at ∙ drop-append-add first (M ++ last) (length M + 0) ∙ drop-append-add M last 0);
    }

-- both proteins have the shared beginning, and behind it the ending
pub prefix_fits : (s : ℕ) (r a : List ℕ) → s ≡ common_prefix r a → (s ≤ length r) × (s ≤ length a)
prefix_fits s r a e = (omega (arith, cp_le_l r a), omega (arith, cp_le_r r a))

pub ending_fits : (flag : Bool) (s n : ℕ) (r a : List ℕ) → s ≡ common_prefix r a → n ≡ ending flag s r a → (s + n ≤ length r) × (s + n ≤ length a)
unfolding ending
ending_fits true s n r a e f = (omega (arith, cp_le_l r a), omega (arith, cp_le_r r a))
ending_fits false s n r a e f = (
  omega (arith, cp_le_l r a, cs_le_l (drop s r) (drop s a), length-drop s r),
  omega (arith, cp_le_r r a, cs_le_r (drop s r) (drop s a), length-drop s a),
)
