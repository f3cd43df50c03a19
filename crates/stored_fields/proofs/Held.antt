-- Laws of stored exceptions: what a call takes them for.
-- Assumes nothing.
use mathlib.Core.Path.{◌≡◌, refl, sym, ap, ◌∙◌}
use mathlib.Core.List.{List, [], ◌∷◌, ◌++◌, append_assoc}
use Prim.Native.Nat.{ℕ, zero, suc, ◌+◌, ◌*◌, ◌/◌, ◌%◌, ◌≤◌, ◌<◌}
use native.Mathlib.Numerals.{add-one}
use native.Mathlib.Decide.{dec_lt}
use native.Mathlib.Omega.{arith}
use lib.ListN.{length, drop, get_or, set, replicate}
use lib.Seq.{take-length, take-append_seam, paste, paste-suc}
use borrow.Author.Tests.{eq-eqb, ne_eqb, le-leb, lt-leb}
use Rattle.rules.specs.declared.Exception.{Exception}
use Rattle.rules.specs.Translation.{no_exception, exception_list}
use Rattle.rules.specs.Stored.{exceptions_in}
use Rattle.rules.proofs.Translation.{length_exceptions}
use Rattle.stored_fields.specs.Held.{exception_at, held, counted, exceptions_of}

pub length_stored : (s : List ℕ) → length (exceptions_in s) ≡ length s / 3
unfolding exceptions_in
length_stored [] = refl
length_stored (a ∷ []) = refl
length_stored (a ∷ b ∷ []) = refl
length_stored (a ∷ b ∷ r ∷ s) = omega (arith, length_stored s)

pub stored_at : (s : List ℕ) (i : ℕ) → i * 3 + 3 ≤ length s → get_or (exceptions_in s) i no_exception ≡ exception_at s i
unfolding exceptions_in
stored_at [] i h = absurd (omega arith)
stored_at (a ∷ []) i h = absurd (omega arith)
stored_at (a ∷ b ∷ []) i h = absurd (omega arith)
stored_at (a ∷ b ∷ r ∷ s) zero h = refl
stored_at (a ∷ b ∷ r ∷ s) (suc i) h =
    let first : suc i * 3 ≡ suc (suc (suc (i * 3))) = omega arith in
    let second : suc i * 3 + 1 ≡ suc (suc (suc (i * 3 + 1))) = omega arith in
    let third : suc i * 3 + 2 ≡ suc (suc (suc (i * 3 + 2))) = omega arith in
    rw (second, third, first) (stored_at s i (omega arith))

-- the three cases
module _ (s : List ℕ) where
  pub uneven : (length s % 3 ≡ 0 → ⊥) → counted 17 ≡ exceptions_of s
  unfolding exceptions_of
  uneven h = rw (ne_eqb (length s % 3) 0 h)

  module _ (whole : length s % 3 ≡ 0) where
    pub many : 16 < length s / 3 → counted (length s / 3) ≡ exceptions_of s
    unfolding exceptions_of
    many h = rw (eq-eqb (length s % 3) 0 whole, length_stored s, lt-leb (length s / 3) 16 h)

    pub few : length s / 3 ≤ 16 → held (exceptions_in s) ≡ exceptions_of s
    unfolding exceptions_of
    few h = rw (eq-eqb (length s % 3) 0 whole, length_stored s, le-leb (length s / 3) 16 h)

-- the first i are held
unfoldable pub held_first : List ℕ → ℕ → List Exception
held_first s i = paste (replicate 16 no_exception) 0 (exceptions_in s) i

pub none-held : (s : List ℕ) → replicate 16 no_exception ≡ held_first s 0
unfolding held_first
none-held s = refl

pub one_more : (s : List ℕ) (i : ℕ) (all : List Exception) (x : Exception) → i < length s / 3 → length s / 3 ≤ 16 → all ≡ held_first s i → x ≡ exception_at s i
    → set all i x ≡ held_first s (i + 1)
unfolding held_first
one_more s i all x h k is e =
    let at : i ≡ 0 + i = omega arith in
    let step = paste-suc (replicate 16 no_exception) 0 (exceptions_in s) i no_exception (omega arith) (rw (length_stored s) h) in
    rw (is, e, ← stored_at s i (omega arith), add-one)
    (ap (λ (k : ℕ). set (held_first s i) k (get_or (exceptions_in s) i no_exception)) at ∙ step)

pub all_held : (s : List ℕ) (i : ℕ) (all : List Exception) → length s % 3 ≡ 0 → length s / 3 ≤ 16 → i ≡ length s / 3 → all ≡ held_first s i
    → record { all = all; count = length s / 3 } ≡ exceptions_of s
unfolding held_first held
all_held s i all whole h e is =
    let long : i ≡ length (exceptions_in s) = e ∙ sym (length_stored s) in
    let at : 0 + length (exceptions_in s) ≡ length (exceptions_in s) = omega arith in
    rw (is, long, take-length (exceptions_in s), at, ← length_stored s) (few s whole h)

-- what a call takes them for
list_held : (es : List Exception) → exception_list (held es) ≡ es
unfolding exception_list held
list_held es =
    rw (append_assoc es (drop (length es) (replicate 16 no_exception)) (replicate (length es) no_exception))
    (take-append_seam es (drop (length es) (replicate 16 no_exception) ++ replicate (length es) no_exception))

module _ (s : List ℕ) (whole : length s % 3 ≡ 0) where
  pub list-few : length (exceptions_in s) ≤ 16 → exception_list (exceptions_of s) ≡ exceptions_in s
  list-few h = rw (← few s whole (rw length_stored at h)) (list_held (exceptions_in s))

  pub list_length : length (exception_list (exceptions_of s)) ≡ length (exceptions_in s)
  unfolding held counted
  list_length = length_exceptions (exceptions_of s) ∙ by (dec_lt 16 (length s / 3))
    where
      by : Dec (16 < length s / 3) → (exceptions_of s).count ≡ length (exceptions_in s)
      by (yes h) = rw (← many s whole h) (sym (length_stored s))
      by (no h) = rw (← few s whole (omega arith))

pub list_uneven : (s : List ℕ) → (length s % 3 ≡ 0 → ⊥) → length (exception_list (exceptions_of s)) ≡ 17
unfolding counted
list_uneven s h = length_exceptions (exceptions_of s) ∙ rw (← uneven s h)
