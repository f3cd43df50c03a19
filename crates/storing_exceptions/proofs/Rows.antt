-- Laws of a loop that writes what f gives for each element, one behind the other, the rest of the buffer lent on each time.
-- Assumes nothing.
use mathlib.Core.Path.{◌≡◌, refl, sym, ap, ◌∙◌}
use mathlib.Core.List.{List, [], ◌∷◌, ◌++◌, append_assoc, append-nil}
use Prim.Native.Nat.{ℕ, zero, suc, ◌+◌, ◌-◌, ◌*◌, ◌≤◌, ◌<◌}
use native.Mathlib.Numerals.{add-one}
use native.Mathlib.Omega.{arith}
use borrow.Rule.Slice.PartMut.{put_mid}
use lib.ListN.{length, take, drop, get_or, length-append}
use lib.Seq.{take-suc, take_all, get_or-take}
use Rattle.rules.specs.declared.Exception.{Exception}
use Rattle.rules.specs.declared.Exceptions.{Exceptions}
use Rattle.rules.specs.Bytes.{each, over}
use Rattle.rules.specs.Translation.{no_exception, exception_list}
use Rattle.rules.specs.Storing.{in_two, exception_bytes}
use Rattle.rules.proofs.Translation.{length_exceptions, first_exceptions}
use Rattle.rules.proofs.Over.{length_over, front_fits, room-behind, written_behind}

module _ {A : Type 0} (f : A → List ℕ) where
  each_append : (xs ys : List A) → each f (xs ++ ys) ≡ each f xs ++ each f ys
  unfolding each
  each_append [] ys = refl
  each_append (x ∷ xs) ys = rw (each_append xs ys) (sym (append_assoc (f x) (each f xs) (each f ys)))

  each-one : (x : A) → each f (x ∷ []) ≡ f x
  unfolding each
  each-one x = append-nil (f x)

  module _ (xs : List A) (d : A) where
    -- what the first i give
    abbrev pub row : ℕ → List ℕ
    row i = each f (take i xs)

    pub row_more : (i : ℕ) → i < length xs → row (i + 1) ≡ row i ++ f (get_or xs i d)
    row_more i h = rw (add-one, take-suc xs i d h, each_append (take i xs) (get_or xs i d ∷ []), each-one (get_or xs i d))

    pub row-all : (i : ℕ) → length xs ≤ i → row i ≡ each f xs
    row-all i h = ap (each f) (take_all i xs h)

    row_within : (k i : ℕ) → i + k ≡ length xs → length (row i) ≤ length (each f xs)
    row_within zero i h = omega (arith, ap length (row-all i (omega arith)))
    row_within (suc k) i h = omega (arith, row_within k (i + 1) (omega arith), ap length (row_more i (omega arith)), length-append (row i) (f (get_or xs i d)))

    pub row_fits : (i : ℕ) → i ≤ length xs → length (row i) ≤ length (each f xs)
    row_fits i h = row_within (length xs - i) i (omega arith)

    -- a turn: the buffer holds what the first i give, in `at` bytes
    module _ (i at : ℕ) (old out : List ℕ) (h : i < length xs) (fits : length (each f xs) ≤ length old) (e : at ≡ length (row i)) (is : out ≡ over (row i) old) where
      both-fit : length (row i ++ f (get_or xs i d)) ≤ length old
      both-fit = omega (arith, row_within (length xs - (i + 1)) (i + 1) (omega arith), ap length (row_more i h))

      pub turn-fits : (m : ℕ) → m ≡ length (f (get_or xs i d)) → at + m ≤ length old
      turn-fits m k = omega (arith, both-fit, length-append (row i) (f (get_or xs i d)))

      pub turn-start : at ≤ length out
      turn-start = front_fits (row i) (f (get_or xs i d)) old out at e both-fit is

      pub turn-room : length (f (get_or xs i d)) ≤ length (take (length out - at) (drop at out))
      turn-room = room-behind (row i) (f (get_or xs i d)) old out at e both-fit is

      pub turn-done : (j : ℕ) → j ≡ i + 1 → (l : List ℕ) (m : ℕ) → m ≡ length (f (get_or xs i d)) → l ≡ over (f (get_or xs i d)) (take (length out - at) (drop at out))
          → (at + m ≡ length (row j)) × (put_mid at (length out - at) out l ≡ over (row j) old)
      turn-done j is-next l m k q = rw (is-next, row_more i h) (written_behind (row i) (f (get_or xs i d)) old out at e both-fit is l m k q)

-- exceptions, three bytes each
pub length-bytes : (es : List Exception) → length (each exception_bytes es) ≡ length es * 3
unfolding each exception_bytes in_two
length-bytes [] = refl
length-bytes (e ∷ es) = omega (arith, length-bytes es)

-- a loop that writes exceptions
module _ (e : Exceptions) (old : List ℕ) (room : e.count * 3 ≤ length old) where
  all_fit : length (each exception_bytes (exception_list e)) ≤ length old
  all_fit = omega (arith, length-bytes (exception_list e), length_exceptions e)

  -- those that were written
  abbrev pub listed : ℕ → List ℕ
  listed i = row exception_bytes (exception_list e) no_exception i

  module _ (i at : ℕ) (out : List ℕ) (h : i < e.count) (k : at ≡ length (listed i)) (is : out ≡ over (listed i) old) where
    one : Exception
    one = get_or (exception_list e) i no_exception

    within : i < length (exception_list e)
    within = omega (arith, length_exceptions e)

    three : length (exception_bytes (get_or (exception_list e) i no_exception)) ≡ 3
    unfolding exception_bytes in_two
    three = refl

    pub next_start : at ≤ length out
    next_start = turn-start exception_bytes (exception_list e) no_exception i at old out within all_fit k is

    pub next-room : 3 ≤ length (take (length out - at) (drop at out))
    next-room = omega (arith, turn-room exception_bytes (exception_list e) no_exception i at old out within all_fit k is, three)

    pub next_fits : (m : ℕ) → m ≡ 3 → at + m ≤ length old
    next_fits m q = turn-fits exception_bytes (exception_list e) no_exception i at old out within all_fit k is m (q ∙ sym three)

    pub next-done : (x : Exception) (l : List ℕ) (m : ℕ) → x ≡ get_or (exception_list e) i no_exception → m ≡ 3 → l ≡ over (exception_bytes x) (take (length out - at) (drop at out))
        → (at + m ≡ length (listed (i + 1))) × (put_mid at (length out - at) out l ≡ over (listed (i + 1)) old)
    next-done x l m same q written =
        turn-done exception_bytes (exception_list e) no_exception i at old out within all_fit k is (i + 1) refl l m (q ∙ sym three)
        (written ∙ ap (λ (y : Exception). over (exception_bytes y) (take (length out - at) (drop at out))) same)

  pub listed-all : (i : ℕ) → e.count ≤ i → listed i ≡ each exception_bytes (exception_list e)
  listed-all i h = row-all exception_bytes (exception_list e) no_exception i (omega (arith, length_exceptions e))

  pub listed-long : (i : ℕ) (out : List ℕ) → i ≤ e.count → out ≡ over (listed i) old → length out ≡ length old
  listed-long i out h is =
      ap length is ∙ length_over (listed i) old (omega (arith, row_fits exception_bytes (exception_list e) no_exception i (omega (arith, length_exceptions e)), all_fit))

-- exception i, as the array holds it
pub held_one : (e : Exceptions) (i : ℕ) → length e.all ≡ 16 → e.count ≤ 16 → i < e.count → get_or e.all i no_exception ≡ get_or (exception_list e) i no_exception
held_one e i long few h = sym (ap (λ (l : List Exception). get_or l i no_exception) (first_exceptions e long few) ∙ get_or-take e.count e.all i no_exception h)
