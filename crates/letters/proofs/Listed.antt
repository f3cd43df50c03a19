-- A table that lists a rule holds it, and two rules that list alike agree: proved once, for whichever table. Assumes nothing.
use mathlib.Core.List.{List, [], ◌∷◌}
use mathlib.Core.Bool.{Bool, true, false}
use mathlib.Core.Path.{◌≡◌, refl, sym, ap, ◌∙◌}
use Prim.Native.Nat.{ℕ, zero, suc, ◌+◌, ◌<◌}
use native.Mathlib.Nat.{zero-add, add-zero, le_of_suc-le-suc, not-suc-le-zero}
use native.Mathlib.Omega.{arith}
use lib.Dec.{ltb, lit<}
use lib.ListN.{get_or}
use borrow.Author.Tests.{ltb-true}
use Rattle.letters.specs.Sets.{HoldsSets}

-- f at i, i + 1 and so on: n of them
abbrev pub listed : {A : Type 0} → (ℕ → A) → ℕ → ℕ → List A
listed f i zero = []
listed f i (suc n) = f i ∷ listed f (suc i) n

listed_from_lem : {A : Type 0} (d : A) (f : ℕ → A) (i n k : ℕ) → k < n → get_or (listed f i n) k d ≡ f (i + k)
listed_from_lem d f i zero k h = absurd (not-suc-le-zero h)
listed_from_lem d f i (suc n) zero h = rw add-zero
listed_from_lem d f i (suc n) (suc k) h = listed_from_lem d f (suc i) n k (le_of_suc-le-suc h) ∙ ap f (omega arith)

pub listed_at : {A : Type 0} (d : A) (f : ℕ → A) (n k : ℕ) → k < n → get_or (listed f 0 n) k d ≡ f k
listed_at d f n k h = listed_from_lem d f 0 n k h ∙ ap f (zero-add k)

-- two rules that antt computes alike for the first n numbers, and for all bytes
pub at_each : {A : Type 0} (n : ℕ) (d : A) (f g : ℕ → A) → listed f 0 n ≡ listed g 0 n → (k : ℕ) → k < n → f k ≡ g k
at_each n d f g e k h = sym (listed_at d f n k h) ∙ ap (λ (xs : List _). get_or xs k d) e ∙ listed_at d g n k h

pub at_byte : {A : Type 0} (d : A) (f g : ℕ → A) → listed f 0 256 ≡ listed g 0 256 → (b : ℕ) → b < 256 → f b ≡ g b
at_byte d f g = at_each 256 d f g

-- letter sets are below 16, which antt computes of a whole table
abbrev pub all_small : List ℕ → Bool
all_small [] = true
all_small (x ∷ xs) = elim (ltb x 16) [ true ↦ all_small xs | false ↦ false ]

small_case : (b rest : Bool) → elim b [ true ↦ rest | false ↦ false ] ≡ true → (b ≡ true) × (rest ≡ true)
small_case true rest e = (refl, e)
small_case false rest e = (e, cc)

small_at : (xs : List ℕ) (k : ℕ) → all_small xs ≡ true → get_or xs k 0 < 16
small_at [] k e = lit< tt
small_at (x ∷ xs) zero e = ltb-true x 16 (small_case (ltb x 16) (all_small xs) e).0
small_at (x ∷ xs) (suc k) e = small_at xs k (small_case (ltb x 16) (all_small xs) e).1

-- whichever reading of letters is listed
pub holds_sets : (read : ℕ → ℕ) → all_small (listed read 0 256) ≡ true → HoldsSets read (listed read 0 256)
holds_sets read e =
    record { entry = λ b h. listed_at 0 read 256 b h; small = λ b h. small_at (listed read 0 256) b e }
