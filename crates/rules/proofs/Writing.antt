-- What a call that writes a reference answers: the reader's own refusals, then 24, else the form, which reads back as the reference.
-- Assumes nothing.
use Rattle.std.specs.Prelude.{if◌then◌else◌}
use mathlib.Core.Path.{◌≡◌, refl, sym, ap, ◌∙◌}
use mathlib.Core.Bool.{Bool, true, false, ◌&&◌}
use mathlib.Core.List.{List, [], ◌∷◌, ◌++◌, map}
use Prim.Native.Nat.{ℕ, zero, suc, ◌≤◌, ◌<◌}
use native.Mathlib.Omega.{arith}
use lib.Dec.{ltb}
use lib.ListN.{length}
use borrow.Author.Tests.{lt-ltb, le-ltb}
use Rattle.rules.specs.Bytes.{bytes, all, ◌↯◌, first_number, Result, given, refused, unless}
use Rattle.rules.specs.Reference.{Reference, size, reference_tests}
use Rattle.rules.specs.Refusal.{limits, reference_refusal}
use Rattle.rules.specs.Stored.{fields, reference_form, assembled_in, checked, stored_reference, is_joined, fitted, read_reference}
use Rattle.rules.specs.Storing.{stored_form, write_tests, written_reference}
use Rattle.rules.specs.Run.{refused_line}
use Rattle.rules.specs.Opened.{opened}
use Rattle.rules.proofs.Tests.{are_numbered, first_behind, first_before}
use Rattle.rules.proofs.Doubtful.{of, worked, shortest, exc, shown}
use Rattle.rules.proofs.Requested.{ending}
use Rattle.rules.proofs.Storing.{read_back}

numbered : (longest : ℕ) (r : Reference) → are_numbered (reference_tests longest r) ≡ true
unfolding reference_tests all
numbered longest r = refl

module _ (longest : ℕ) (r : Reference) (room : ℕ) where
  -- 1 to 5, 6 or 28
  pub refuses : (n : ℕ) → reference_refusal longest r ≡ suc n → written_reference longest r room ≡ refused (suc n)
  unfolding reference_refusal written_reference write_tests unless
  refuses n h = rw (first_before (reference_tests longest r) (ltb room (length (stored_form r)) ↯ 24 ∷ []) n h)

  -- 24
  pub too_short : reference_refusal longest r ≡ 0 → room < length (stored_form r) → written_reference longest r room ≡ refused 24
  unfolding reference_refusal written_reference write_tests unless first_number
  too_short h k = rw (first_behind (reference_tests longest r) (ltb room (length (stored_form r)) ↯ 24 ∷ []) (numbered longest r) h, lt-ltb room (length (stored_form r)) k)

  -- the form
  pub writes : reference_refusal longest r ≡ 0 → length (stored_form r) ≤ room → written_reference longest r room ≡ given (stored_form r)
  unfolding reference_refusal written_reference write_tests unless first_number
  writes h k = rw (first_behind (reference_tests longest r) (ltb room (length (stored_form r)) ↯ 24 ∷ []) (numbered longest r) h, le-ltb room (length (stored_form r)) k)

-- the writer refuses what the reader would, with the same number, whatever the room; and takes what the reader takes, given room
module _ (longest : ℕ) (s : List ℕ) (r : Reference) (is : assembled_in (fields reference_form s) ≡ given r) (room : ℕ) where
  by-reader : stored_reference longest s ≡ unless (reference_refusal longest r) r
  unfolding stored_reference checked
  by-reader = ap (checked longest) is

  pub refuses-as-reader : (n : ℕ) → stored_reference longest s ≡ refused n → written_reference longest r room ≡ refused n
  unfolding unless
  refuses-as-reader n h = by (reference_refusal longest r) refl (sym by-reader ∙ h)
    where
      by : (m : ℕ) → reference_refusal longest r ≡ m → unless m r ≡ refused n → written_reference longest r room ≡ refused n
      by zero e k = let z : ◌≡◌ {A = ℕ} 0 1 = cc in absurd (omega arith)
      by (suc m) e k = let same : refused (suc m) ≡ refused n = number k in refuses longest r room m e ∙ same
        where
          number : unless (suc m) r ≡ refused n → ◌≡◌ {A = Result (List ℕ)} (refused (suc m)) (refused n)
          number k = let z : suc m ≡ n = cc in ap refused z

  pub takes-as-reader : stored_reference longest s ≡ given r → length (stored_form r) ≤ room → written_reference longest r room ≡ given (stored_form r)
  unfolding unless
  takes-as-reader h k = by (reference_refusal longest r) refl (sym by-reader ∙ h)
    where
      by : (m : ℕ) → reference_refusal longest r ≡ m → unless m r ≡ given r → written_reference longest r room ≡ given (stored_form r)
      by zero e q = writes longest r room e k
      by (suc m) e q = let z : ◌≡◌ {A = ℕ} 0 1 = cc in absurd (omega arith)

-- read back into a buffer with room for the letters, the written form is the same reference
pub read_within_lem : (longest : ℕ) → longest ≤ 131072 → (r : Reference) → reference_refusal longest r ≡ 0 → (room : ℕ) → size r ≤ room → read_reference longest room (stored_form r) ≡ given r
unfolding read_reference fitted
read_within_lem longest limit r h room k = rw (read_back longest limit r h, le-ltb room (size r) k) (by (is_joined (fields reference_form (stored_form r))))
  where
    by : (b : Bool) → (if b && false then refused 29 else given r) ≡ given r
    by true = refl
    by false = refl

-- what is computed, and what it must be
pub record Written : Type 0 where
  pub computed : List ℕ
  pub bytes : List ℕ

infix 80 ◌⇛◌
abbrev ◌⇛◌ : List ℕ → List ℕ → Written
s ⇛ t = record { computed = s; bytes = t }

-- the form that is written to a buffer, or a refusal's line
abbrev written : Reference → ℕ → List ℕ
written r room = shown (written_reference limits.longest r room)

-- bytes read and written
abbrev rewritten : Result Reference → List ℕ
rewritten (given r) = written r 40
rewritten (refused n) = refused_line n

abbrev short_form : List ℕ
short_form = (1 ∷ 0 ∷ 6 ∷ bytes "ATGTAA") ++ (2 ∷ 0 ∷ 4 ∷ 0 ∷ 1 ∷ 0 ∷ 6 ∷ 3 ∷ 0 ∷ 1 ∷ 0 ∷ [])

-- E1: write the stored reference
abbrev pub forms : List Written
forms =
    written shortest 20 ⇛ short_form
    -- no exceptions: tag 4 isn't written, whether it was absent or empty
    ∷ rewritten (stored_reference limits.longest (short_form ++ (4 ∷ 0 ∷ 0 ∷ []))) ⇛ short_form
    ∷ rewritten (stored_reference limits.longest (short_form ++ (4 ∷ 0 ∷ 3 ∷ 0 ∷ 1 ∷ 75 ∷ []))) ⇛ (short_form ++ (4 ∷ 0 ∷ 3 ∷ 0 ∷ 1 ∷ 75 ∷ []))
    -- 1 to 5, 6 or 28 by the numbers given, also where they have no stored form at all
    ∷ written (of 65537 6 0 "ATGTAA" []) 40 ⇛ refused_line 3
    ∷ written (of 1 6 256 "ATGTAA" []) 40 ⇛ refused_line 4
    ∷ written (of 1 6 0 "ATGTAA" (exc 65538 "K" ∷ [])) 40 ⇛ refused_line 5
    ∷ written (ending 257 "ATGGCC" []) 40 ⇛ refused_line 28
    -- several stops are no fault
    ∷ written (of 1 9 0 "ATGTAATAA" []) 40 ⇛ ((1 ∷ 0 ∷ 9 ∷ bytes "ATGTAATAA") ++ (2 ∷ 0 ∷ 4 ∷ 0 ∷ 1 ∷ 0 ∷ 9 ∷ 3 ∷ 0 ∷ 1 ∷ 0 ∷ []))
    -- 24 behind them, by the length of the whole form
    ∷ written (of 1 6 0 "ATGAAA" []) 0 ⇛ refused_line 6
    ∷ written shortest 0 ⇛ refused_line 24
    ∷ written shortest 19 ⇛ refused_line 24
    ∷ written worked 36 ⇛ refused_line 24
    ∷ written worked 37 ⇛ ((1 ∷ 0 ∷ 23 ∷ bytes "GGATGGCCAAATGGTAACCTGAC") ++ (2 ∷ 0 ∷ 4 ∷ 0 ∷ 3 ∷ 0 ∷ 17 ∷ 3 ∷ 0 ∷ 1 ∷ 0 ∷ []))
    -- tag 8 for ends 1 and 2 alone, last
    ∷ written (ending 1 "ATGGCC" []) 40 ⇛ ((1 ∷ 0 ∷ 6 ∷ bytes "ATGGCC") ++ (2 ∷ 0 ∷ 4 ∷ 0 ∷ 1 ∷ 0 ∷ 6 ∷ 3 ∷ 0 ∷ 1 ∷ 0 ∷ 8 ∷ 0 ∷ 1 ∷ 1 ∷ []))
    ∷ []

pub all-written : map (λ (w : Written). w.computed) forms ≡ map (λ (w : Written). w.bytes) forms
unfolding opened
all-written = refl
