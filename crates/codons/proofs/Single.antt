-- What a table holds fixes each of its entries, so the promise of each function that loads one admits a single answer.
-- Assumes nothing.
use mathlib.Core.Path.{◌≡◌, sym, ap, ◌∙◌}
use mathlib.Core.List.{List}
use Prim.Native.Nat.{ℕ, ◌+◌, ◌*◌, ◌/◌, ◌%◌}
use native.Mathlib.Omega.{arith}
use lib.ListN.{length, get_or}
use lib.Seq.{ext_get_or}
use Rattle.codons.specs.Tables.{HoldsCode, HoldsPlain}

pub code_once : (t : ℕ) (xs ys : List ℕ) → length xs ≡ 4096 → length ys ≡ 4096 → HoldsCode t xs → HoldsCode t ys → xs ≡ ys
code_once t xs ys n m h k =
    ext_get_or 0 xs ys (n ∙ sym m)
    (λ i l.
    let place : i / 256 * 256 + i / 16 % 16 * 16 + i % 16 ≡ i = omega arith in
    ap (λ (j : ℕ). get_or xs j 0) (sym place)
    ∙ h.entry (i / 256) (i / 16 % 16) (i % 16) (omega arith) (omega arith) (omega arith)
    ∙ sym (k.entry (i / 256) (i / 16 % 16) (i % 16) (omega arith) (omega arith) (omega arith))
    ∙ ap (λ (j : ℕ). get_or ys j 0) place)

pub plain_once : (t : ℕ) (xs ys : List ℕ) → length xs ≡ 64 → length ys ≡ 64 → HoldsPlain t xs → HoldsPlain t ys → xs ≡ ys
plain_once t xs ys n m h k =
    ext_get_or 0 xs ys (n ∙ sym m)
    (λ i l.
    let place : i / 16 * 16 + i / 4 % 4 * 4 + i % 4 ≡ i = omega arith in
    ap (λ (j : ℕ). get_or xs j 0) (sym place)
    ∙ h.entry (i / 16) (i / 4 % 4) (i % 4) (omega arith) (omega arith) (omega arith)
    ∙ sym (k.entry (i / 16) (i / 4 % 4) (i % 4) (omega arith) (omega arith) (omega arith))
    ∙ ap (λ (j : ℕ). get_or ys j 0) place)
