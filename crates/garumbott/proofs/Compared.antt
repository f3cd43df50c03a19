-- Two editions compared, as calls take their exceptions: what isn't held is refused with 5, or with 105.
-- Assumes nothing.
use mathlib.Core.Path.{◌≡◌, refl, sym, ◌∙◌}
use mathlib.Core.Bool.{true, ◌&&◌}
use mathlib.Core.List.{List}
use Prim.Native.Nat.{ℕ, zero, suc}
use native.Mathlib.Omega.{arith}
use lib.Dec.{leb}
use lib.ListN.{length}
use borrow.Author.Tests.{le-leb}
use Rattle.rules.specs.declared.Form.{Form}
use Rattle.rules.specs.declared.Cds.{Cds}
use Rattle.rules.specs.declared.Exception.{Exception}
use Rattle.rules.specs.declared.Exceptions.{Exceptions}
use Rattle.rules.specs.Bytes.{first_number}
use Rattle.rules.specs.Translation.{exception_list}
use Rattle.rules.specs.Reference.{Reference, size, cds_size, are_bounds, codons, are_rising, fit_exceptions, is_cut_short, reference_tests}
use Rattle.rules.specs.Refusal.{reference_refusal}
use Rattle.rules.specs.Packed.{letters_by, form_at}
use Rattle.rules.specs.Editions.{compared}
use Rattle.rules.specs.Views.{cds_of, reference_of}
use Rattle.rules.proofs.Tests.{and_both}
use Rattle.rules.proofs.Reference.{accepted}
use Rattle.stored_fields.specs.Held.{exceptions_of}
use Rattle.editions.proofs.Comparing.{first-refused, second-refused}
use Rattle.garumbott.specs.Host.{exceptions_at, host_reference}
use Rattle.garumbott.proofs.Excepted.{Unfit, as-given}

module _ (longest : ℕ) (s : List ℕ) (c : Cds) where
  abbrev with : List Exception → Reference
  with es = record { letters = s; cs = c.cs; ce = c.ce; table = c.table; exceptions = es; end = c.end }

  refused-alike : (es fs : List Exception) → Unfit es → Unfit fs → reference_refusal longest (with es) ≡ reference_refusal longest (with fs)
  unfolding reference_refusal reference_tests first_number fit_exceptions size are_bounds cds_size is_cut_short
  refused-alike es fs u v = rw (u.rising (codons (with es)), v.rising (codons (with fs)))

  refused-some : (es : List Exception) → Unfit es → reference_refusal longest (with es) ≡ 0 → ⊥
  refused-some es u h =
      let a = accepted longest (with es) h in
      let both : (leb (length es) 16 && are_rising 0 (codons (with es)) es) ≡ true = and_both _ _ (le-leb (length es) 16 a.few) a.exceptions in
      let z : ◌≡◌ {A = ℕ} 0 1 = cc (u.rising (codons (with es))) in
      omega arith

  pub first-given : (t : Reference) (room : ℕ) (x : List ℕ) → compared longest (with (exception_list (exceptions_of x))) t room ≡ compared longest (with (exceptions_at x)) t room
  first-given t room x = as-given (λ es. compared longest (with es) t room) alike x
    where
      alike : (es fs : List Exception) → Unfit es → Unfit fs → compared longest (with es) t room ≡ compared longest (with fs) t room
      alike es fs u v =
          first-refused longest (with es) t room _ (refused-alike es fs u v) (refused-some fs v) ∙ sym (first-refused longest (with fs) t room _ refl (refused-some fs v))

  pub second-given : (r : Reference) (room : ℕ) (x : List ℕ) → compared longest r (with (exception_list (exceptions_of x))) room ≡ compared longest r (with (exceptions_at x)) room
  second-given r room x = as-given (λ es. compared longest r (with es) room) alike x
    where
      by : (es fs : List Exception) → Unfit es → Unfit fs → (n : ℕ) → reference_refusal longest r ≡ n → compared longest r (with es) room ≡ compared longest r (with fs) room
      by es fs u v zero h =
          second-refused longest r (with es) room _ h (refused-alike es fs u v) (refused-some fs v) ∙ sym (second-refused longest r (with fs) room _ h refl (refused-some fs v))
      by es fs u v (suc n) h = first-refused longest r (with es) room (suc n) h (λ z. omega arith) ∙ sym (first-refused longest r (with fs) room (suc n) h (λ z. omega arith))

      alike : (es fs : List Exception) → Unfit es → Unfit fs → compared longest r (with es) room ≡ compared longest r (with fs) room
      alike es fs u v = by es fs u v (reference_refusal longest r) refl

-- what is compared of a host's numbers, c, d, e, f, g and h being what they were made
pub both_given : (longest : ℕ) (s u : List ℕ) (c d : Cds) (e f : Exceptions) (g h : Form) (cs ce table end form size cs' ce' table' end' form' size' : ℕ) (x y : List ℕ) (room : ℕ)
    → c ≡ cds_of cs ce table end → e ≡ exceptions_of x → g ≡ form_at form size → d ≡ cds_of cs' ce' table' end' → f ≡ exceptions_of y → h ≡ form_at form' size'
    → compared longest (reference_of (letters_by g s) c e) (reference_of (letters_by h u) d f) room ≡ compared longest (host_reference s cs ce table x end form size) (host_reference u cs' ce' table' y end' form' size') room
both_given longest s u c d e f g h cs ce table end form size cs' ce' table' end' form' size' x y room p q k p' q' k' =
    rw (p, q, k, p', q', k')
    (first-given longest (letters_by (form_at form size) s) (cds_of cs ce table end) (reference_of (letters_by (form_at form' size') u) (cds_of cs' ce' table' end') (exceptions_of y)) room x
    ∙ second-given longest (letters_by (form_at form' size') u) (cds_of cs' ce' table' end') (host_reference s cs ce table x end form size) room y)
