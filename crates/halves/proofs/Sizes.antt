-- Laws of the number of letters, by their form. Assumes nothing.
use Rattle.std.proofs.Common.{◌≡◌, ℕ, List, length, sym, ap, ◌∙◌, eq-eqb, ne_eqb}
use Rattle.rules.specs.declared.Form.{Form}
use Rattle.rules.specs.declared.Form.TheVariants.{Bytes, Packed}
use Rattle.rules.specs.Packed.{half_up, unpacked, letters_by}
use Rattle.rules.proofs.Packed.{uncounted, length-unpacked}

pub bytes-is : (f : Form) (s : List ℕ) → f ≡ Bytes → letters_by f s ≡ s
bytes-is f s e = rw e

module _ (f : Form) (n : ℕ) (s : List ℕ) (e : f ≡ Packed n) where
  pub packed-is : letters_by f s ≡ unpacked n s
  packed-is = rw e

  pub counted-size : length s ≡ half_up n → n ≡ length (letters_by f s)
  counted-size h = sym (ap length packed-is ∙ length-unpacked n s (eq-eqb (length s) (half_up n) h))

  pub no_size : (length s ≡ half_up n → ⊥) → 0 ≡ length (letters_by f s)
  no_size h = sym (ap length packed-is ∙ ap length (uncounted n s (ne_eqb (length s) (half_up n) h)))
