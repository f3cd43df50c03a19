-- Laws of what the whole check answers and leaves.
-- Assumes nothing.
use mathlib.Core.Path.{◌≡◌, refl, sym, ap, ◌∙◌}
use mathlib.Core.List.{List}
use Prim.Native.Nat.{ℕ, zero, suc, ◌≤◌, ◌<◌}
use native.Mathlib.Omega.{arith}
use lib.ListN.{length, take}
use Rattle.rules.specs.declared.Form.{Form}
use Rattle.rules.specs.declared.Form.TheVariants.{Bytes}
use Rattle.rules.specs.declared.Cds.{Cds}
use Rattle.rules.specs.declared.Exceptions.{Exceptions}
use Rattle.rules.specs.declared.Limits.{Limits}
use Rattle.rules.specs.Bytes.{given, refused, unless, over}
use Rattle.rules.specs.Reference.{size, cds_size, reference_protein}
use Rattle.rules.specs.Refusal.{reference_refusal}
use Rattle.rules.specs.Views.{bare, reference_of}
use Rattle.rules.proofs.Over.{fits_over, read_back}
use Rattle.rules.proofs.Reference.{accepted, protein_read}
use Rattle.rules.proofs.Altered.{longest_altered}
use Rattle.reference.specs.declared.Known.{Known}
use Rattle.reference.specs.Bounds.{Bounded, Sound}
use Rattle.reference.proofs.Judging.{was-refused, was-given, refused_some}
use Rattle.reference.specs.Known.{protein_unless, known_of, checked_of, Checks, Knows}

-- what the check answers and writes, by its refusal
module _ (longest : ℕ) (f : Form) (s : List ℕ) (c : Cds) (e : Exceptions) where
  module _ (n : ℕ) (is : reference_refusal longest (reference_of s c e) ≡ n) (some : n ≡ 0 → ⊥) where
    pub check-refused : refused n ≡ checked_of longest f s c e
    unfolding checked_of
    check-refused = rw is (refused_some n (known_of f s c e) some)

    pub nothing_read : (old : List ℕ) → old ≡ over (protein_unless (reference_refusal longest (reference_of s c e)) (reference_of s c e)) old
    unfolding protein_unless over
    nothing_read old = rw is (by n some)
      where
        by : (n : ℕ) → (n ≡ 0 → ⊥) → old ≡ over (protein_unless n (reference_of s c e)) old
        by zero h = absurd (h refl)
        by (suc n) h = refl

  module _ (none : reference_refusal longest (reference_of s c e) ≡ 0) where
    pub check-known : (k : Known) → k ≡ known_of f s c e → given k ≡ checked_of longest f s c e
    unfolding checked_of unless
    check-known k h = rw (none, h)

    pub all_read : (old : List ℕ) → over (reference_protein (reference_of s c e)) old ≡ over (protein_unless (reference_refusal longest (reference_of s c e)) (reference_of s c e)) old
    unfolding protein_unless
    all_read old = rw none

-- what the whole check answers
module _ (longest : ℕ) (f : Form) (s : List ℕ) (c : Cds) (e : Exceptions) where
  pub checked_refused : (n : ℕ) → refused n ≡ checked_of longest f s c e → (reference_refusal longest (reference_of s c e) ≡ n) × (n ≡ 0 → ⊥)
  unfolding checked_of
  checked_refused n h = was-refused (reference_refusal longest (reference_of s c e)) n (known_of f s c e) h

  pub checked-accepted : (k : Known) → given k ≡ checked_of longest f s c e → (reference_refusal longest (reference_of s c e) ≡ 0) × (k ≡ known_of f s c e)
  unfolding checked_of
  checked-accepted k h = was-given (reference_refusal longest (reference_of s c e)) (known_of f s c e) k h

-- R is in the buffer where the check accepts
pub protein_held : (longest : ℕ) (s : List ℕ) (c : Cds) (e : Exceptions) (old out : List ℕ) → reference_refusal longest (reference_of s c e) ≡ 0
    → out ≡ over (protein_unless (reference_refusal longest (reference_of s c e)) (reference_of s c e)) old → out ≡ over (reference_protein (reference_of s c e)) old
protein_held longest s c e old out none held = held ∙ sym (all_read longest Bytes s c e none old)

-- what is known of a reference that the check accepts
module _ (m : Limits) (f : Form) (s : List ℕ) (c : Cds) (e : Exceptions) (k : Known) (none : reference_refusal m.longest (reference_of s c e) ≡ 0) (is : k ≡ known_of f s c e) where
  pub form-known : k.form ≡ f
  unfolding known_of
  form-known = ap (λ (k : Known). k.form) is

  pub cds-known : k.cds ≡ c
  unfolding known_of
  cds-known = ap (λ (k : Known). k.cds) is

  residues-known : k.residues ≡ length (reference_protein (reference_of s c e))
  unfolding known_of
  residues-known = ap (λ (k : Known). k.residues) is ∙ sym (protein_read m.longest (reference_of s c e) none).counted

  module _ (old out : List ℕ) (held : out ≡ over (reference_protein (reference_of s c e)) old) where
    pub residues-within : k.residues ≤ length out
    residues-within = fits_over (reference_protein (reference_of s c e)) old out k.residues residues-known held

    pub knows : longest_altered m < 4294967296 → Knows m s k e (take k.residues out)
    knows small =
        let read = read_back (reference_protein (reference_of s c e)) old out k.residues residues-known held in
        record {
          accepted = rw cds-known none;
          is = is ∙ ap (λ (c : Cds). known_of f s c e) (sym cds-known) ∙ ap (λ (f : Form). known_of f s k.cds e) (sym form-known);
          read = rw cds-known read;
          small = small;
        }

-- what a checked reference leaves
module _ (m : Limits) (s : List ℕ) (k : Known) (e : Exceptions) (protein : List ℕ) (known : Knows m s k e protein) where
  pub sound : Sound (bare s k.cds)
  unfolding size cds_size
  sound =
      let x = accepted m.longest (reference_of s k.cds e) known.accepted in
      record {
        bounds =
            record {
              first = x.bounds.first;
              rising = x.bounds.rising;
              inside = x.bounds.inside;
              ends = x.bounds.ends;
              long = x.bounds.long;
            };
        short = omega (arith, x.fits, known.small);
        table = omega (arith, x.table);
        letters = x.letters;
      }

  pub checks : Checks s k
  unfolding known_of cds_size
  checks =
      let r = reference_of s k.cds e in
      let read = protein_read m.longest r known.accepted in
      record {
        sound = sound;
        residues = ap (λ (k : Known). k.residues) known.is;
        plain = ap (λ (k : Known). k.plain) known.is;
      }

  pub residues-is : k.residues ≡ length (reference_protein (reference_of s k.cds e))
  unfolding known_of
  residues-is = ap (λ (k : Known). k.residues) known.is ∙ sym (protein_read m.longest (reference_of s k.cds e) known.accepted).counted

pub bounded : (s : List ℕ) (c : Cds) → Sound (bare s c) → Bounded c
unfolding size
bounded s c x =
    record {
      first = x.bounds.first;
      ordered = x.bounds.rising;
      small = omega (arith, x.short, x.bounds.inside);
    }
