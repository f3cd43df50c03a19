-- What the check of a reference answers and leaves.
use Rattle.std.specs.Prelude.{ℕ, zero, suc, ◌+◌, ◌≤◌, ◌<◌, max, ◌≡◌, List, [], Bool, true, ltb, length, take, drop}
use Rattle.rules.specs.declared.Form.{Form}
use Rattle.rules.specs.declared.Cds.{Cds}
use Rattle.rules.specs.declared.Exceptions.{Exceptions}
use Rattle.rules.specs.declared.Limits.{Limits}
use Rattle.rules.specs.Bytes.{byte, all, count, first_number, Result, unless}
use Rattle.rules.specs.Translation.{residue_count}
use Rattle.rules.specs.Reference.{Reference, cds_size, fit_exceptions, reference_protein, reference_tests}
use Rattle.rules.specs.Refusal.{reference_refusal}
use Rattle.rules.specs.Views.{bare, reference_of}
use Rattle.letters.specs.Sets.{is_base}
use Rattle.reference.specs.declared.Known.{Known}
use Rattle.reference.specs.Bounds.{Sound}

-- 1 to 5, for which no codon is read, and 0 where none applies
unfoldable pub early_refusal : ℕ → Reference → ℕ
early_refusal longest r = first_number (take 5 (reference_tests longest r))

-- 6, or 28 in its place, and 0 where neither applies
unfoldable pub end_refusal : Reference → ℕ
end_refusal r = first_number (drop 5 (reference_tests 0 r))

-- 1 to 5, else whether each letter is one base
unfoldable pub early_of : ℕ → List ℕ → Cds → Exceptions → Result Bool
early_of longest s c e = unless (early_refusal longest (reference_of s c e)) (all is_base s)

-- 1 to 5, 6 or 28, else the same
unfoldable pub judged_of : ℕ → List ℕ → Cds → Exceptions → Result Bool
judged_of longest s c e = unless (reference_refusal longest (reference_of s c e)) (all is_base s)

-- what the check writes: R, unless the reference is refused
unfoldable pub protein_unless : ℕ → Reference → List ℕ
protein_unless zero r = reference_protein r
protein_unless (suc n) r = []

-- what is known of a reference that isn't refused: the form of its letters, which are s, its CDS, how many residues R has, whether each letter is one base, and whether R has more
-- than one stop
unfoldable pub known_of : Form → List ℕ → Cds → Exceptions → Known
known_of f s c e =
    record {
      form = f;
      cds = c;
      residues = residue_count (cds_size (reference_of s c e));
      plain = all is_base s;
      several = ltb 1 (count (byte "*") (reference_protein (reference_of s c e)));
    }

-- 1 to 5, 6 or 28, else what is known from then on
unfoldable pub checked_of : ℕ → Form → List ℕ → Cds → Exceptions → Result Known
checked_of longest f s c e = unless (reference_refusal longest (reference_of s c e)) (known_of f s c e)

-- room for R of letters that 1 takes
abbrev pub HasRoom : ℕ → List ℕ → ℕ → Type 0
HasRoom longest s room = length s ≤ longest → residue_count (length s) ≤ room

-- what 1 to 5 leave
pub record Readable (s : List ℕ) (c : Cds) (e : Exceptions) : Type 0 where
  pub sound : Sound (reference_of s c e)
  pub exceptions : fit_exceptions (reference_of s c e) ≡ true

-- what is known of a checked reference, as far as an edit of it is decided by that
pub record Checks (s : List ℕ) (k : Known) : Type 0 where
  pub sound : Sound (bare s k.cds)
  pub residues : k.residues ≡ residue_count (cds_size (bare s k.cds))
  pub plain : k.plain ≡ all is_base s

-- a checked reference: its letters, its exceptions and R, lent beside what is known of it; the limits keep every altered length small
pub record Knows (m : Limits) (s : List ℕ) (k : Known) (e : Exceptions) (protein : List ℕ) : Type 0 where
  pub accepted : reference_refusal m.longest (reference_of s k.cds e) ≡ 0
  pub is : k ≡ known_of k.form s k.cds e
  pub read : protein ≡ reference_protein (reference_of s k.cds e)
  pub small : m.longest + max m.most m.longest < 4294967296
