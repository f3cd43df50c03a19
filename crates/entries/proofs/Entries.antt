-- A codon's letters as one number, and the three cases of its residue.
-- Assumes nothing.
use mathlib.Core.Path.{◌≡◌, refl, sym, ap, ◌∙◌}
use mathlib.Core.List.{List, []}
use Prim.Native.Nat.{ℕ, ◌+◌, ◌-◌, ◌*◌, ◌/◌, ◌%◌, ◌<◌, ◌≤◌}
use native.Mathlib.Omega.{arith}
use lib.ListN.{length, get_or, take, drop, length-take, get_or-eq_default}
use lib.Seq.{get_or-take, get_or-drop}
use borrow.Author.Tests.{eq-eqb, ne_eqb}
use Rattle.rules.specs.declared.Cds.{Cds}
use Rattle.rules.specs.declared.Exception.{Exception}
use Rattle.rules.specs.declared.Exceptions.{Exceptions}
use Rattle.rules.specs.declared.Form.TheVariants.{Packed}
use Rattle.rules.specs.Letters.{letter_set}
use Rattle.rules.specs.Codons.{residue_x}
use Rattle.rules.specs.Translation.{exception_list, excepted}
use Rattle.rules.specs.Reference.{cds_size, cds}
use Rattle.rules.specs.Packed.{set_at, unpacked}
use Rattle.rules.specs.Views.{bare}
use Rattle.halves.proofs.Halves.{high_at, low_at}
use Rattle.packed.proofs.Readings.{packed-fits, packed-set}
use Rattle.entries.specs.Entries.{base_at, entry_of, residue_by, Inside}

pub none_set : letter_set 0 ≡ 0
unfolding letter_set
none_set = refl

-- a base of the CDS, and none behind it
module _ (s : List ℕ) (c : Cds) (inside : Inside s c) (k : ℕ) where
  pub base_there : k < c.ce - (c.cs - 1) → letter_set (get_or s (c.cs - 1 + k) 0) ≡ base_at (bare s c) k
  unfolding base_at cds cds_size
  base_there h =
      sym (ap letter_set (get_or-take (c.ce + 1 - c.cs) (drop (c.cs - 1) s) k 0 (omega (arith, inside.first, inside.rising)) ∙ get_or-drop (c.cs - 1) s k 0))

  pub base-behind : c.ce - (c.cs - 1) ≤ k → 0 ≡ base_at (bare s c) k
  unfolding base_at cds cds_size
  base-behind h =
      let n = c.ce + 1 - c.cs in
      sym (ap letter_set (get_or-eq_default (take n (drop (c.cs - 1) s)) 0 {n = k} (rw length-take (omega (arith, inside.first, inside.rising)))) ∙ none_set)

-- three halves as one number, from a high one on and from a low one on
module _ (bs : List ℕ) (bytes : (k : ℕ) → get_or bs k 0 < 256) (place : ℕ) where
  pub even-halves : place % 2 ≡ 0 → (get_or bs (place / 2) 0 * 256 + get_or bs (place / 2 + 1) 0) / 16 ≡ set_at bs place * 256 + set_at bs (place + 1) * 16 + set_at bs (place + 2)
  even-halves h =
      let j : ℕ = place / 2 in
      let first : j * 2 ≡ place = omega arith in
      let second : j * 2 + 1 ≡ place + 1 = omega arith in
      let third : (j + 1) * 2 ≡ place + 2 = omega arith in
      let x = ap (set_at bs) (sym first) ∙ high_at bs j in
      let y = ap (set_at bs) (sym second) ∙ low_at bs j in
      let z = ap (set_at bs) (sym third) ∙ high_at bs (j + 1) in
      rw (x, y, z) (omega (arith, bytes j, bytes (j + 1)))

  pub odd-halves : (place % 2 ≡ 0 → ⊥) → (get_or bs (place / 2) 0 * 256 + get_or bs (place / 2 + 1) 0) % 4096 ≡ set_at bs place * 256 + set_at bs (place + 1) * 16 + set_at bs (place + 2)
  odd-halves h =
      let j : ℕ = place / 2 in
      let first : j * 2 + 1 ≡ place = omega arith in
      let second : (j + 1) * 2 ≡ place + 1 = omega arith in
      let third : (j + 1) * 2 + 1 ≡ place + 2 = omega arith in
      let x = ap (set_at bs) (sym first) ∙ low_at bs j in
      let y = ap (set_at bs) (sym second) ∙ high_at bs (j + 1) in
      let z = ap (set_at bs) (sym third) ∙ low_at bs (j + 1) in
      rw (x, y, z) (omega (arith, bytes j, bytes (j + 1)))

-- the same of packed letters: a whole codon by its halves, one that is cut by the sets of its letters, and one that isn't there
module _ (size : ℕ) (bs : List ℕ) (c : Cds) (inside : Inside (unpacked size bs) c) (n : ℕ) where
  pub halves-fit : (n - 1) * 3 + 2 < c.ce - (c.cs - 1) → c.cs - 1 + (n - 1) * 3 + 3 ≤ length bs * 2
  halves-fit h = packed-fits (Packed size) size bs refl (c.cs - 1 + (n - 1) * 3 + 3) (omega (arith, inside.ends))

  half_is : (k : ℕ) → k < c.ce - (c.cs - 1) → set_at bs (c.cs - 1 + k) ≡ base_at (bare (unpacked size bs) c) k
  half_is k h =
      packed-set (Packed size) size bs refl c.ce inside.ends inside.letters (c.cs - 1 + k) (omega (arith, inside.first, inside.rising))
      ∙ base_there (unpacked size bs) c inside k h

  pub whole-entry : (n - 1) * 3 + 2 < c.ce - (c.cs - 1)
      → set_at bs (c.cs - 1 + (n - 1) * 3) * 256 + set_at bs (c.cs - 1 + (n - 1) * 3 + 1) * 16 + set_at bs (c.cs - 1 + (n - 1) * 3 + 2) ≡ entry_of (bare (unpacked size bs) c) n
  unfolding entry_of
  whole-entry h =
      let k : ℕ = (n - 1) * 3 in
      let second : c.cs - 1 + k + 1 ≡ c.cs - 1 + (k + 1) = omega arith in
      let third : c.cs - 1 + k + 2 ≡ c.cs - 1 + (k + 2) = omega arith in
      rw (second, third, half_is k (omega arith), half_is (k + 1) (omega arith), half_is (k + 2) h)

  pub no-entry : c.ce - (c.cs - 1) ≤ (n - 1) * 3 → 0 ≡ entry_of (bare (unpacked size bs) c) n
  unfolding entry_of
  no-entry h =
      let behind : (k : ℕ) → c.ce - (c.cs - 1) ≤ k → 0 ≡ base_at (bare (unpacked size bs) c) k = base-behind (unpacked size bs) c inside in
      omega (arith, behind ((n - 1) * 3) h, behind ((n - 1) * 3 + 1) (omega arith), behind ((n - 1) * 3 + 2) (omega arith))

  pub cut-entry : (n - 1) * 3 < c.ce - (c.cs - 1) → c.ce - (c.cs - 1) ≤ (n - 1) * 3 + 1
      → letter_set (get_or (unpacked size bs) (c.cs - 1 + (n - 1) * 3) 0) * 256 ≡ entry_of (bare (unpacked size bs) c) n
  unfolding entry_of
  cut-entry h k =
      let behind : (k : ℕ) → c.ce - (c.cs - 1) ≤ k → 0 ≡ base_at (bare (unpacked size bs) c) k = base-behind (unpacked size bs) c inside in
      omega (arith, base_there (unpacked size bs) c inside ((n - 1) * 3) h, behind ((n - 1) * 3 + 1) k, behind ((n - 1) * 3 + 2) (omega arith))

  pub cut-entry-of-two : (n - 1) * 3 + 1 < c.ce - (c.cs - 1) → c.ce - (c.cs - 1) ≤ (n - 1) * 3 + 2
      → letter_set (get_or (unpacked size bs) (c.cs - 1 + (n - 1) * 3) 0) * 256 + letter_set (get_or (unpacked size bs) (c.cs - 1 + (n - 1) * 3 + 1) 0) * 16 ≡ entry_of (bare (unpacked size bs) c) n
  unfolding entry_of
  cut-entry-of-two h k =
      let next : c.cs - 1 + (n - 1) * 3 + 1 ≡ c.cs - 1 + ((n - 1) * 3 + 1) = omega arith in
      let there : (k : ℕ) → k < c.ce - (c.cs - 1) → letter_set (get_or (unpacked size bs) (c.cs - 1 + k) 0) ≡ base_at (bare (unpacked size bs) c) k = base_there (unpacked size bs) c inside in
      rw next (omega (arith, there ((n - 1) * 3) (omega arith), there ((n - 1) * 3 + 1) h, base-behind (unpacked size bs) c inside ((n - 1) * 3 + 2) k))

-- the three cases of a residue by its codon's number
module _ (residues : List ℕ) (es : List Exception) (entry n : ℕ) where
  pub by-none : entry ≡ 0 → residue_by residues es entry n ≡ 0
  unfolding residue_by
  by-none e = rw (eq-eqb entry 0 e)

  pub by-cut : (entry ≡ 0 → ⊥) → entry % 16 ≡ 0 → residue_by residues es entry n ≡ residue_x
  unfolding residue_by
  by-cut some e = rw (ne_eqb entry 0 some, eq-eqb (entry % 16) 0 e)

  pub by_whole : (entry ≡ 0 → ⊥) → (entry % 16 ≡ 0 → ⊥) → residue_by residues es entry n ≡ excepted es n (get_or residues entry 0)
  unfolding residue_by
  by_whole some e = rw (ne_eqb entry 0 some, ne_eqb (entry % 16) 0 e)

pub no_exceptions_lem : (e : Exceptions) → e.count ≡ 0 → exception_list e ≡ []
unfolding exception_list
no_exceptions_lem e h = rw h

pub by_plain : (e : Exceptions) (n r : ℕ) → e.count ≡ 0 → excepted (exception_list e) n r ≡ r
unfolding excepted
by_plain e n r h = rw (no_exceptions_lem e h)
