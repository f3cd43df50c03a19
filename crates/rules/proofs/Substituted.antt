-- A substitution of a reference without exceptions looks up one codon at most, unless the reference's final stop changes.
-- Assumes nothing.
use Rattle.std.specs.Prelude.{if◌then◌else◌}
use mathlib.Core.Path.{◌≡◌, refl, sym, ap, ◌∙◌}
use mathlib.Core.Bool.{Bool, true, false, ◌&&◌, not}
use mathlib.Core.List.{List, []}
use Prim.Native.Nat.{ℕ, zero, suc, ◌+◌, ◌-◌, ◌*◌, ◌/◌, ◌≤◌, ◌<◌, min, zero-le}
use native.Mathlib.Decide.{dec_le, dec_lt}
use native.Mathlib.Omega.{arith}
use lib.Dec.{eqb, leb}
use lib.ListN.{length, get_or}
use borrow.Author.Tests.{eqb-true, leb-true}
use Rattle.rules.specs.declared.Kind.{Kind}
use Rattle.rules.specs.declared.Kind.TheVariants.{Substitution, Deletion, Delins, Insertion, Duplication, Inversion, Identity, Other}
use Rattle.rules.specs.Bytes.{byte, all}
use Rattle.rules.specs.Letters.{is_letter}
use Rattle.rules.specs.Translation.{translated}
use Rattle.rules.specs.Reference.{Reference, at_stop, cds_size, codons}
use Rattle.rules.specs.Edit.{Asked, is, kind_of, start_index, end_index, are_new_bases, fit_bases}
use Rattle.rules.specs.Altered.{swap_by, swap, kept, cut_swap}
use Rattle.rules.specs.Protein.{altered_protein}
use Rattle.rules.specs.Reuse.{is_reused, altered_coding, codons_through_stop, count_to, looked_up}
use Rattle.rules.specs.declared.Limits.{Limits}
use Rattle.rules.specs.Refusal.{refusal}
use Rattle.rules.proofs.Tests.{and_left, and_right}
use Rattle.rules.proofs.Translation.{length_through}
use Rattle.rules.proofs.Plain.{before_at}
use Rattle.rules.proofs.Refusing.{none-refused, reference-accepted, edit-allowed}
use Rattle.rules.proofs.Span.{indexes}
use Rattle.rules.proofs.Kept.{read_plain, cut_ends, length-coding}
use Rattle.rules.proofs.Looked.{looks, none_below, reused-before, reused-behind}

-- where only the number m may pass, at most one does
at_most_one : (p : ℕ → Bool) (m n : ℕ) → ((k : ℕ) → k < n → (k ≡ m → ⊥) → p k ≡ false) → count_to p n ≤ 1
unfolding count_to
at_most_one p m zero h = zero-le
at_most_one p m (suc n) h = by (dec_lt m n) (at_most_one p m n (λ k l q. h k (omega arith) q))
  where
    by : Dec (m < n) → count_to p n ≤ 1 → (if p n then suc (count_to p n) else count_to p n) ≤ 1
    by (yes l) few = rw (h n (omega arith) (λ q. omega arith)) few
    by (no l) few = rest (p n) (none_below p n (λ k q. h k (omega arith) (λ z. omega arith)))
      where
        rest : (t : Bool) → count_to p n ≡ 0 → (if t then suc (count_to p n) else count_to p n) ≤ 1
        rest true q = omega arith
        rest false q = omega arith

substitution_only : (k : Kind) → is Substitution k ≡ true → k ≡ Substitution
substitution_only Substitution h = refl
substitution_only Deletion h = let z : ◌≡◌ {A = ℕ} 0 1 = cc in absurd (omega arith)
substitution_only Delins h = let z : ◌≡◌ {A = ℕ} 0 1 = cc in absurd (omega arith)
substitution_only Insertion h = let z : ◌≡◌ {A = ℕ} 0 1 = cc in absurd (omega arith)
substitution_only Duplication h = let z : ◌≡◌ {A = ℕ} 0 1 = cc in absurd (omega arith)
substitution_only Inversion h = let z : ◌≡◌ {A = ℕ} 0 1 = cc in absurd (omega arith)
substitution_only Identity h = let z : ◌≡◌ {A = ℕ} 0 1 = cc in absurd (omega arith)
substitution_only Other h = let z : ◌≡◌ {A = ℕ} 0 1 = cc in absurd (omega arith)

-- the swap of a substitution
record OneBase (r : Reference) (e : Asked) : Type 0 where
  pub from : (cut_swap r e).from ≡ start_index r e
  pub to : (cut_swap r e).to ≡ start_index r e + 1
  pub put : length (cut_swap r e).put ≡ 1

module _ (r : Reference) (e : Asked) (q : kind_of e ≡ Substitution) where
  one_from : (cut_swap r e).from ≡ start_index r e
  unfolding cut_swap swap swap_by start_index
  one_from = rw q

  one-to : (cut_swap r e).to ≡ end_index r e
  unfolding cut_swap swap swap_by end_index
  one-to = rw q

  one-put : (cut_swap r e).put ≡ e.new
  unfolding cut_swap swap swap_by kept
  one-put = rw q

one_base_of : (s : List ℕ) → are_new_bases 1 s ≡ true → length s ≡ 1
unfolding are_new_bases
one_base_of s h =
    let some = leb 1 (length s) in
    let few = leb (length s) 1 in
    let both = and_left (some && few) (all is_letter s) h in
    omega (arith, leb-true 1 (length s) (and_left some few both), leb-true (length s) 1 (and_right some few both))

one-base : (m : Limits) (r : Reference) (e : Asked) → refusal m r e ≡ 0 → is Substitution (kind_of e) ≡ true → OneBase r e
unfolding fit_bases
one-base m r e h s =
    let q = substitution_only (kind_of e) s in
    let a = edit-allowed m r e h in
    let i = indexes m r e h in
    record {
      from = one_from r e q;
      to = one-to r e q ∙ omega (arith, i.start_is, i.end_is, i.rising, a.single s);
      put = ap length (one-put r e q) ∙ one_base_of e.new (sym (ap (λ (k : Kind). fit_bases m.most k e.new) q) ∙ a.bases);
    }

module _ (m : Limits) (r : Reference) (e : Asked) (h : refusal m r e ≡ 0) (none : r.exceptions ≡ []) (s : is Substitution (kind_of e) ≡ true) where
  -- every CDS codon but its own is reused
  beside : (k : ℕ) → k < codons r → (k ≡ (start_index r e - (r.cs - 1)) / 3 → ⊥) → is_reused r e k ≡ true
  beside k l d = by (dec_le (r.cs - 1 + k * 3 + 3) (start_index r e))
    where
      first : 1 ≤ r.cs
      first = (reference-accepted m r e h).bounds.first

      o : OneBase r e
      o = one-base m r e h s

      by : Dec (r.cs - 1 + k * 3 + 3 ≤ start_index r e) → is_reused r e k ≡ true
      by (yes i) = reused-before r e k none first (omega (arith, o.from)) l
      by (no i) = reused-behind r e k k none first (omega (arith, o.from, o.put, (indexes m r e h).front)) (omega (arith, o.from, o.to, o.put)) l

  -- no codon behind the CDS is read
  stays-inside : (r.end ≡ at_stop → get_or (translated r.table [] (altered_coding r e)) (codons r - 1) 0 ≡ byte "*") → codons_through_stop r e ≤ codons r
  unfolding codons_through_stop codons cds_size
  stays-inside stop = by (eqb r.end at_stop) refl
    where
      T : List ℕ
      T = translated r.table [] (altered_coding r e)

      by : (b : Bool) → eqb r.end at_stop ≡ b → min (length (altered_protein r e)) (length (altered_coding r e) / 3) ≤ codons r
      by true z =
          omega (arith, ap length (read_plain r e none), length_through T, before_at T (codons r - 1) (stop (eqb-true r.end at_stop z)), (reference-accepted m r e h).bounds.long)
      by false z =
          let o = one-base m r e h s in
          let b = (reference-accepted m r e h).bounds in
          omega (arith, length-coding m r e h, o.from, o.to, o.put, cut_ends m.longest r (none-refused m r e h).0 z, (indexes m r e h).starts, b.first)

  -- The count of a substitution is at most one, unless the reference's final stop changes: the last CDS codon still reads `*`.
  pub substitution-looks : (r.end ≡ at_stop → get_or (translated r.table [] (altered_coding r e)) (codons r - 1) 0 ≡ byte "*") → looked_up r e ≤ 1
  unfolding looked_up
  substitution-looks stop =
      let few = stays-inside stop in
      at_most_one (looks r e) ((start_index r e - (r.cs - 1)) / 3) (codons_through_stop r e) (λ k l d. ap not (beside k (omega arith) d))
