-- `editions::list_differences` meets its contract. Assumes nothing.
use mathlib.Core.Path.{◌≡◌, ap, ◌∙◌}
use mathlib.Core.List.{List}
use Prim.Native.Nat.{ℕ, ◌+◌, ◌≤◌, max}
use native.Mathlib.Omega.{arith}
use lib.ListN.{length}
use Rattle.rules.specs.Bytes.{over}
use Rattle.rules.specs.Editions.{codon_count, listed}
use Rattle.rules.proofs.Fills.{refuses, gives}
use Rattle.alike.specs.declared.Edition.{Edition}
use Rattle.alike.specs.Reading.{edition_of, Fits}
use Rattle.alike.proofs.Judged.{count_small}
use Rattle.editions.specs.Listing.{listing}
use Rattle.editions.proofs.Comparing.{all-differences, bytes_counted, no_room, has_room}
use Rattle.editions.proofs.list_differences.Goals as goal

-- one more than the codons of the longer CDS, and it has two bytes
module _ (first second : List ℕ) (r s : Edition) (a b m : ℕ) (one : a ≡ codon_count (edition_of first r)) (other : b ≡ codon_count (edition_of second s)) (is : m ≡ max a b) where
  past_is : m ≡ max (codon_count (edition_of first r)) (codon_count (edition_of second s))
  past_is = is ∙ rw (one, other)

  past_small : Fits first r → Fits second s → m + 1 ≤ 65536
  past_small x y = omega (arith, past_is, count_small first r x, count_small second s y)

pub overflow_add-past : goal.overflow_add-past
overflow_add-past c = omega (arith, past_small c.args.first.now c.args.second.now c.args.r c.args.s _ _ _ c.codon_count.ensures c.codon_count-2.ensures c.max-past.ensures c.requires.fits c.requires.second_fits)

pub count_differences-n-requires : goal.count_differences-n-requires
count_differences-n-requires c = record { reads = record { fits = c.requires.fits; code = c.residues_of-a.ensures }; reads_2 = record { fits = c.requires.second_fits; code = c.residues_of-b.ensures }; le_past = (omega arith, past_small c.args.first.now c.args.second.now c.args.r c.args.s _ _ _ c.codon_count.ensures c.codon_count-2.ensures c.max-past.ensures c.requires.fits c.requires.second_fits) }

pub overflow_mul-n : goal.overflow_mul-n
overflow_mul-n c = omega (arith, c.count_differences-n.ensures.few, past_small c.args.first.now c.args.second.now c.args.r c.args.s _ _ _ c.codon_count.ensures c.codon_count-2.ensures c.max-past.ensures c.requires.fits c.requires.second_fits)

pub returns-then-out-n : goal.returns-then-out-n
returns-then-out-n c =
    let a = c.args in
    let R = edition_of a.first.now a.r in
    let S = edition_of a.second.now a.s in
    let n = c.count_differences-n in
    let whole = refuses (listing R S (length a.out.now)) 50 a.out.now
    (no_room R S (length a.out.now) _ n.result (ap (◌+ 1) (past_is c.args.first.now c.args.second.now c.args.r c.args.s _ _ _ c.codon_count.ensures c.codon_count-2.ensures c.max-past.ensures)) n.ensures.value c.if-out-n.true) in
    record { answer = whole.0; written = whole.1 }

pub write_differences-requires : goal.write_differences-requires
write_differences-requires c =
    let a = c.args in
    let R = edition_of a.first.now a.r in
    let S = edition_of a.second.now a.s in
    let n = c.count_differences-n in
    let ends = ap (◌+ 1) (past_is c.args.first.now c.args.second.now c.args.r c.args.s _ _ _ c.codon_count.ensures c.codon_count-2.ensures c.max-past.ensures) in
    record {
      reads = record { fits = c.requires.fits; code = c.residues_of-a.ensures };
      reads_2 = record { fits = c.requires.second_fits; code = c.residues_of-b.ensures };
      le_past = (omega arith, past_small c.args.first.now c.args.second.now c.args.r c.args.s _ _ _ c.codon_count.ensures c.codon_count-2.ensures c.max-past.ensures c.requires.fits c.requires.second_fits);
      past_in_bounds = rw (all-differences R S (length a.out.now) _ n.result ends n.ensures.value)
          (omega (arith, bytes_counted R S (length a.out.now) _ n.result ends n.ensures.value, c.if-out-n.false));
    }

pub returns : goal.returns
returns c =
    let a = c.args in
    let R = edition_of a.first.now a.r in
    let S = edition_of a.second.now a.s in
    let n = c.count_differences-n in
    let ends = ap (◌+ 1) (past_is c.args.first.now c.args.second.now c.args.r c.args.s _ _ _ c.codon_count.ensures c.codon_count-2.ensures c.max-past.ensures) in
    let room = length a.out.now in
    let whole = gives (listing R S room) (listed R S) _ _ a.out.now
    (has_room R S room _ n.result ends n.ensures.value c.if-out-n.false)
    (bytes_counted R S room _ n.result ends n.ensures.value)
    (c.write_differences.ensures ∙ ap (λ (l : List ℕ). over l a.out.now) (all-differences R S room _ n.result ends n.ensures.value)) in
    record { answer = whole.0; written = whole.1 }
