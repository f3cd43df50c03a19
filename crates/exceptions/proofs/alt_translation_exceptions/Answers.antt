-- `exceptions::alt_translation_exceptions` meets its contract. Assumes nothing.
use mathlib.Core.Path.{◌≡◌, ap, ◌∙◌}
use mathlib.Core.List.{List}
use Prim.Native.Nat.{ℕ, ◌≤◌}
use native.Mathlib.Omega.{arith}
use borrow.Author.Rules.{rules}
use lib.ListN.{length}
use Rattle.rules.specs.Trims.{common_prefix}
use Rattle.rules.specs.Packed.{letters_by}
use Rattle.rules.proofs.Trims.{cp_le_l, cp_le_r}
use Rattle.rules.specs.Altered.{part}
use Rattle.exceptions.proofs.Moving.{none-given, whole_part, shared_of, lengths_of}
use Rattle.exceptions.proofs.alt_translation_exceptions.Goals as goal

-- the prefix lies in both transcripts
inside : (prefix size : ℕ) (old new : List ℕ) → size ≡ length old → prefix ≡ common_prefix (part 0 size old) new → (prefix ≤ size) × (prefix ≤ length new)
inside prefix size old new sized e =
    let is = e ∙ ap (λ (l : List ℕ). common_prefix l new) (whole_part size old sized) in
    (omega (arith, is, sized, cp_le_l old new), omega (arith, is, cp_le_r old new))

pub returns-then-e-eq0 : goal.returns-then-e-eq0
returns-then-e-eq0 c =
    let a = c.args in
    record { result_value = none-given (common_prefix (letters_by a.form a.old.now) a.new.now) a.first (letters_by a.form a.old.now) a.new.now a.e c.if-e-eq0.true; few = search rules }

pub slice_bounds-suffix_by-count : goal.slice_bounds-suffix_by-count
slice_bounds-suffix_by-count c = omega (arith, (inside _ _ _ _ c.size_of-size.ensures c.prefix_by-prefix.ensures).1)

pub slice_bounds-suffix_by-start : goal.slice_bounds-suffix_by-start
slice_bounds-suffix_by-start c = omega (arith, (inside _ _ _ _ c.size_of-size.ensures c.prefix_by-prefix.ensures).1)

pub suffix_by-suffix-requires : goal.suffix_by-suffix-requires
suffix_by-suffix-requires c =
    record { letters = c.requires.value; rising = (inside _ _ _ _ c.size_of-size.ensures c.prefix_by-prefix.ensures).0; ends = omega (arith, c.size_of-size.ensures) }

pub moved_all-requires : goal.moved_all-requires
moved_all-requires c =
    let a = c.args in
    let size = c.size_of-size in
    let shared = shared_of _ _ _ (letters_by a.form a.old.now) a.new.now size.ensures c.prefix_by-prefix.ensures c.suffix_by-suffix.ensures in
    record { lengths = lengths_of a.first c.prefix_by-prefix.result c.suffix_by-suffix.result size.result (length a.new.now) (letters_by a.form a.old.now) a.new.now c.requires.moves shared; rises = rw size.ensures c.requires.given }

pub returns : goal.returns
returns c =
    let a = c.args in
    let all = shared_of _ _ _ (letters_by a.form a.old.now) a.new.now c.size_of-size.ensures c.prefix_by-prefix.ensures c.suffix_by-suffix.ensures in
    record { result_value = rw (← all.front) (c.moved_all.ensures.by_index (letters_by a.form a.old.now) a.new.now all); few = c.moved_all.ensures.few }
