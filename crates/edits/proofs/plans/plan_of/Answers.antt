-- `edits::plans::plan_of` meets its contract. Assumes nothing.
use mathlib.Core.Path.{◌≡◌, refl, sym, ap, ◌∙◌}
use Prim.Native.Nat.{ℕ, ◌+◌, min}
use native.Mathlib.Omega.{arith}
use Rattle.rules.specs.Reference.{size}
use Rattle.rules.specs.Position.{index}
use Rattle.rules.specs.Packed.{letters_by}
use Rattle.rules.specs.Views.{bare, asked}
use Rattle.rules.specs.Altered.{is_replacing, is_inserting}
use Rattle.rules.specs.declared.Edit.{Edit}
use Rattle.rules.specs.declared.Kind.{Kind}
use Rattle.rules.specs.declared.Kind.TheVariants.{Substitution, Deletion, Delins, Identity, Other}
use Rattle.reference.specs.declared.Known.{Known}
use Rattle.spans.specs.declared.Range.{Range}
use mathlib.Core.Logic.{◌⊎◌, inl, inr}
use mathlib.Core.Bool.{true, false, ◌||◌}
use mathlib.Core.List.{List}
use lib.ListN.{length}
use Rattle.edits.specs.declared.plans.Source.TheVariants.{Copy}
use Rattle.edits.specs.Plans.{source_of, Planned}
use Rattle.edits.proofs.Planning.{Within, ranged, numbered, insertion-swap, duplication-swap}
use Rattle.edits.proofs.plans.plan_of.Goals as goal

-- the kinds of an arm
replaces : (k : Kind) → (k ≡ Substitution) ⊎ ((k ≡ Deletion) ⊎ (k ≡ Delins)) → is_replacing k ≡ true
replaces k (inl e) = rw e
replaces k (inr (inl e)) = rw e
replaces k (inr (inr e)) = rw e

copies : (k : Kind) → (k ≡ Identity) ⊎ (k ≡ Other) → ((is_replacing k || is_inserting k) ≡ false) × (source_of k ≡ Copy)
copies k (inl e) = (rw e, rw e)
copies k (inr e) = (rw e, rw e)

-- what the calls found, of letters in a form
module _ (letters : List ℕ) (known : Known) (e : Edit) (new : List ℕ) where
  -- where the range of the edit's bases lies
  lies : (g : Range) (n : ℕ) → Planned (bare (letters_by known.form letters) known.cds) (asked e new) → n ≡ length (letters_by known.form letters)
      → g.start ≡ index known.cds.cs known.cds.ce n e.start → g.end ≡ min (index known.cds.cs known.cds.ce n e.end + 1) n
      → Within (bare (letters_by known.form letters) known.cds) (asked e new) g
  unfolding size
  lies g n p sized start end =
      ranged (bare (letters_by known.form letters) known.cds) (asked e new) g p (start ∙ ap (λ (m : ℕ). index known.cds.cs known.cds.ce m e.start) sized) (end ∙ ap (λ (m : ℕ). min (index known.cds.cs known.cds.ce m e.end + 1) m) sized)

pub replace-requires : goal.replace-requires
unfolding size
replace-requires c =
    let a = c.args in
    let w = lies a.letters.now a.known a.edit a.new.now _ _ c.requires.planned c.size_of-size.ensures c.setup_incorporate-range.ensures.start_index c.setup_incorporate-range.ensures.end_index in
    record { in_letters = record { letters = c.requires.checks.sound.letters; rising = omega (arith, w.rising); ends = w.ends }; letters_len_bound = (c.requires.checks.sound.short, c.requires.planned.few) }

pub insert_new-requires : goal.insert_new-requires
unfolding size
insert_new-requires c =
    let a = c.args in
    let w = lies a.letters.now a.known a.edit a.new.now _ _ c.requires.planned c.size_of-size.ensures c.setup_incorporate-range.ensures.start_index c.setup_incorporate-range.ensures.end_index in
    let sized = c.size_of-size.ensures in
    record { le_cs = (c.requires.checks.sound.bounds.first, omega (arith, w.front)); size_bound = (omega (arith, sized, c.requires.checks.sound.short), omega (arith, w.rising, w.ends, c.requires.checks.sound.short), c.requires.planned.few); table_bound = (c.requires.checks.sound.table, c.requires.planned.letters) }

pub insert_copy-requires : goal.insert_copy-requires
unfolding size
insert_copy-requires c =
    let a = c.args in
    let w = lies a.letters.now a.known a.edit a.new.now _ _ c.requires.planned c.size_of-size.ensures c.setup_incorporate-range.ensures.start_index c.setup_incorporate-range.ensures.end_index in
    record { checks = c.requires.checks; in_letters = record { letters = c.requires.checks.sound.letters; rising = omega (arith, w.rising); ends = w.ends }; cs_bound = omega (arith, w.front, w.rising) }

pub keep_length-requires : goal.keep_length-requires
unfolding size
keep_length-requires c =
    let a = c.args in
    let w = lies a.letters.now a.known a.edit a.new.now _ _ c.requires.planned c.size_of-size.ensures c.setup_incorporate-range.ensures.start_index c.setup_incorporate-range.ensures.end_index in
    (omega (arith, w.rising), omega (arith, w.ends, c.size_of-size.ensures))

pub keep_length-requires-in-Identity : goal.keep_length-requires-in-Identity
unfolding size
keep_length-requires-in-Identity c =
    let a = c.args in
    let w = lies a.letters.now a.known a.edit a.new.now _ _ c.requires.planned c.size_of-size.ensures c.setup_incorporate-range.ensures.start_index c.setup_incorporate-range.ensures.end_index in
    (omega (arith, w.rising), omega (arith, w.ends, c.size_of-size.ensures))

pub returns-in-Substitution : goal.returns-in-Substitution
returns-in-Substitution c =
    let a = c.args in
    let w = lies a.letters.now a.known a.edit a.new.now _ _ c.requires.planned c.size_of-size.ensures c.setup_incorporate-range.ensures.start_index c.setup_incorporate-range.ensures.end_index in
    c.replace.ensures (asked a.edit a.new.now) (record { kind = replaces a.edit.kind c.in-Substitution.is; range = w.range; bases = refl }) (numbered (letters_by a.known.form a.letters.now) a.known a.edit a.new.now c.silent_number-number.result c.requires.checks c.silent_number-number.ensures)

pub returns-in-Insertion : goal.returns-in-Insertion
returns-in-Insertion c =
    let a = c.args in
    let w = lies a.letters.now a.known a.edit a.new.now _ _ c.requires.planned c.size_of-size.ensures c.setup_incorporate-range.ensures.start_index c.setup_incorporate-range.ensures.end_index in
    let k = c.in-Insertion.is in
    let swaps = insertion-swap (bare (letters_by a.known.form a.letters.now) a.known.cds) (asked a.edit a.new.now) c.setup_incorporate-range.result w.range k in
    c.insert_new.ensures (letters_by a.known.form a.letters.now) (asked a.edit a.new.now) (sym c.size_of-size.ensures) (record { kind = rw k; range = w.range; comes = rw k; swaps = swaps }) (numbered (letters_by a.known.form a.letters.now) a.known a.edit a.new.now c.silent_number-number.result c.requires.checks c.silent_number-number.ensures)

pub returns-in-Duplication : goal.returns-in-Duplication
returns-in-Duplication c =
    let a = c.args in
    let w = lies a.letters.now a.known a.edit a.new.now _ _ c.requires.planned c.size_of-size.ensures c.setup_incorporate-range.ensures.start_index c.setup_incorporate-range.ensures.end_index in
    let k = c.in-Duplication.is in
    let swaps = duplication-swap (bare (letters_by a.known.form a.letters.now) a.known.cds) (asked a.edit a.new.now) c.setup_incorporate-range.result w.range k in
    c.insert_copy.ensures (asked a.edit a.new.now) (record { kind = rw k; range = w.range; comes = rw k; swaps = swaps }) (numbered (letters_by a.known.form a.letters.now) a.known a.edit a.new.now c.silent_number-number.result c.requires.checks c.silent_number-number.ensures)

pub returns-in-Inversion : goal.returns-in-Inversion
returns-in-Inversion c =
    let a = c.args in
    let w = lies a.letters.now a.known a.edit a.new.now _ _ c.requires.planned c.size_of-size.ensures c.setup_incorporate-range.ensures.start_index c.setup_incorporate-range.ensures.end_index in
    let k = c.in-Inversion.is in
    c.keep_length.ensures (letters_by a.known.form a.letters.now) a.known.cds (asked a.edit a.new.now) (sym c.size_of-size.ensures) (record { kind = rw k; range = w.range; comes = rw k }) (numbered (letters_by a.known.form a.letters.now) a.known a.edit a.new.now c.silent_number-number.result c.requires.checks c.silent_number-number.ensures)

pub returns-in-Identity : goal.returns-in-Identity
returns-in-Identity c =
    let a = c.args in
    let w = lies a.letters.now a.known a.edit a.new.now _ _ c.requires.planned c.size_of-size.ensures c.setup_incorporate-range.ensures.start_index c.setup_incorporate-range.ensures.end_index in
    let k = copies a.edit.kind c.in-Identity.is in
    c.keep_length-in-Identity.ensures (letters_by a.known.form a.letters.now) a.known.cds (asked a.edit a.new.now) (sym c.size_of-size.ensures) (record { kind = k.0; range = w.range; comes = k.1 }) (numbered (letters_by a.known.form a.letters.now) a.known a.edit a.new.now c.silent_number-number.result c.requires.checks c.silent_number-number.ensures)
