-- `reference::early::early_refusal` meets its contract. Assumes nothing.
use mathlib.Core.Path.{sym, ap, ◌∙◌}
use mathlib.Core.Bool.{not}
use native.Mathlib.Omega.{arith}
use borrow.Author.Tests.{not-false, le-ltb}
use Rattle.rules.specs.Bytes.{unless}
use Rattle.rules.specs.Packed.{letters_by}
use Rattle.rules.specs.Views.{bare}
use Rattle.rules.proofs.Reference.{bounds_of}
use Rattle.reference.specs.Known.{early_of}
use Rattle.reference.proofs.Testing.{early_by, fits_are}
use Rattle.reference.proofs.early.early_refusal.Goals as goal

pub overflow_sub-c : goal.overflow_sub-c
overflow_sub-c c =
    let a = c.args in
    let sized = c.size_of-size.ensures in
    let b = bounds_of (bare (letters_by a.form a.letters.now) a.c) (sym (c.are_bounds.ensures (letters_by a.form a.letters.now) (sym sized)) ∙ not-false c.are_bounds.result (ap not c.if-not-are_bounds.false)) in
    omega (arith, b.first)

pub overflow_sub-c-2 : goal.overflow_sub-c-2
overflow_sub-c-2 c =
    let a = c.args in
    let sized = c.size_of-size.ensures in
    let b = bounds_of (bare (letters_by a.form a.letters.now) a.c) (sym (c.are_bounds.ensures (letters_by a.form a.letters.now) (sym sized)) ∙ not-false c.are_bounds.result (ap not c.if-not-are_bounds.false)) in
    omega (arith, b.first, b.rising)

pub returns-then-not-fit_exceptions : goal.returns-then-not-fit_exceptions
unfolding unless early_of
returns-then-not-fit_exceptions c =
    let a = c.args in
    let sized = c.size_of-size.ensures in
    let b = bounds_of (bare (letters_by a.form a.letters.now) a.c) (sym (c.are_bounds.ensures (letters_by a.form a.letters.now) (sym sized)) ∙ not-false c.are_bounds.result (ap not c.if-not-are_bounds.false)) in
    rw (
      early_by a.longest (letters_by a.form a.letters.now) a.c a.e,
      ← sized,
      c.if-size-longest.false,
      ← c.are_letters.ensures,
      (ap not c.if-not-are_letters.false),
      ← c.are_bounds.ensures (letters_by a.form a.letters.now) (sym sized),
      (ap not c.if-not-are_bounds.false),
      le-ltb 2 a.c.table c.if-c-gt2.false,
      ← fits_are (letters_by a.form a.letters.now) a.c a.e b.first,
      ← c.fit_exceptions.ensures,
      (ap not c.if-not-fit_exceptions.true),
    )

pub returns : goal.returns
unfolding unless early_of
returns c =
    let a = c.args in
    let sized = c.size_of-size.ensures in
    let b = bounds_of (bare (letters_by a.form a.letters.now) a.c) (sym (c.are_bounds.ensures (letters_by a.form a.letters.now) (sym sized)) ∙ not-false c.are_bounds.result (ap not c.if-not-are_bounds.false)) in
    rw (
      early_by a.longest (letters_by a.form a.letters.now) a.c a.e,
      ← sized,
      c.if-size-longest.false,
      ← c.are_letters.ensures,
      (ap not c.if-not-are_letters.false),
      ← c.are_bounds.ensures (letters_by a.form a.letters.now) (sym sized),
      (ap not c.if-not-are_bounds.false),
      le-ltb 2 a.c.table c.if-c-gt2.false,
      ← fits_are (letters_by a.form a.letters.now) a.c a.e b.first,
      ← c.fit_exceptions.ensures,
      (ap not c.if-not-fit_exceptions.false),
      ← c.all_bases_by-plain.ensures,
    )
