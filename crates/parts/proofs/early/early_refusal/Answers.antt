-- `parts::early::early_refusal` meets its contract. Assumes nothing.
use mathlib.Core.Path.{sym, ap, ◌∙◌}
use Prim.Native.Nat.{◌+◌}
use lib.ListN.{length}
use native.Mathlib.Omega.{arith}
use borrow.Author.Tests.{not-false, lt-ltb, le-ltb}
use Rattle.rules.specs.Refusal.{limits}
use Rattle.rules.specs.Views.{bare}
use Rattle.rules.proofs.Reference.{bounds_of}
use Rattle.reference.proofs.Testing.{early_by, fits_are}
use Rattle.parts.specs.Parts.{in_parts}
use Rattle.parts.proofs.Judged.{long, short}
use Rattle.parts.proofs.Places.{length-parts, letters-in}
use mathlib.Core.Bool.{not}
use Rattle.parts.proofs.early.early_refusal.Goals as goal

pub returns-then-size : goal.returns-then-size
returns-then-size c =
    let a = c.args in
    rw (early_by limits.longest (in_parts a.a.now a.b.now a.c.now) a.cds a.e, length-parts a.a.now a.b.now a.c.now, long (length a.a.now + (length a.b.now + length a.c.now)) c.saturating_add-size.result (omega arith) (omega arith) c.if-size.true)

pub returns-then-not-are_letters : goal.returns-then-not-are_letters
returns-then-not-are_letters c =
    let a = c.args in
    let size = short (length a.a.now + (length a.b.now + length a.c.now)) c.saturating_add-size.result (omega arith) (omega arith) c.if-size.false in
    rw (
      early_by limits.longest (in_parts a.a.now a.b.now a.c.now) a.cds a.e,
      length-parts a.a.now a.b.now a.c.now,
      size.1,
      letters-in a.a.now a.b.now a.c.now,
      ← c.are_letters.ensures,
      ← c.are_letters-2.ensures,
      ← c.are_letters-3.ensures,
      (ap not c.if-not-are_letters.true),
    )

pub returns-then-not-are_bounds : goal.returns-then-not-are_bounds
returns-then-not-are_bounds c =
    let a = c.args in
    let size = short (length a.a.now + (length a.b.now + length a.c.now)) c.saturating_add-size.result (omega arith) (omega arith) c.if-size.false in
    rw (
      early_by limits.longest (in_parts a.a.now a.b.now a.c.now) a.cds a.e,
      ← c.are_bounds.ensures (in_parts a.a.now a.b.now a.c.now) (length-parts a.a.now a.b.now a.c.now ∙ sym size.0),
      length-parts a.a.now a.b.now a.c.now,
      size.1,
      letters-in a.a.now a.b.now a.c.now,
      ← c.are_letters.ensures,
      ← c.are_letters-2.ensures,
      ← c.are_letters-3.ensures,
      (ap not c.if-not-are_letters.false),
      (ap not c.if-not-are_bounds.true),
    )

pub returns-then-cds-gt2 : goal.returns-then-cds-gt2
returns-then-cds-gt2 c =
    let a = c.args in
    let size = short (length a.a.now + (length a.b.now + length a.c.now)) c.saturating_add-size.result (omega arith) (omega arith) c.if-size.false in
    rw (
      early_by limits.longest (in_parts a.a.now a.b.now a.c.now) a.cds a.e,
      ← c.are_bounds.ensures (in_parts a.a.now a.b.now a.c.now) (length-parts a.a.now a.b.now a.c.now ∙ sym size.0),
      length-parts a.a.now a.b.now a.c.now,
      size.1,
      letters-in a.a.now a.b.now a.c.now,
      ← c.are_letters.ensures,
      ← c.are_letters-2.ensures,
      ← c.are_letters-3.ensures,
      (ap not c.if-not-are_letters.false),
      (ap not c.if-not-are_bounds.false),
      lt-ltb 2 a.cds.table c.if-cds-gt2.true,
    )

pub overflow_sub-cds : goal.overflow_sub-cds
overflow_sub-cds c =
    let a = c.args in
    let size = short (length a.a.now + (length a.b.now + length a.c.now)) c.saturating_add-size.result (omega arith) (omega arith) c.if-size.false in
    let bounds = c.are_bounds in
    omega (arith, (bounds_of (bare (in_parts a.a.now a.b.now a.c.now) a.cds) (sym (bounds.ensures (in_parts a.a.now a.b.now a.c.now) (length-parts a.a.now a.b.now a.c.now ∙ sym size.0)) ∙ not-false bounds.result (ap not c.if-not-are_bounds.false))).first)

pub overflow_sub-cds-2 : goal.overflow_sub-cds-2
overflow_sub-cds-2 c =
    let a = c.args in
    let size = short (length a.a.now + (length a.b.now + length a.c.now)) c.saturating_add-size.result (omega arith) (omega arith) c.if-size.false in
    let bounds = c.are_bounds in
    let b = bounds_of (bare (in_parts a.a.now a.b.now a.c.now) a.cds) (sym (bounds.ensures (in_parts a.a.now a.b.now a.c.now) (length-parts a.a.now a.b.now a.c.now ∙ sym size.0)) ∙ not-false bounds.result (ap not c.if-not-are_bounds.false)) in
    omega (arith, b.first, b.rising)

pub returns-then-not-fit_exceptions : goal.returns-then-not-fit_exceptions
returns-then-not-fit_exceptions c =
    let a = c.args in
    let size = short (length a.a.now + (length a.b.now + length a.c.now)) c.saturating_add-size.result (omega arith) (omega arith) c.if-size.false in
    let bounds = c.are_bounds in
    let same = bounds.ensures (in_parts a.a.now a.b.now a.c.now) (length-parts a.a.now a.b.now a.c.now ∙ sym size.0) in
    let b = bounds_of (bare (in_parts a.a.now a.b.now a.c.now) a.cds) (sym same ∙ not-false bounds.result (ap not c.if-not-are_bounds.false)) in
    rw (
      early_by limits.longest (in_parts a.a.now a.b.now a.c.now) a.cds a.e,
      ← same,
      length-parts a.a.now a.b.now a.c.now,
      size.1,
      letters-in a.a.now a.b.now a.c.now,
      ← c.are_letters.ensures,
      ← c.are_letters-2.ensures,
      ← c.are_letters-3.ensures,
      (ap not c.if-not-are_letters.false),
      (ap not c.if-not-are_bounds.false),
      le-ltb 2 a.cds.table c.if-cds-gt2.false,
      ← fits_are (in_parts a.a.now a.b.now a.c.now) a.cds a.e b.first,
      ← c.fit_exceptions.ensures,
      (ap not c.if-not-fit_exceptions.true),
    )

pub returns : goal.returns
returns c =
    let a = c.args in
    let size = short (length a.a.now + (length a.b.now + length a.c.now)) c.saturating_add-size.result (omega arith) (omega arith) c.if-size.false in
    let bounds = c.are_bounds in
    let same = bounds.ensures (in_parts a.a.now a.b.now a.c.now) (length-parts a.a.now a.b.now a.c.now ∙ sym size.0) in
    let b = bounds_of (bare (in_parts a.a.now a.b.now a.c.now) a.cds) (sym same ∙ not-false bounds.result (ap not c.if-not-are_bounds.false)) in
    rw (
      early_by limits.longest (in_parts a.a.now a.b.now a.c.now) a.cds a.e,
      ← same,
      length-parts a.a.now a.b.now a.c.now,
      size.1,
      letters-in a.a.now a.b.now a.c.now,
      ← c.are_letters.ensures,
      ← c.are_letters-2.ensures,
      ← c.are_letters-3.ensures,
      (ap not c.if-not-are_letters.false),
      (ap not c.if-not-are_bounds.false),
      le-ltb 2 a.cds.table c.if-cds-gt2.false,
      ← fits_are (in_parts a.a.now a.b.now a.c.now) a.cds a.e b.first,
      ← c.fit_exceptions.ensures,
      (ap not c.if-not-fit_exceptions.false),
    )
