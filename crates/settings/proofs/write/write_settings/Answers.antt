-- `settings::write::write_settings` meets its contract. Assumes nothing.
use mathlib.Core.Path.{sym, ◌∙◌, ap}
use mathlib.Core.Bool.{not}
use native.Mathlib.Omega.{arith}
use borrow.Author.Tests.{not-true, not-false}
use Rattle.settings.proofs.Writing.{size, fits, unknown, out_of_range, too_short, stored}
use Rattle.settings.proofs.write.write_settings.Goals as goal

pub returns-then-not-is_version : goal.returns-then-not-is_version
returns-then-not-is_version c =
    let a = c.args in
    let whole = unknown a.x a.out.now (sym c.is_version.ensures ∙ not-true _ (ap not c.if-not-is_version.true)) in
    record { value = whole.0; out_after = whole.1 }

pub returns-then-not-are_settings : goal.returns-then-not-are_settings
returns-then-not-are_settings c =
    let a = c.args in
    let whole = out_of_range a.x a.out.now (sym c.is_version.ensures ∙ not-false _ (ap not c.if-not-is_version.false)) (sym c.are_settings.ensures ∙ not-true _ (ap not c.if-not-are_settings.true)) in
    record { value = whole.0; out_after = whole.1 }

pub returns-then-out-store_size : goal.returns-then-out-store_size
returns-then-out-store_size c =
    let a = c.args in
    let v = sym c.is_version.ensures ∙ not-false _ (ap not c.if-not-is_version.false) in
    let h = sym c.are_settings.ensures ∙ not-false _ (ap not c.if-not-are_settings.false) in
    let whole = too_short a.x a.out.now v h (omega (arith, c.if-out-store_size.true, c.store_size.ensures, size a.x)) in
    record { value = whole.0; out_after = whole.1 }

pub write_store-requires : goal.write_store-requires
write_store-requires c =
    let a = c.args in
    let v = sym c.is_version.ensures ∙ not-false _ (ap not c.if-not-is_version.false) in
    let h = sym c.are_settings.ensures ∙ not-false _ (ap not c.if-not-are_settings.false) in
    record { writes = fits a.x v h; x_in_bounds = omega (arith, c.if-out-store_size.false, c.store_size.ensures, size a.x) }

pub returns : goal.returns
returns c =
    let a = c.args in
    let v = sym c.is_version.ensures ∙ not-false _ (ap not c.if-not-is_version.false) in
    let h = sym c.are_settings.ensures ∙ not-false _ (ap not c.if-not-are_settings.false) in
    let w = c.write_store in
    let whole = stored a.x a.out.now v h (omega (arith, c.if-out-store_size.false, c.store_size.ensures, size a.x)) _ _ w.ensures.value w.ensures.out_after in
    record { value = whole.0; out_after = whole.1 }
