-- `settings::read::read_settings` meets its contract. Assumes nothing.
use mathlib.Core.Path.{ap}
use borrow.Author.Tests.{not-true, not-false}
use Rattle.settings.proofs.Reading.{unknown-reader, unversioned, zeroth, is-newer, unformed, is_held, unfit}
use mathlib.Core.Bool.{not}
use Rattle.settings.proofs.read.read_settings.Goals as goal

pub returns-then-not-is_version : goal.returns-then-not-is_version
returns-then-not-is_version c =
    let a = c.args in
    unknown-reader a.s.now a.newest _ c.is_version.ensures (ap not c.if-not-is_version.true)

pub returns-in_default : goal.returns-in_default
returns-in_default c =
    let a = c.args in
    unversioned a.s.now a.newest _ c.is_version.ensures (ap not c.if-not-is_version.false) (rw c.in_default.is at c.version_of.ensures)

pub returns-then-version-eq0 : goal.returns-then-version-eq0
returns-then-version-eq0 c =
    let a = c.args in
    zeroth a.s.now a.newest _ c.is_version.ensures (ap not c.if-not-is_version.false) _ c.in-Some.ensures c.if-version-eq0.true

pub returns-then-newest-version : goal.returns-then-newest-version
returns-then-newest-version c =
    let a = c.args in
    is-newer a.s.now a.newest _ c.is_version.ensures (ap not c.if-not-is_version.false) _ c.in-Some.ensures c.if-version-eq0.false c.if-newest-version.true

pub returns-then-not-are_fields : goal.returns-then-not-are_fields
returns-then-not-are_fields c =
    let a = c.args in
    unformed a.s.now a.newest _ c.is_version.ensures (ap not c.if-not-is_version.false) _ c.in-Some.ensures c.if-version-eq0.false c.if-newest-version.false _ c.are_fields.ensures (ap not c.if-not-are_fields.true)

pub returns-then-not-are_settings : goal.returns-then-not-are_settings
returns-then-not-are_settings c =
    let a = c.args in
    unfit a.s.now a.newest _ c.is_version.ensures (ap not c.if-not-is_version.false) _ c.in-Some.ensures c.if-version-eq0.false c.if-newest-version.false _ c.are_fields.ensures (ap not c.if-not-are_fields.false) _ c.settings_at-settings.ensures _ c.are_settings.ensures (not-true _ (ap not c.if-not-are_settings.true))

pub returns : goal.returns
returns c =
    let a = c.args in
    is_held a.s.now a.newest _ c.is_version.ensures (ap not c.if-not-is_version.false) _ c.in-Some.ensures c.if-version-eq0.false c.if-newest-version.false _ c.are_fields.ensures (ap not c.if-not-are_fields.false) _ c.settings_at-settings.ensures _ c.are_settings.ensures (not-false _ (ap not c.if-not-are_settings.false))
