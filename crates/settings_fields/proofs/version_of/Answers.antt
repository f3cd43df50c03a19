-- `settings_fields::version_of` meets its contract. Assumes nothing.
use mathlib.Core.Path.{◌≡◌}
use mathlib.Core.Bool.{true, false}
use native.Mathlib.Omega.{arith}
use Rattle.settings_fields.specs.Places.{is_at}
use Rattle.settings_fields.proofs.Places.{long-at, version-there, no-version}
use Rattle.settings_fields.proofs.version_of.Goals as goal

pub bounds-s-3 : goal.bounds-s-3
bounds-s-3 c =
    let s = c.args.s.now in
    let h : is_at s 0 (1, 1) ≡ true = cc in
    omega (arith, long-at s 0 (1, 1) h)

pub returns-then-is_field : goal.returns-then-is_field
returns-then-is_field c =
    let s = c.args.s.now in
    let h : is_at s 0 (1, 1) ≡ true = cc in
    rw c.from.ensures (version-there s h)

pub returns : goal.returns
returns c =
    let s = c.args.s.now in
    let h : is_at s 0 (1, 1) ≡ false = cc in
    no-version s h
