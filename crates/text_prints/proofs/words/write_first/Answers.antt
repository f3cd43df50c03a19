-- `text_prints::words::write_first` meets its contract. Assumes nothing.
use mathlib.Core.Path.{refl, ap}
use native.Mathlib.Omega.{arith}
use lib.ListN.{length}
use Rattle.rules.specs.Bytes.{over}
use Rattle.text_prints.proofs.Shown.{first-none, first_some}
use Rattle.text_prints.proofs.words.write_first.Goals as goal

pub returns-then-first-eq0 : goal.returns-then-first-eq0
unfolding over
returns-then-first-eq0 c =
    let args = c.args in
    let if1 = c.if-first-eq0 in
    rw (first-none args.first if1.true) (record { value = refl; out_after = refl })

pub write_spaced_decimal-requires : goal.write_spaced_decimal-requires
write_spaced_decimal-requires c =
    let args = c.args in
    let pre = c.requires in
    let if1 = c.if-first-eq0 in
    omega (arith, ap length (first_some args.first if1.false), pre)

pub returns : goal.returns
returns c =
    let args = c.args in
    let write-spaced-decimal = c.write_spaced_decimal in
    let if1 = c.if-first-eq0 in
    rw (first_some args.first if1.false) (record { value = write-spaced-decimal.ensures.value; out_after = write-spaced-decimal.ensures.out_after })
