-- `pairs::carry::write_from` meets its contract: the rest goes into the part of the buffer that is lent on behind what goes in by the plan ahead.
use mathlib.Core.Path.{◌≡◌, sym, ◌∙◌}
use mathlib.Core.List.{◌++◌}
use native.Mathlib.Omega.{arith}
use lib.ListN.{length, drop}
use Rattle.rules.specs.Packed.{letters_by}
use Rattle.rules.specs.Altered.{part}
use Rattle.rules.proofs.Over.{lent_on_by}
use Rattle.edits.specs.Plans.{goes_in}
use Rattle.transcript.proofs.Transcripts.{length-goes-in}
use Rattle.pairs.proofs.carry.write_from.Goals as goal

pub returns : goal.returns
returns c =
    let a = c.args in
    let x = c.requires in
    let s = letters_by a.form a.letters.now in
    let put = goes_in a.ahead s a.new.now in
    let rest = part a.ahead.to a.behind.from s ++ (goes_in a.behind s a.other.now ++ drop a.behind.to s) in
    let one = c.write_put-kept in
    let two = c.write_behind in
    let many : length put ≡ a.ahead.kept = length-goes-in a.ahead s a.new.now x.source in
    let place : one.result ≡ length put = one.ensures.value ∙ sym many in
    let whole = one.new.out in
    record { value = omega (arith, one.ensures.value, two.ensures.value); rest_after = lent_on_by put rest a.rest.now whole two.new.rest one.result place (omega (arith, many, x.written)) one.ensures.out_after two.ensures.rest_after }
