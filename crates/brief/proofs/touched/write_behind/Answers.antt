-- `brief::touched::write_behind` meets its contract: the letters behind go into the part of the buffer that is lent on behind what goes in. Assumes nothing.
use mathlib.Core.Path.{◌≡◌, refl, sym, ap₂, ◌∙◌}
use Prim.Native.Nat.{◌+◌, ◌-◌, ◌≤◌}
use native.Mathlib.Omega.{arith}
use lib.ListN.{length, take, drop}
use Rattle.rules.specs.Altered.{part}
use Rattle.rules.proofs.Over.{copied_as, lent_on_by}
use Rattle.rules.proofs.Parts.{length_part}
use Rattle.edits.specs.Plans.{goes_in}
use Rattle.transcript.proofs.Transcripts.{length-goes-in}
use Rattle.brief.proofs.touched.write_behind.Goals as goal

pub returns : goal.returns
unfolding part
returns c = let args = c.args in
    let pre = c.requires in
    let s = args.letters.now in
    let put = goes_in args.plan s args.new.now in
    let to = args.plan.to in
    let tail = part to (to + args.more) s in
    let one = c.write_put-kept in
    let two = c.copy in
    let many = length-goes-in args.plan s args.new.now pre.sourced in
    let place : one.result ≡ length put = one.ensures.value ∙ sym many in
    let few : to + args.more - to ≡ args.more = omega arith in
    let long : length tail ≡ args.more = length_part to (to + args.more) s pre.more_in_bounds.0 ∙ few in
    let whole = one.new.out in
    let fits : length put ≤ length args.rest.now = omega (arith, many, pre.more_in_bounds.1) in
    record {
      value = ap₂ ◌+◌ one.ensures.value (two.ensures.count ∙ long);
      rest_after = lent_on_by put tail args.rest.now whole two.new.dst one.result place fits one.ensures.out_after
          (copied_as tail tail (take (length whole - one.result) (drop one.result whole)) two.new.dst refl two.ensures.after);
    }
