-- `brief::touched::write_touched` meets its contract: the rest goes into the part of the buffer that is lent on behind the letters before the edit. Assumes nothing.
use mathlib.Core.Path.{ap, ◌∙◌}
use mathlib.Core.List.{List, ◌++◌}
use Prim.Native.Nat.{ℕ, ◌+◌, ◌-◌, ◌≤◌}
use native.Mathlib.Omega.{arith}
use lib.ListN.{length}
use Rattle.rules.specs.Bytes.{over}
use Rattle.rules.specs.Altered.{part}
use Rattle.rules.proofs.Over.{copied, lent_on_by}
use Rattle.edits.specs.Plans.{goes_in}
use Rattle.brief.proofs.Parted.{touched-is, front_long}
use Rattle.brief.proofs.touched.write_touched.Goals as goal

pub returns : goal.returns
unfolding part
returns c = let args = c.args in
    let x = c.requires.touches in
    let s = args.letters.now in
    let p = args.plan in
    let front = part args.start p.from s in
    let rest = goes_in p s args.new.now ++ part p.to (p.to + (args.edge - (p.from + p.kept))) s in
    let one = c.copy-n in
    let two = c.write_behind in
    let many = front_long p s args.new.now args.start args.edge x in
    let fits : length front ≤ length args.out.now = omega (arith, many, x.before, x.behind, c.requires.start_in_bounds) in
    record {
      value = omega (arith, one.ensures.count, many, two.ensures.value, x.before, x.behind);
      out_after = lent_on_by front rest args.out.now one.new.dst two.new.rest one.result one.ensures.count fits (one.ensures.after ∙ copied front args.out.now) two.ensures.rest_after
          ∙ ap (λ (l : List ℕ). over l args.out.now) (touched-is p s args.new.now args.start args.edge x);
    }
