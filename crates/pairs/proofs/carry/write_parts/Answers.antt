-- `pairs::carry::write_parts` meets its contract: four parts go into the part of the buffer that is lent on behind the first.
use mathlib.Core.Path.{◌≡◌, sym, ap, ◌∙◌}
use mathlib.Core.List.{List, ◌++◌}
use Prim.Native.Nat.{ℕ, ◌+◌}
use native.Mathlib.Omega.{arith}
use lib.ListN.{length, take, drop}
use lib.Seq.{length-take-le}
use Rattle.rules.specs.Bytes.{over}
use Rattle.rules.specs.Packed.{letters_by}
use Rattle.rules.specs.Altered.{part}
use Rattle.rules.proofs.Over.{lent_on_by}
use Rattle.rules.proofs.Pairs.{five_parts}
use Rattle.edits.specs.Plans.{goes_in}
use Rattle.transcript.proofs.Transcripts.{front_part}
use Rattle.pairs.specs.Carrying.{swap_of}
use Rattle.pairs.proofs.Rows.{row-length}
use Rattle.pairs.proofs.carry.write_parts.Goals as goal

pub returns : goal.returns
unfolding five_parts swap_of
returns c =
    let a = c.args in
    let x = c.requires in
    let s = letters_by a.form a.letters.now in
    let front = take a.ahead.from s in
    let rest = goes_in a.ahead s a.new.now ++ (part a.ahead.to a.behind.from s ++ (goes_in a.behind s a.other.now ++ drop a.behind.to s)) in
    let one = c.copy_letters in
    let two = c.write_from in
    let many : length front ≡ a.ahead.from = length-take-le a.ahead.from s (omega (arith, x.rising, x.behind.apart, x.behind.rising, x.behind.ends)) in
    let long = row-length a.ahead a.behind s a.new.now a.other.now (length a.transcript.now) x in
    record {
      value = ap (λ (n : ℕ). a.ahead.from + n) two.ensures.value ∙ sym long;
      transcript_after = lent_on_by front rest a.transcript.now one.new.out two.new.rest a.ahead.from (sym many) (omega (arith, many, x.written))
          (one.ensures ∙ ap (λ (l : List ℕ). over l a.transcript.now) (front_part a.ahead.from s)) two.ensures.rest_after;
    }
