-- `transcript::write_transcript` meets its contract. Assumes nothing.
use mathlib.Core.Path.{◌≡◌, sym, ap, ◌∙◌}
use mathlib.Core.List.{List, ◌++◌}
use Prim.Native.Nat.{ℕ, ◌+◌}
use native.Mathlib.Omega.{arith}
use lib.ListN.{length, take, drop}
use lib.Seq.{length-take-le}
use Rattle.rules.specs.Bytes.{over}
use Rattle.rules.specs.Packed.{letters_by}
use Rattle.rules.specs.Altered.{carried}
use Rattle.rules.proofs.Over.{lent_on_by}
use Rattle.edits.specs.Plans.{goes_in}
use Rattle.transcript.specs.Carrying.{carried_by}
use Rattle.transcript.proofs.Transcripts.{length-carried_by, front_part}
use Rattle.transcript.proofs.write_transcript.Goals as goal

pub returns : goal.returns
unfolding carried_by carried
returns c =
    let a = c.args in
    let x = c.requires in
    let front = take a.plan.from (letters_by a.form a.letters.now) in
    let rest = goes_in a.plan (letters_by a.form a.letters.now) a.new.now ++ drop a.plan.to (letters_by a.form a.letters.now) in
    let one = c.copy_letters in
    let two = c.write_rest in
    let many : length front ≡ a.plan.from = length-take-le a.plan.from (letters_by a.form a.letters.now) (omega (arith, x.rising, x.ends)) in
    let long = length-carried_by a.plan (letters_by a.form a.letters.now) a.new.now (length a.transcript.now) x in
    record {
      value = ap (λ (n : ℕ). a.plan.from + n) two.ensures.value ∙ sym long;
      transcript_after = lent_on_by front rest a.transcript.now one.new.out two.new.rest a.plan.from (sym many) (omega (arith, many, x.written))
          (one.ensures ∙ ap (λ (l : List ℕ). over l a.transcript.now) (front_part a.plan.from (letters_by a.form a.letters.now))) two.ensures.rest_after;
    }
