-- `transcript::write_rest` meets its contract. Assumes nothing.
use mathlib.Core.Path.{◌≡◌, sym, ap, ◌∙◌}
use mathlib.Core.List.{List}
use Prim.Native.Nat.{ℕ, ◌-◌}
use native.Mathlib.Omega.{arith}
use lib.ListN.{length, take, drop}
use Rattle.rules.specs.Bytes.{over}
use Rattle.rules.specs.Packed.{letters_by}
use Rattle.rules.proofs.Over.{lent_on_by}
use Rattle.edits.specs.Plans.{goes_in}
use Rattle.transcript.proofs.Transcripts.{length-goes-in, tail_part}
use Rattle.transcript.proofs.write_rest.Goals as goal

pub returns : goal.returns
returns c =
    let a = c.args in
    let x = c.requires in
    let put = goes_in a.plan (letters_by a.form a.letters.now) a.new.now in
    let tail = drop a.plan.to (letters_by a.form a.letters.now) in
    let one = c.write_put-kept in
    let two = c.copy_letters in
    let size = c.size_of-size in
    let many = length-goes-in a.plan (letters_by a.form a.letters.now) a.new.now x.sourced in
    let place : one.result ≡ length put = one.ensures.value ∙ sym many in
    let whole = one.new.out in
    record {
      value = omega (arith, one.ensures.value, size.ensures);
      rest_after = lent_on_by put tail a.rest.now whole two.new.out one.result place (omega (arith, many, x.to_in_bounds.1)) one.ensures.out_after
          (two.ensures ∙ ap (λ (l : List ℕ). over l (take (length whole - one.result) (drop one.result whole))) (tail_part a.plan.to size.result (letters_by a.form a.letters.now) size.ensures));
    }
