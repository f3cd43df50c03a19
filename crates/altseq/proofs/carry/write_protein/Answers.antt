-- `altseq::carry::write_protein` meets its contract. Assumes nothing.
use mathlib.Core.Path.{◌∙◌, ap}
use mathlib.Core.List.{List}
use Prim.Native.Nat.{ℕ}
use lib.ListN.{length}
use Rattle.rules.specs.Bytes.{over}
use Rattle.altseq.proofs.Coding.{coding-walks, coded, counted}
use Rattle.rules.specs.Packed.{letters_by}
use Rattle.altseq.proofs.carry.write_protein.Goals as goal

pub write_through_stop-requires : goal.write_through_stop-requires
write_through_stop-requires c =
    let a = c.args in
    let moved = c.alt_translation_exceptions-moved in
    coding-walks (letters_by a.known.form a.letters.now) a.known a.e a.new.now a.transcript.now a.altered.now c.requires moved.result moved.ensures.few c.all_bases.result c.all_bases.ensures

pub returns : goal.returns
returns c =
    let a = c.args in
    let moved = c.alt_translation_exceptions-moved in
    let wrote = c.write_through_stop in
    let x = c.requires in
    let is = coded (letters_by a.known.form a.letters.now) a.known a.e a.new.now a.transcript.now a.altered.now x moved.result moved.ensures.result_value in
    record { residues_value = wrote.ensures.residues_value ∙ ap length is; looked_value = wrote.ensures.looked ∙ counted (letters_by a.known.form a.letters.now) a.known a.e a.new.now a.transcript.now a.altered.now x moved.result moved.ensures.result_value; altered_after = wrote.ensures.written ∙ ap (λ (l : List ℕ). over l a.altered.now) is }
