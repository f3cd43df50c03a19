-- `garumbott::comparing::garumbott_compare` meets its contract. Assumes nothing.
use mathlib.Core.Path.{ap, ◌∙◌}
use mathlib.Core.List.{List}
use Prim.Native.Nat.{ℕ}
use lib.ListN.{length}
use Rattle.rules.specs.Bytes.{Result, over}
use Rattle.rules.specs.Refusal.{limits}
use Rattle.rules.specs.Answer.{written_of, bytes_of}
use Rattle.host_told.specs.Told.{length_of}
use Rattle.garumbott.proofs.Compared.{both_given}
use Rattle.garumbott.proofs.comparing.garumbott_compare.Goals as goal

pub returns : goal.returns
returns c =
    let x = c.compare.ensures in
    let a = c.args in
    let same =
    both_given limits.longest a.letters.now a.second_letters.now c.cds_at-cds.result c.cds_at-second_cds.result c.exceptions_in-e.result c.exceptions_in-second_e.result c.form_at.result c.form_at-2.result
    a.cs a.ce a.table a.cds_end a.form a.size a.second_cs a.second_ce a.second_table a.second_cds_end a.second_form a.second_size a.exceptions.now a.second_exceptions.now (length a.out.now)
    c.cds_at-cds.ensures c.exceptions_in-e.ensures c.form_at.ensures c.cds_at-second_cds.ensures c.exceptions_in-second_e.ensures c.form_at-2.ensures in
    record { value = c.compared.ensures ∙ ap length_of (x.answer ∙ ap written_of same); out_after = x.written ∙ ap (λ (q : Result (List ℕ)). over (bytes_of q) a.out.now) same }
