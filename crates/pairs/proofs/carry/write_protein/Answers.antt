-- `pairs::carry::write_protein` meets its contract. Assumes nothing.
use mathlib.Core.Path.{ap, ◌∙◌}
use mathlib.Core.List.{List}
use Prim.Native.Nat.{ℕ}
use lib.ListN.{length}
use Rattle.rules.specs.declared.Exceptions.{Exceptions}
use Rattle.rules.specs.Bytes.{over}
use Rattle.pairs.proofs.Coding.{coding-walks, coded}
use Rattle.pairs.proofs.carry.write_protein.Goals as goal

pub write_through_stop-walked-requires : goal.write_through_stop-walked-requires
write_through_stop-walked-requires c =
    let a = c.args in
    coding-walks a.known a.new.now a.other.now a.transcript.now a.altered.now c.requires c.none.result (ap (λ (e : Exceptions). e.count) c.none.ensures) c.all_bases.result c.all_bases-2.result c.all_bases.ensures c.all_bases-2.ensures

pub returns : goal.returns
returns c =
    let a = c.args in
    let wrote = c.write_through_stop-walked in
    let is = coded a.known a.new.now a.other.now a.transcript.now a.altered.now c.requires c.none.result (ap (λ (e : Exceptions). e.count) c.none.ensures) in
    record { value = wrote.ensures.residues_value ∙ ap length is; altered_after = wrote.ensures.written ∙ ap (λ (l : List ℕ). over l a.altered.now) is }
