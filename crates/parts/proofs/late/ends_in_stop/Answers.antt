-- `parts::late::ends_in_stop` meets its contract. Assumes nothing.
use mathlib.Core.Path.{ap, ◌∙◌}
use Prim.Native.Nat.{◌-◌}
use native.Mathlib.Omega.{arith}
use lib.Dec.{eqb}
use lib.ListN.{get_or}
use Rattle.rules.specs.Bytes.{byte}
use Rattle.rules.specs.Reference.{ends_in_stop, reference_protein}
use Rattle.rules.specs.Views.{reference_of}
use Rattle.reference.proofs.Reading.{codons-are}
use Rattle.parts.specs.Parts.{in_parts}
use Rattle.parts.proofs.Judged.{two-codons}
use Rattle.parts.proofs.late.ends_in_stop.Goals as goal

pub overflow_sub-last-3 : goal.overflow_sub-last-3
overflow_sub-last-3 c =
    let a = c.args in
    omega (arith, two-codons (in_parts a.a.now a.b.now a.c.now) a.cds a.e c.requires, codons-are (in_parts a.a.now a.b.now a.c.now) a.cds a.e c.requires)

pub residue_at-requires : goal.residue_at-requires
residue_at-requires c =
    let a = c.args in
    record { readable = c.requires; holds_code = c.residues_of-residues.ensures; k_bound = omega (arith, two-codons (in_parts a.a.now a.b.now a.c.now) a.cds a.e c.requires, codons-are (in_parts a.a.now a.b.now a.c.now) a.cds a.e c.requires) }

pub returns : goal.returns
unfolding ends_in_stop
returns c =
    let a = c.args in
    ap (λ r. eqb r (byte "*")) (c.residue_at.ensures ∙ ap (λ n. get_or (reference_protein (reference_of (in_parts a.a.now a.b.now a.c.now) a.cds a.e)) (n - 1) 0) (codons-are (in_parts a.a.now a.b.now a.c.now) a.cds a.e c.requires))
