-- `parts::late::pass_codons` meets its contract. Assumes nothing.
use native.Mathlib.Omega.{arith}
use Rattle.reference.proofs.Reading.{few-exceptions, codons-are}
use Rattle.parts.specs.Parts.{in_parts}
use Rattle.parts.proofs.Places.{codon-within}
use Rattle.parts.proofs.Passing.{codons-small, next-within, stopless-passes}
use Rattle.parts.proofs.late.pass_codons.Goals as goal

pub overflow_add-k : goal.overflow_add-k
overflow_add-k c =
    let a = c.args in
    omega (arith, codons-small (in_parts a.a.now a.b.now a.c.now) a.cds a.e c.requires.readable, c.requires.k_bound)

pub next_exception-next-requires : goal.next_exception-next-requires
next_exception-next-requires c =
    let a = c.args in
    few-exceptions (in_parts a.a.now a.b.now a.c.now) a.cds a.e c.requires.readable

pub overflow_mul-at : goal.overflow_mul-at
overflow_mul-at c =
    let a = c.args in
    omega (arith, codon-within (in_parts a.a.now a.b.now a.c.now) a.cds a.e c.requires.readable a.k c.requires.k_bound)

pub overflow_add-at : goal.overflow_add-at
overflow_add-at c =
    let a = c.args in
    omega (arith, codon-within (in_parts a.a.now a.b.now a.c.now) a.cds a.e c.requires.readable a.k c.requires.k_bound)

pub overflow_sub-next : goal.overflow_sub-next
overflow_sub-next c =
    let a = c.args in
    omega (arith, next-within (in_parts a.a.now a.b.now a.c.now) a.cds a.e c.requires.readable a.k _ c.next_exception-next.result c.requires.k_bound (codons-are (in_parts a.a.now a.b.now a.c.now) a.cds a.e c.requires.readable) c.next_exception-next.ensures)

pub overflow_sub-next-2 : goal.overflow_sub-next-2
overflow_sub-next-2 c =
    let a = c.args in
    omega (arith, next-within (in_parts a.a.now a.b.now a.c.now) a.cds a.e c.requires.readable a.k _ c.next_exception-next.result c.requires.k_bound (codons-are (in_parts a.a.now a.b.now a.c.now) a.cds a.e c.requires.readable) c.next_exception-next.ensures)

pub stopless_at-requires : goal.stopless_at-requires
stopless_at-requires c =
    let a = c.args in
    record { holds_sets = c.requires.holds_sets; holds_code = c.requires.holds_code; c_value = c.requires.readable.sound.letters; at_in_bounds = omega (arith, codon-within (in_parts a.a.now a.b.now a.c.now) a.cds a.e c.requires.readable a.k c.requires.k_bound) }

pub returns : goal.returns
returns c =
    let a = c.args in
    stopless-passes (in_parts a.a.now a.b.now a.c.now) a.cds a.e c.requires.readable a.k _ c.next_exception-next.result c.requires.k_bound (codons-are (in_parts a.a.now a.b.now a.c.now) a.cds a.e c.requires.readable) c.next_exception-next.ensures c.stopless_at.result c.stopless_at.ensures.few c.stopless_at.ensures.stopless
