use Rattle.text_lines.specs.Memory.{Keeps}
use Rattle.annotate.proofs.run_reads.Given as goal

abbrev pub invariant-loop : goal.invariant-loop
invariant-loop l = Keeps l.state l.letters l.protein
