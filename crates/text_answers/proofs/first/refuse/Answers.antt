-- `text_answers::first::refuse` meets its contract. Assumes nothing.
use native.Mathlib.Omega.{arith}
use Rattle.rules.specs.Refusals.{refusal_number}
use Rattle.text_prints.proofs.Sizes.{refused_size}
use Rattle.text_answers.proofs.first.refuse.Goals as goal

pub print_refusal-requires : goal.print_refusal-requires
print_refusal-requires c = omega (arith, refused_size (refusal_number c.args.refusal), c.requires)
