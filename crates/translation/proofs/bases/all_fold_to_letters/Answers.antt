-- `translation::all_fold_to_letters` meets its contract. Assumes nothing.
use Rattle.std.proofs.Common.{ℕ, sym, ◌∙◌, rules}
use Rattle.rules.specs.Letters.{is_letter, folded}
use Rattle.rules.proofs.Lists.{all_map}
use Rattle.translation.proofs.bases.all_fold_to_letters.Goals as goal

pub returns : goal.returns
returns c = c.few_pass.ensures (λ (b : ℕ). is_letter (folded b)) (search rules) ∙ sym (all_map is_letter folded c.args.s.now)
