-- `text_verbs::starts_with` meets its contract. Assumes nothing.
use mathlib.Core.Path.{◌∙◌}
use Rattle.text_verbs.proofs.Verbs.{starts-pointwise}
use Rattle.text_verbs.proofs.starts_with.Goals as goal

pub returns : goal.returns
returns c = c.starts_with.ensures.value ∙ starts-pointwise _ _
