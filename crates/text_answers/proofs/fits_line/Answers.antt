-- `text_answers::fits_line` meets its contract. Assumes nothing.
use mathlib.Core.Path.{refl}
use Rattle.rules.specs.Line.{fits_line}
use Rattle.text_answers.proofs.fits_line.Goals as goal

pub returns : goal.returns
unfolding fits_line
returns c = refl
