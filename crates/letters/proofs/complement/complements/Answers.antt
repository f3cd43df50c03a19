-- `letters::complement::complements` meets its contract: the table lists the complements, which antt computes. Assumes nothing.
use Rattle.rules.specs.Complement.{partner_in, complement}
use Rattle.letters.proofs.Partners.{holds_complements}
use Rattle.letters.proofs.complement.complements.Goals as goal

pub returns : goal.returns
unfolding partner_in complement
returns c = holds_complements
