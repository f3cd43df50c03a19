-- `proposals::is_proposal` meets its contract.
use Rattle.rules.specs.Check.{is_proposal}
use Rattle.proposals.proofs.is_proposal.Goals as goal

pub returns : goal.returns
unfolding is_proposal
returns c = λ R h. rw (h, c.is_number.ensures, c.are_residues.ensures, c.are_residues-2.ensures)
