-- `skips::pass_equal` meets its contract. Assumes nothing.
use Rattle.alike.specs.Reading.{edition_of}
use Rattle.skips.proofs.Walking.{passed}
use Rattle.skips.proofs.pass_equal.Goals as goal

pub returns : goal.returns
returns c =
    let a = c.args in
    let equal = c.equal_codons in
    passed (edition_of a.first.now a.r) (edition_of a.second.now a.s) a.past a.n equal.result c.min.result equal.ensures.are_equal c.requires.le_n.1 c.min.ensures
