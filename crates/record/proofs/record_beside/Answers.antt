-- `record::record_beside` meets its contract.
-- Assumes nothing.
use native.Mathlib.Omega.{arith}
use Rattle.shares.proofs.Shared.{prefix_fits, ending_fits, shares_last}
use Rattle.changes.proofs.Laws.{is-empty, is-silent, is-changed}
use Rattle.record.proofs.record_beside.Goals as goal

pub returns-then-a-eq0 : goal.returns-then-a-eq0
returns-then-a-eq0 c = let args = c.args in
    is-empty args.flag args.number args.r.now args.a.now c.if-a-eq0.true

pub returns-then-s-r : goal.returns-then-s-r
returns-then-s-r c = let args = c.args in
    let prefix = c.beginning_of-s in
    let residue = c.byte_at-residue in
    is-silent args.flag args.number args.r.now args.a.now prefix.result residue.result
    c.if-a-eq0.false prefix.ensures c.if-s-r.true residue.ensures

pub ending_of-n-requires : goal.ending_of-n-requires
ending_of-n-requires c = let args = c.args in
    let prefix = c.beginning_of-s in
    record { s_in_bounds = prefix_fits prefix.result args.r.now args.a.now prefix.ensures; shares = shares_last args.ahead args.behind args.r.now args.a.now c.requires.shares }

pub change_at-requires : goal.change_at-requires
change_at-requires c = let args = c.args in
    let prefix = c.beginning_of-s in
    let ending = c.ending_of-n in
    let fits = ending_fits _ prefix.result ending.result args.r.now args.a.now prefix.ensures ending.ensures in
    (omega arith, omega arith)

pub returns : goal.returns
returns c = let args = c.args in
    let prefix = c.beginning_of-s in
    let ending = c.ending_of-n in
    let change = c.change_at in
    is-changed args.flag args.number args.r.now args.a.now prefix.result ending.result change.result
    c.if-a-eq0.false prefix.ensures c.if-s-r.false ending.ensures change.ensures
