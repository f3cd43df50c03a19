-- `pairs::pair_altseq` meets its contract. Assumes nothing.
use mathlib.Core.Path.{ap}
use Rattle.rules.specs.declared.Form.{Form}
use Rattle.rules.specs.Packed.{letters_by}
use Rattle.rules.specs.Refusal.{limits}
use Rattle.rules.specs.Views.{asked}
use Rattle.pairs.specs.Carrying.{pair_room_of}
use Rattle.pairs.proofs.Answering.{refused-reference, form-at, cds-at, is_known, good, accepts, pairs-cds}
use Rattle.reference.proofs.Judging.{exit-told}
use Rattle.pairs.proofs.pair_altseq.Goals as goal

pub returns-in_err-known : goal.returns-in_err-known
returns-in_err-known c =
    let a = c.args in
    rw (exit-told _ _ c.from_residual.ensures.1)
    (refused-reference a.asks.form (letters_by a.asks.form a.letters.now) a.asks.cds a.asks.e (asked a.asks.first a.new.now) (asked a.asks.second a.other.now) _ a.transcript.now a.altered.now c.in_err-known.ensures)

pub answer_pair-requires : goal.answer_pair-requires
answer_pair-requires c =
    let a = c.args in
    let s = letters_by a.asks.form a.letters.now in
    let h = c.in_ok-known.ensures in
    let same = ap (λ (f : Form). letters_by f a.letters.now) (form-at a.asks.form s a.asks.cds a.asks.e _ h) in
    rw same (accepts a.asks.form s a.asks.cds a.asks.e _ h)

pub returns : goal.returns
returns c =
    let a = c.args in
    let s = letters_by a.asks.form a.letters.now in
    let k = c.in_ok-known.known in
    let h = c.in_ok-known.ensures in
    let same = ap (λ (f : Form). letters_by f a.letters.now) (form-at a.asks.form s a.asks.cds a.asks.e k h) in
    pairs-cds s k.cds a.asks.cds a.asks.e (asked a.asks.first a.new.now) (asked a.asks.second a.other.now) (pair_room_of a.transcript.now a.altered.now) _ a.transcript.now _ a.altered.now _ (cds-at a.asks.form s a.asks.cds a.asks.e k h)
    ((rw same at c.answer_pair.ensures) limits.longest a.asks.e (is_known a.asks.form s a.asks.cds a.asks.e k h) (good a.asks.form s a.asks.cds a.asks.e k h))
