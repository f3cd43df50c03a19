-- `record_over::change_over` meets its contract.
-- Assumes nothing.
use native.Mathlib.Omega.{arith}
use Rattle.changes.proofs.Laws.{copied_if}
use Rattle.record_over.proofs.Seen.{change_seen}
use Rattle.record_over.proofs.change_over.Goals as goal

pub first_copied-first-requires : goal.first_copied-first-requires
first_copied-first-requires c = λ is.
    let before = copied_if _ _ _ _ _ _ _ _ _ c.is_copy_of-copy.ensures c.class_of-class.ensures is in
    omega arith

pub returns : goal.returns
returns c = λ A n d.
    let args = c.args in
    change_seen args.flag args.head args.s n args.r.now A args.inserted.now args.deleted args.altered d
    c.is_copy_of-copy.result c.byte_at.result c.class_of-class.result c.first_copied-first.result
    c.is_copy_of-copy.ensures c.byte_at.ensures c.class_of-class.ensures c.first_copied-first.ensures
