-- `text_run::run` meets its contract. Assumes nothing.
use borrow.Author.Rules.{rules}
use Rattle.text_run.proofs.Counting.{leaves_all, has_room, holds-run}
use Rattle.text_run.proofs.run.Goals as goal

pub returns-in_err-size : goal.returns-in_err-size
returns-in_err-size c =
    let e = c.in_err-size.ensures in
    let kept = leaves_all c.args.input.now c.args.out.now _ c.in_err-size.ensures in
    record { value = search rules; out_after = search rules }

pub write_run-requires : goal.write_run-requires
write_run-requires c = has_room c.args.input.now c.args.out.now _ c.in_ok-size.ensures

pub returns : goal.returns
returns c = record { value = c.in_ok-size.ensures; out_after = holds-run c.args.input.now c.args.out.now _ c.in_ok-size.ensures _ c.write_run.ensures }
