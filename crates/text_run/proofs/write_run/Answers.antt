-- `text_run::write_run` meets its contract. Assumes nothing.
use Rattle.text_run.proofs.Counting.{used-fits, written-run}
use Rattle.text_run.proofs.write_run.Goals as goal

pub slice_bounds-finish-count : goal.slice_bounds-finish-count
slice_bounds-finish-count c = used-fits _ _ _ _ _ c.write_lines-stepped.ensures.wrote

pub slice_bounds-finish-start : goal.slice_bounds-finish-start
slice_bounds-finish-start c = used-fits _ _ _ _ _ c.write_lines-stepped.ensures.wrote

pub returns : goal.returns
returns c = written-run _ _ _ _ _ c.write_lines-stepped.ensures.wrote _ c.finish.ensures.out_after
