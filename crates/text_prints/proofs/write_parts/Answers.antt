-- `text_prints::write_parts` meets its contract. Assumes nothing.
use mathlib.Core.List.{◌++◌}
use Rattle.rules.specs.Bytes.{bytes}
use Rattle.rules.specs.Run.{shown, shown_first}
use Rattle.text_prints.proofs.Puts.{three}
use Rattle.text_prints.proofs.write_parts.Goals as goal

pub returns : goal.returns
returns c =
    let args = c.args in
    let pre = c.requires in
    let write-spaced = c.write_spaced-n in
    let write-spaced2 = c.write_spaced in
    let write-first = c.write_first in
    let whole = three (bytes " " ++ shown args.deleted.now) (bytes " " ++ shown args.inserted.now) (shown_first args.first) args.out.now pre write-spaced.new.out write-spaced.result write-spaced.ensures.value write-spaced.ensures.out_after write-spaced2.new.out write-spaced2.result write-spaced2.ensures.value write-spaced2.ensures.out_after write-first.new.out write-first.result write-first.ensures.value write-first.ensures.out_after in
    record { value = whole.0; out_after = whole.1 }
