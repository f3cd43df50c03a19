-- `storing::fields_of::write_letters` meets its contract: the letters go into the part of the buffer that is lent on behind their head.
use Prim.Native.Nat.{◌<◌}
use native.Mathlib.Omega.{arith}
use lib.ListN.{take, drop}
use Rattle.rules.specs.Packed.{letters_by}
use Rattle.storing_numbers.proofs.Fields.{nothing}
use Rattle.storing.proofs.Forms.{no-letters, head-room, within, head-fits, letters-room, letters-done}
use Rattle.storing.proofs.fields_of.write_letters.Goals as goal

pub returns-then-size-from : goal.returns-then-size-from
returns-then-size-from c =
    let a = c.args in
    let s = letters_by a.form a.letters.now in
    let whole = nothing a.tag (take 65535 (drop a.from s)) a.out.now (no-letters 65535 a.from s (omega (arith, c.size_of-size.ensures))) in
    record { value = whole.0; out_after = whole.1 }

pub write_head-head-requires : goal.write_head-head-requires
write_head-head-requires c =
    let a = c.args in
    let s = letters_by a.form a.letters.now in
    let size = c.size_of-size in
    let least = c.min-len in
    let there : a.from < size.result = omega arith in
    let whole = head-room a.tag a.from size.result least.result s a.out.now size.ensures there least.ensures c.requires.letters_in_bounds in
    record { len_bound = whole.0; in_bounds = whole.1 }

pub slice_bounds-copy_letters-count : goal.slice_bounds-copy_letters-count
slice_bounds-copy_letters-count c =
    let a = c.args in
    let s = letters_by a.form a.letters.now in
    let size = c.size_of-size in
    let least = c.min-len in
    let there : a.from < size.result = omega arith in
    let head = c.write_head-head in
    head-fits a.tag a.from size.result least.result s a.out.now size.ensures there least.ensures c.requires.letters_in_bounds head.result head.new.out head.ensures.value head.ensures.out_after

pub slice_bounds-copy_letters-start : goal.slice_bounds-copy_letters-start
slice_bounds-copy_letters-start c =
    let a = c.args in
    let s = letters_by a.form a.letters.now in
    let size = c.size_of-size in
    let least = c.min-len in
    let there : a.from < size.result = omega arith in
    let head = c.write_head-head in
    head-fits a.tag a.from size.result least.result s a.out.now size.ensures there least.ensures c.requires.letters_in_bounds head.result head.new.out head.ensures.value head.ensures.out_after

pub copy_letters-requires : goal.copy_letters-requires
copy_letters-requires c =
    let a = c.args in
    let s = letters_by a.form a.letters.now in
    let size = c.size_of-size in
    let least = c.min-len in
    let there : a.from < size.result = omega arith in
    let head = c.write_head-head in
    record { in_letters = record { letters = c.requires.letters_value; rising = omega arith; ends = within a.tag a.from size.result least.result s a.out.now size.ensures there least.ensures c.requires.letters_in_bounds }; from_in_bounds = letters-room a.tag a.from size.result least.result s a.out.now size.ensures there least.ensures c.requires.letters_in_bounds head.result head.new.out head.ensures.value head.ensures.out_after }

pub returns : goal.returns
returns c =
    let a = c.args in
    let s = letters_by a.form a.letters.now in
    let size = c.size_of-size in
    let least = c.min-len in
    let there : a.from < size.result = omega arith in
    let head = c.write_head-head in
    let copied = c.copy_letters in
    let whole = letters-done a.tag a.from size.result least.result s a.out.now size.ensures there least.ensures c.requires.letters_in_bounds head.result head.new.out head.ensures.value head.ensures.out_after copied.new.out copied.ensures in
    record { value = whole.0; out_after = whole.1 }
