-- `storing::fields_of::write_tag` meets its contract: each arm writes the field that its tag holds.
use mathlib.Core.List.{[], ◌∷◌}
use lib.Dec.{ltb}
use native.Mathlib.Omega.{arith}
use lib.ListN.{length, take, drop}
use Rattle.rules.specs.Bytes.{each}
use Rattle.rules.specs.Translation.{exception_list}
use Rattle.rules.specs.Packed.{letters_by}
use Rattle.rules.specs.Storing.{exception_bytes, tagged}
use Rattle.rules.specs.Views.{reference_of}
use Rattle.storing_numbers.specs.Fields.{narrow_bounds, wide_bounds}
use Rattle.storing.specs.Forming.{end_field}
use Rattle.storing.proofs.Forms.{room_at, done_at, held-1, held-2, held-3, held-4, held-5, held-6, held-7, held-8, numbers, none_other}
use Rattle.storing.proofs.fields_of.write_tag.Goals as goal

pub write_letters-requires : goal.write_letters-requires
write_letters-requires c =
    let a = c.args in
    let r = reference_of (letters_by a.form a.letters.now) a.c a.e in
    let n = numbers (letters_by a.form a.letters.now) a.c a.e c.requires.clear in
    record { letters_value = n.letters; letters_in_bounds = room_at r a.tag 1 c.in-1.is (tagged 1 (take 65535 (drop 0 (letters_by a.form a.letters.now)))) (held-1 r) (length a.out.now) c.requires.e_in_bounds }

pub write_narrow-requires : goal.write_narrow-requires
write_narrow-requires c =
    let a = c.args in
    let size = c.size_of-long in
    let r = reference_of (letters_by a.form a.letters.now) a.c a.e in
    let n = numbers (letters_by a.form a.letters.now) a.c a.e c.requires.clear in
    record { cs_bound = n.narrow size.result size.ensures; c_in_bounds = room_at r a.tag 2 c.in-2.is (narrow_bounds (ltb 16384 size.result) a.c) (held-2 r size.result size.ensures) (length a.out.now) c.requires.e_in_bounds }

pub write_one-requires : goal.write_one-requires
write_one-requires c =
    let a = c.args in
    let r = reference_of (letters_by a.form a.letters.now) a.c a.e in
    let n = numbers (letters_by a.form a.letters.now) a.c a.e c.requires.clear in
    record { n_bound = n.table; n_in_bounds = room_at r a.tag 3 c.in-3.is (tagged 3 (a.c.table ∷ [])) (held-3 r) (length a.out.now) c.requires.e_in_bounds }

pub write_excepted-requires : goal.write_excepted-requires
write_excepted-requires c =
    let a = c.args in
    let r = reference_of (letters_by a.form a.letters.now) a.c a.e in
    let n = numbers (letters_by a.form a.letters.now) a.c a.e c.requires.clear in
    record { count_bound = (n.count, n.codons); e_in_bounds = room_at r a.tag 4 c.in-4.is (tagged 4 (each exception_bytes (exception_list a.e))) (held-4 r) (length a.out.now) c.requires.e_in_bounds }

pub write_letters-requires-in-5 : goal.write_letters-requires-in-5
write_letters-requires-in-5 c =
    let a = c.args in
    let r = reference_of (letters_by a.form a.letters.now) a.c a.e in
    let n = numbers (letters_by a.form a.letters.now) a.c a.e c.requires.clear in
    record { letters_value = n.letters; letters_in_bounds = room_at r a.tag 5 c.in-5.is (tagged 5 (take 65535 (drop 65535 (letters_by a.form a.letters.now)))) (held-5 r) (length a.out.now) c.requires.e_in_bounds }

pub write_letters-requires-in-6 : goal.write_letters-requires-in-6
write_letters-requires-in-6 c =
    let a = c.args in
    let r = reference_of (letters_by a.form a.letters.now) a.c a.e in
    let n = numbers (letters_by a.form a.letters.now) a.c a.e c.requires.clear in
    record { letters_value = n.letters; letters_in_bounds = room_at r a.tag 6 c.in-6.is (tagged 6 (take 65535 (drop 131070 (letters_by a.form a.letters.now)))) (held-6 r n.size) (length a.out.now) c.requires.e_in_bounds }

pub write_wide-requires : goal.write_wide-requires
write_wide-requires c =
    let a = c.args in
    let size = c.size_of-long in
    let r = reference_of (letters_by a.form a.letters.now) a.c a.e in
    let n = numbers (letters_by a.form a.letters.now) a.c a.e c.requires.clear in
    record { cs_bound = n.wide; c_in_bounds = room_at r a.tag 7 c.in-7.is (wide_bounds (ltb 16384 size.result) a.c) (held-7 r size.result size.ensures) (length a.out.now) c.requires.e_in_bounds }

pub write_end-requires : goal.write_end-requires
write_end-requires c =
    let a = c.args in
    let r = reference_of (letters_by a.form a.letters.now) a.c a.e in
    let n = numbers (letters_by a.form a.letters.now) a.c a.e c.requires.clear in
    record { end_bound = n.end; end_in_bounds = room_at r a.tag 8 (none_other a.tag c.requires.le_tag.0 c.requires.le_tag.1 (omega arith) (omega arith) (omega arith) (omega arith) (omega arith) (omega arith) (omega arith)) (end_field a.c.end) (held-8 r) (length a.out.now) c.requires.e_in_bounds }

pub returns-in-1 : goal.returns-in-1
returns-in-1 c =
    let a = c.args in
    let r = reference_of (letters_by a.form a.letters.now) a.c a.e in
    let w = c.write_letters in
    let whole = done_at r a.tag 1 c.in-1.is (tagged 1 (take 65535 (drop 0 (letters_by a.form a.letters.now)))) (held-1 r) w.result a.out.now w.new.out w.ensures.value w.ensures.out_after in
    record { value = whole.0; out_after = whole.1 }

pub returns-in-2 : goal.returns-in-2
returns-in-2 c =
    let a = c.args in
    let size = c.size_of-long in
    let r = reference_of (letters_by a.form a.letters.now) a.c a.e in
    let w = c.write_narrow in
    let whole = done_at r a.tag 2 c.in-2.is (narrow_bounds (ltb 16384 size.result) a.c) (held-2 r size.result size.ensures) w.result a.out.now w.new.out w.ensures.value w.ensures.out_after in
    record { value = whole.0; out_after = whole.1 }

pub returns-in-3 : goal.returns-in-3
returns-in-3 c =
    let a = c.args in
    let r = reference_of (letters_by a.form a.letters.now) a.c a.e in
    let w = c.write_one in
    let whole = done_at r a.tag 3 c.in-3.is (tagged 3 (a.c.table ∷ [])) (held-3 r) w.result a.out.now w.new.out w.ensures.value w.ensures.out_after in
    record { value = whole.0; out_after = whole.1 }

pub returns-in-4 : goal.returns-in-4
returns-in-4 c =
    let a = c.args in
    let r = reference_of (letters_by a.form a.letters.now) a.c a.e in
    let w = c.write_excepted in
    let whole = done_at r a.tag 4 c.in-4.is (tagged 4 (each exception_bytes (exception_list a.e))) (held-4 r) w.result a.out.now w.new.out w.ensures.value w.ensures.out_after in
    record { value = whole.0; out_after = whole.1 }

pub returns-in-5 : goal.returns-in-5
returns-in-5 c =
    let a = c.args in
    let r = reference_of (letters_by a.form a.letters.now) a.c a.e in
    let w = c.write_letters-in-5 in
    let whole = done_at r a.tag 5 c.in-5.is (tagged 5 (take 65535 (drop 65535 (letters_by a.form a.letters.now)))) (held-5 r) w.result a.out.now w.new.out w.ensures.value w.ensures.out_after in
    record { value = whole.0; out_after = whole.1 }

pub returns-in-6 : goal.returns-in-6
returns-in-6 c =
    let a = c.args in
    let r = reference_of (letters_by a.form a.letters.now) a.c a.e in
    let n = numbers (letters_by a.form a.letters.now) a.c a.e c.requires.clear in
    let w = c.write_letters-in-6 in
    let whole = done_at r a.tag 6 c.in-6.is (tagged 6 (take 65535 (drop 131070 (letters_by a.form a.letters.now)))) (held-6 r n.size) w.result a.out.now w.new.out w.ensures.value w.ensures.out_after in
    record { value = whole.0; out_after = whole.1 }

pub returns-in-7 : goal.returns-in-7
returns-in-7 c =
    let a = c.args in
    let size = c.size_of-long in
    let r = reference_of (letters_by a.form a.letters.now) a.c a.e in
    let w = c.write_wide in
    let whole = done_at r a.tag 7 c.in-7.is (wide_bounds (ltb 16384 size.result) a.c) (held-7 r size.result size.ensures) w.result a.out.now w.new.out w.ensures.value w.ensures.out_after in
    record { value = whole.0; out_after = whole.1 }

pub returns-in_default : goal.returns-in_default
returns-in_default c =
    let a = c.args in
    let r = reference_of (letters_by a.form a.letters.now) a.c a.e in
    let w = c.write_end in
    let whole = done_at r a.tag 8 (none_other a.tag c.requires.le_tag.0 c.requires.le_tag.1 (omega arith) (omega arith) (omega arith) (omega arith) (omega arith) (omega arith) (omega arith)) (end_field a.c.end) (held-8 r) w.result a.out.now w.new.out w.ensures.value w.ensures.out_after in
    record { value = whole.0; out_after = whole.1 }
