-- `storing_exceptions::write_excepted` meets its contract. Assumes nothing.
use mathlib.Core.Path.{◌≡◌}
use native.Mathlib.Omega.{arith}
use lib.ListN.{length, take}
use Rattle.rules.specs.Bytes.{each}
use Rattle.rules.specs.Translation.{exception_list}
use Rattle.rules.specs.Storing.{exception_bytes}
use Rattle.rules.proofs.Translation.{length_exceptions}
use Rattle.rules.proofs.Over.{read_back}
use Rattle.storing_numbers.proofs.Fields.{nothing, a_field, room_for}
use Rattle.storing_exceptions.proofs.Rows.{length-bytes}
use Rattle.storing_exceptions.proofs.write_excepted.Goals as goal

pub returns-then-e-eq0 : goal.returns-then-e-eq0
returns-then-e-eq0 c =
    let a = c.args in
    let whole = nothing 4 (each exception_bytes (exception_list a.e)) a.out.now (omega (arith, length-bytes (exception_list a.e), length_exceptions a.e)) in
    record { value = whole.0; out_after = whole.1 }

pub write_field-requires : goal.write_field-requires
write_field-requires c =
    let a = c.args in
    let w = c.write_exceptions-len in
    let all = each exception_bytes (exception_list a.e) in
    let sized = length-bytes (exception_list a.e) in
    let counted = length_exceptions a.e in
    let many : w.result ≡ length all = omega (arith, w.ensures.value, sized, counted) in
    let whole = room_for 4 all (take w.result w.new.out) (length a.out.now) (read_back all _ w.new.out w.result many w.ensures.out_after) (omega (arith, sized, counted)) (omega (arith, sized, counted, c.requires.count_bound.0)) c.requires.e_in_bounds in
    record { content_len_bound = whole.0; content_in_bounds = whole.1 }

pub returns : goal.returns
returns c =
    let a = c.args in
    let w = c.write_exceptions-len in
    let f = c.write_field in
    let all = each exception_bytes (exception_list a.e) in
    let sized = length-bytes (exception_list a.e) in
    let counted = length_exceptions a.e in
    let many : w.result ≡ length all = omega (arith, w.ensures.value, sized, counted) in
    let whole = a_field 4 all (take w.result w.new.out) a.out.now f.new.out f.result (read_back all _ w.new.out w.result many w.ensures.out_after) (omega (arith, sized, counted)) f.ensures.value f.ensures.out_after in
    record { value = whole.0; out_after = whole.1 }
