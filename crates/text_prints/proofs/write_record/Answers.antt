-- `text_prints::write_record` meets its contract. Assumes nothing.
use mathlib.Core.Path.{sym, ap}
use native.Mathlib.Omega.{arith}
use lib.ListN.{length}
use Rattle.rules.specs.Bytes.{bytes}
use Rattle.rules.specs.declared.Record.{Record}
use Rattle.rules.specs.Run.{change_line, record_line}
use Rattle.text_prints.specs.Words.{silent_line}
use Rattle.text_prints.proofs.Puts.{copied_whole, written_as}
use Rattle.text_prints.proofs.write_record.Goals as goal

pub copy-requires : goal.copy-requires
unfolding record_line
copy-requires c =
    let args = c.args in
    let pre = c.requires in
    omega (arith, ap (λ (x : Record). length (record_line x args.r.now args.a.now)) c.in-Unknown.is, pre)

pub copy-requires-in-NoProtein : goal.copy-requires-in-NoProtein
unfolding record_line
copy-requires-in-NoProtein c =
    let args = c.args in
    let pre = c.requires in
    omega (arith, ap (λ (x : Record). length (record_line x args.r.now args.a.now)) c.in-NoProtein.is, pre)

pub write_silent-requires : goal.write_silent-requires
unfolding record_line
write_silent-requires c =
    let args = c.args in
    let pre = c.requires in
    omega (arith, ap (λ (x : Record). length (record_line x args.r.now args.a.now)) c.in-Silent.is, pre)

pub write_change-requires : goal.write_change-requires
unfolding record_line
write_change-requires c =
    let args = c.args in
    let pre = c.requires in
    omega (arith, ap (λ (x : Record). length (record_line x args.r.now args.a.now)) c.in-Changed.is, pre)

pub returns-in-Unknown : goal.returns-in-Unknown
unfolding record_line
returns-in-Unknown c =
    let args = c.args in
    let copy = c.copy in
    let whole = copied_whole (bytes "unknown") (record_line args.found args.r.now args.a.now) args.out.now copy.new.dst copy.result (sym (ap (λ (x : Record). record_line x args.r.now args.a.now) c.in-Unknown.is)) copy.ensures.count copy.ensures.after in
    record { value = whole.0; out_after = whole.1 }

pub returns-in-NoProtein : goal.returns-in-NoProtein
unfolding record_line
returns-in-NoProtein c =
    let args = c.args in
    let copy2 = c.copy-in-NoProtein in
    let whole = copied_whole (bytes "no-protein") (record_line args.found args.r.now args.a.now) args.out.now copy2.new.dst copy2.result (sym (ap (λ (x : Record). record_line x args.r.now args.a.now) c.in-NoProtein.is)) copy2.ensures.count copy2.ensures.after in
    record { value = whole.0; out_after = whole.1 }

pub returns-in-Silent : goal.returns-in-Silent
unfolding record_line
returns-in-Silent c =
    let args = c.args in
    let write-silent = c.write_silent in
    let whole = written_as (silent_line c.in-Silent.number c.in-Silent.residue) (record_line args.found args.r.now args.a.now) args.out.now write-silent.new.out write-silent.result (ap (λ (x : Record). record_line x args.r.now args.a.now) c.in-Silent.is) (write-silent.ensures.value, write-silent.ensures.out_after) in
    record { value = whole.0; out_after = whole.1 }

pub returns-in-Changed : goal.returns-in-Changed
unfolding record_line
returns-in-Changed c =
    let args = c.args in
    let write-change = c.write_change in
    let whole = written_as (change_line c.in-Changed.c args.r.now args.a.now) (record_line args.found args.r.now args.a.now) args.out.now write-change.new.out write-change.result (ap (λ (x : Record). record_line x args.r.now args.a.now) c.in-Changed.is) (write-change.ensures.value, write-change.ensures.out_after) in
    record { value = whole.0; out_after = whole.1 }
