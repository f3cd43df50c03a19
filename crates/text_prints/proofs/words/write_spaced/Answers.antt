-- `text_prints::words::write_spaced` meets its contract. Assumes nothing.
use mathlib.Core.Path.{refl, sym, ap, ◌∙◌}
use mathlib.Core.List.{List, ◌++◌}
use Prim.Native.Nat.{ℕ, ◌-◌}
use native.Mathlib.Omega.{arith}
use lib.ListN.{length, take, drop}
use Rattle.rules.specs.Bytes.{bytes}
use Rattle.rules.specs.Run.{shown}
use Rattle.rules.proofs.Over.{copied, copied_as, room-behind, written_behind}
use Rattle.text_prints.proofs.Shown.{shown_none, shown_some}
use Rattle.text_prints.proofs.words.write_spaced.Goals as goal

pub copy-requires : goal.copy-requires
copy-requires c =
    let args = c.args in
    let pre = c.requires in
    let if1 = c.if-residues-eq0 in
    omega (arith, ap length (shown_none args.residues.now if1.true), pre)

pub returns-then-residues-eq0 : goal.returns-then-residues-eq0
returns-then-residues-eq0 c =
    let args = c.args in
    let if1 = c.if-residues-eq0 in
    let copy = c.copy in
    let is = ap (λ (l : List ℕ). bytes " " ++ l) (sym (shown_none args.residues.now if1.true)) in
    record { value = copy.ensures.count ∙ ap length is; out_after = copied_as (bytes " -") (bytes " " ++ shown args.residues.now) args.out.now copy.new.dst is copy.ensures.after }

pub copy-requires-2 : goal.copy-requires-2
copy-requires-2 c =
    let args = c.args in
    let pre = c.requires in
    let if1 = c.if-residues-eq0 in
    let copy2 = c.copy-k in
    let is = shown_some args.residues.now if1.false in
    room-behind (bytes " ") args.residues.now args.out.now copy2.new.dst copy2.result copy2.ensures.count (omega (arith, ap length is, pre)) (copied_as (bytes " ") (bytes " ") args.out.now copy2.new.dst refl copy2.ensures.after)

pub returns : goal.returns
returns c =
    let args = c.args in
    let pre = c.requires in
    let if1 = c.if-residues-eq0 in
    let copy2 = c.copy-k in
    let copy3 = c.copy-2 in
    let is = shown_some args.residues.now if1.false in
    let both = written_behind (bytes " ") args.residues.now args.out.now copy2.new.dst copy2.result copy2.ensures.count (omega (arith, ap length is, pre)) (copied_as (bytes " ") (bytes " ") args.out.now copy2.new.dst refl copy2.ensures.after) copy3.new.dst copy3.result copy3.ensures.count
    (copy3.ensures.after ∙ copied args.residues.now (take (length copy2.new.dst - copy2.result) (drop copy2.result copy2.new.dst))) in
    record { value = rw is both.0; out_after = rw is both.1 }
