-- `storing_exceptions::write_exceptions` meets its contract. The loop's invariant: the first i stand in the buffer's first bytes.
use mathlib.Core.Path.{◌≡◌, refl, sym, ap, ◌∙◌, subst}
use mathlib.Core.List.{List}
use Prim.Native.Nat.{ℕ, ◌<◌}
use native.Mathlib.Omega.{arith}
use borrow.Author.Rules.{rules}
use lib.ListN.{length, get_or}
use Rattle.rules.specs.declared.Exception.{Exception}
use Rattle.rules.specs.Bytes.{each, over}
use Rattle.rules.specs.Translation.{no_exception, exception_list}
use Rattle.rules.proofs.Translation.{length_exceptions}
use Rattle.storing_exceptions.proofs.Rows.{length-bytes, next_start, next-room, next_fits, next-done, listed-all, held_one}
use Rattle.storing_exceptions.proofs.write_exceptions.Goals as goal

pub loop-i-init : goal.loop-i-init
unfolding each over
loop-i-init c =
    let a = c.args in
    let long : length a.e.all ≡ 16 = omega arith in
    (refl, refl, long)

pub slice_bounds-write_exception-count : goal.slice_bounds-write_exception-count
slice_bounds-write_exception-count c =
    let v = c.loop-i in
    next_start c.args.e c.args.out.now c.requires.count_in_bounds v.i v.at v.out (omega arith) v.invariant.0 v.invariant.1

pub slice_bounds-write_exception-start : goal.slice_bounds-write_exception-start
slice_bounds-write_exception-start c =
    let v = c.loop-i in
    next_start c.args.e c.args.out.now c.requires.count_in_bounds v.i v.at v.out (omega arith) v.invariant.0 v.invariant.1

pub write_exception-at-requires : goal.write_exception-at-requires
write_exception-at-requires c =
    let v = c.loop-i in
    let same = held_one c.args.e v.i v.invariant.2 c.requires.count_bound.0 (omega arith) in
    record { codon_bound = subst (λ (x : Exception). x.codon < 65536) (sym same) (c.requires.count_bound.1 v.i (omega arith)); in_bounds = next-room c.args.e c.args.out.now c.requires.count_in_bounds v.i v.at v.out (omega arith) v.invariant.0 v.invariant.1 }

pub overflow_add-at : goal.overflow_add-at
overflow_add-at c =
    let v = c.loop-i in
    let fits = next_fits c.args.e c.args.out.now c.requires.count_in_bounds v.i v.at v.out (omega arith) v.invariant.0 v.invariant.1 c.write_exception-at.result c.write_exception-at.ensures.value in
    search rules

pub loop-i-preserved : goal.loop-i-preserved
loop-i-preserved c =
    let v = c.loop-i in
    let w = c.write_exception-at in
    let same = held_one c.args.e v.i v.invariant.2 c.requires.count_bound.0 (omega arith) in
    let done = next-done c.args.e c.args.out.now c.requires.count_in_bounds v.i v.at v.out (omega arith) v.invariant.0 v.invariant.1 (get_or c.args.e.all v.i no_exception) w.new.out w.result same w.ensures.value w.ensures.out_after in
    (done.0, done.1, v.invariant.2)

pub returns : goal.returns
returns c =
    let v = c.loop-i in
    let all = listed-all c.args.e c.args.out.now c.requires.count_in_bounds v.i (omega arith) in
    record { value = omega (arith, v.invariant.0, ap length all, length-bytes (exception_list c.args.e), length_exceptions c.args.e); out_after = v.invariant.1 ∙ ap (λ (l : List ℕ). over l c.args.out.now) all }
