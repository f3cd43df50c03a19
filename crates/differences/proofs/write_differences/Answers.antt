-- `differences::write_differences` meets its contract. The invariant: so many of the list's bytes are written, and the others are those of the
-- differences from codon n on.
-- Assumes nothing.
use mathlib.Core.Path.{◌≡◌, refl, ap}
use mathlib.Core.Bool.{false}
use mathlib.Core.List.{List}
use Prim.Native.Nat.{ℕ, ◌+◌, ◌≤◌, ◌<◌}
use native.Mathlib.Omega.{arith}
use lib.ListN.{length, drop, length-take, length-drop}
use Rattle.rules.specs.Bytes.{each, over}
use Rattle.rules.specs.Editions.{is_equal_codon, difference_bytes}
use Rattle.alike.specs.declared.Edition.{Edition}
use Rattle.alike.specs.Reading.{edition_of}
use Rattle.skips.proofs.Walking.{four-more, bytes_left, written_on, length-on, all-written}
use Rattle.differences.proofs.write_differences.Invariants.{bytes_from}
use Rattle.differences.proofs.write_differences.Goals as goal

-- a turn writes four bytes, and they fit
four : (first : List ℕ) (r : Edition) (second : List ℕ) (s : Edition) (past n at : ℕ) (out old : List ℕ) → n < past → (n < past → is_equal_codon (edition_of first r) (edition_of second s) n ≡ false)
    → at ≤ length (bytes_from first r second s past 1) → drop at (bytes_from first r second s past 1) ≡ bytes_from first r second s past n → length out ≡ length old
    → length (bytes_from first r second s past 1) ≤ length old → at + 4 ≤ length out
four first r second s past n at out old inside differs within is same room =
    omega (arith, four-more (edition_of first r) (edition_of second s) past (bytes_from first r second s past 1) n at inside (differs inside) within is)

pub next_difference-n-requires : goal.next_difference-n-requires
next_difference-n-requires c =
    let pre = c.requires in
    record { reads = pre.reads; reads_2 = pre.reads_2; le_n = (omega arith, pre.le_past.0); past_bound = pre.le_past.1 }

pub loop-n-init : goal.loop-n-init
unfolding over
loop-n-init c =
    let x = c.next_difference-n.ensures in
    (x.from, x.within, x.differs, omega arith, ap (each difference_bytes) x.list, refl, refl)

pub slice_bounds-put_difference-count : goal.slice_bounds-put_difference-count
slice_bounds-put_difference-count c =
    let a = c.args in
    let v = c.loop-n in
    omega (arith, four a.first.now a.r a.second.now a.s a.past v.n v.at v.out a.out.now c.loop-n-test.true v.invariant.2 v.invariant.3 v.invariant.4 v.invariant.6 c.requires.past_in_bounds)

pub slice_bounds-put_difference-start : goal.slice_bounds-put_difference-start
slice_bounds-put_difference-start c =
    let a = c.args in
    let v = c.loop-n in
    omega (arith, four a.first.now a.r a.second.now a.s a.past v.n v.at v.out a.out.now c.loop-n-test.true v.invariant.2 v.invariant.3 v.invariant.4 v.invariant.6 c.requires.past_in_bounds)

pub put_difference-requires : goal.put_difference-requires
put_difference-requires c =
    let a = c.args in
    let v = c.loop-n in
    let pre = c.requires in
    let inside = c.loop-n-test.true in
    record {
      reads = pre.reads;
      reads_2 = pre.reads_2;
      le_n = (v.invariant.0, omega (arith, inside, pre.le_past.1));
      in_bounds = simp (length-take, length-drop) (omega (arith, four a.first.now a.r a.second.now a.s a.past v.n v.at v.out a.out.now inside v.invariant.2 v.invariant.3 v.invariant.4 v.invariant.6 pre.past_in_bounds));
    }

pub overflow_add-at : goal.overflow_add-at
overflow_add-at c =
    let a = c.args in
    let v = c.loop-n in
    omega (arith, four a.first.now a.r a.second.now a.s a.past v.n v.at v.out a.out.now c.loop-n-test.true v.invariant.2 v.invariant.3 v.invariant.4 v.invariant.6 c.requires.past_in_bounds)

pub overflow_add-n : goal.overflow_add-n
overflow_add-n c = omega arith

pub next_difference-n-requires-in-loop-n : goal.next_difference-n-requires-in-loop-n
next_difference-n-requires-in-loop-n c =
    let pre = c.requires in
    record { reads = pre.reads; reads_2 = pre.reads_2; le_n = (omega arith, omega (arith, c.loop-n-test.true)); past_bound = pre.le_past.1 }

pub loop-n-smaller : goal.loop-n-smaller
loop-n-smaller c =
    let x = c.next_difference-n-in-loop-n.ensures in
    omega (arith, x.from, x.within, c.loop-n-test.true)

pub loop-n-preserved : goal.loop-n-preserved
loop-n-preserved c =
    let a = c.args in
    let loop = c.loop-n in
    let inside = c.loop-n-test.true in
    let R = edition_of a.first.now a.r in
    let S = edition_of a.second.now a.s in
    let L = bytes_from a.first.now a.r a.second.now a.s a.past 1 in
    let next = c.next_difference-n-in-loop-n in
    let x = next.ensures in
    let put = c.put_difference in (
      omega (arith, x.from),
      x.within,
      x.differs,
      four-more R S a.past L loop.n loop.at inside (loop.invariant.2 inside) loop.invariant.3 loop.invariant.4,
      bytes_left R S a.past L loop.n loop.at inside (loop.invariant.2 inside) loop.invariant.3 loop.invariant.4 next.result x,
      written_on R S a.past L loop.n loop.at inside (loop.invariant.2 inside) loop.invariant.3 loop.invariant.4 a.out.now loop.out put.new.out c.requires.past_in_bounds loop.invariant.5 put.ensures,
      length-on R S a.past L loop.n loop.at inside (loop.invariant.2 inside) loop.invariant.3 loop.invariant.4 a.out.now loop.out put.new.out c.requires.past_in_bounds loop.invariant.5 put.ensures,
    )

pub returns : goal.returns
returns c =
    let a = c.args in
    let loop = c.loop-n in
    all-written (edition_of a.first.now a.r) (edition_of a.second.now a.s) a.past _ a.out.now loop.out loop.n loop.at c.loop-n-test.false loop.invariant.3 loop.invariant.4 loop.invariant.5
