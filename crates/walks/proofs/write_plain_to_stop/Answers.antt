-- `translation::write_plain_to_stop` meets its contract. The invariant: writing what is left gives the protein, and i codons were
-- looked up.
-- Assumes nothing.
use mathlib.Core.Path.{◌≡◌, refl}
use mathlib.Core.List.{[]}
use mathlib.Core.Bool.{true}
use Rattle.places.specs.Places.{fold_to_bases}
use Prim.Native.Nat.{◌+◌, ◌-◌, ◌*◌}
use native.Mathlib.Omega.{arith}
use borrow.Author.Rules.{rules}
use lib.ListN.{length, take, drop, length-set}
use Rattle.rules.specs.Translation.{residue_count}
use Rattle.rules.proofs.Over.{tail-is}
use Rattle.places.proofs.Residues.{bases-part}
use Rattle.walks.proofs.Walks.{walk_start, walk-on, length-on, listed_none}
use Rattle.walks.proofs.PlainWalks.{place-more, place-stop}
use Rattle.walks.proofs.write_plain_to_stop.Goals as goal

pub loop-i-init : goal.loop-i-init
loop-i-init c = let args = c.args in
    (search rules, walk_start args.table [] args.seq.now args.out.now, refl)

pub write_to_stop-ended-requires-clause-reads : goal.write_to_stop-ended-requires-clause-reads
write_to_stop-ended-requires-clause-reads c = let args = c.args in
    let bases : fold_to_bases (take (length args.seq.now - c.loop-i.i * 3) (drop (c.loop-i.i * 3) args.seq.now)) ≡ true = rw (tail-is (c.loop-i.i * 3) args.seq.now) (bases-part args.seq.now c.loop-i.i c.loop-i.invariant.0 c.requires.seq_value) in
    search (rules, bases)

pub write_to_stop-ended-requires-clause-bounds : goal.write_to_stop-ended-requires-clause-bounds
unfolding residue_count
write_to_stop-ended-requires-clause-bounds c = (omega arith, omega (arith, length-on (c.loop-i.i * 3) c.args.seq.now), omega (arith, length-on (c.loop-i.i * 3) c.args.seq.now, length-on c.loop-i.i c.loop-i.out, c.loop-i.invariant.1.same, c.requires.seq_in_bounds))

pub overflow_add-result-2 : goal.overflow_add-result-2
overflow_add-result-2 c = omega (arith, length-on (c.loop-i.i * 3) c.args.seq.now)

pub bounds-out-i : goal.bounds-out-i
unfolding residue_count
bounds-out-i c = omega (arith, c.loop-i.invariant.1.same, c.requires.seq_in_bounds)

pub bounds-out-i-in-loop-i : goal.bounds-out-i-in-loop-i
unfolding residue_count
bounds-out-i-in-loop-i c = simp length-set (omega (arith, c.loop-i.invariant.1.same, c.requires.seq_in_bounds))

pub loop-i-preserved : goal.loop-i-preserved
loop-i-preserved c = let args = c.args in
    let loop = c.loop-i in
    let pre = c.requires in
    let pair-at = c.pair_at-pair in
    let two : loop.i + 2 ≡ loop.i + 1 + 1 = omega arith in
    let w = place-more args.table args.code.now args.seq.now pre.holds_plain pre.seq_value _ args.out.now pre.seq_in_bounds loop.out loop.i _ loop.invariant.1 (omega arith) pair-at.ensures.result_value c.if-r-eq42.false in
    (search rules, rw two (place-more args.table args.code.now args.seq.now pre.holds_plain pre.seq_value _ args.out.now pre.seq_in_bounds _ (loop.i + 1) _ w (omega arith) pair-at.ensures.second c.if-next-eq42.false), omega (arith, loop.invariant.2))

pub returns-clause-walked_to : goal.returns-clause-walked_to
unfolding residue_count
returns-clause-walked_to c = let args = c.args in
    let loop = c.loop-i in
    let ended = c.write_to_stop-ended in
    let walked = rw (listed_none args.e c.requires.no_exceptions) at ended.ensures.walked_to args.table (take (length args.seq.now - loop.i * 3) (drop (loop.i * 3) args.seq.now)) (record { many = refl; each = λ k r h called. search rules }) in
    walk-on args.table args.seq.now _ args.out.now loop.out loop.i loop.invariant.1 loop.invariant.0 (omega (arith, loop.invariant.1.same, c.requires.seq_in_bounds)) _ ended.result.stop walked

pub returns-then-r-eq42-clause-walked_to : goal.returns-then-r-eq42-clause-walked_to
returns-then-r-eq42-clause-walked_to c = let args = c.args in
    let loop = c.loop-i in
    let pre = c.requires in
    place-stop args.table args.code.now args.seq.now pre.holds_plain pre.seq_value _ args.out.now pre.seq_in_bounds loop.out loop.i _ loop.invariant.1 (omega arith) c.pair_at-pair.ensures.result_value c.if-r-eq42.true

pub returns-then-next-eq42-clause-walked_to : goal.returns-then-next-eq42-clause-walked_to
returns-then-next-eq42-clause-walked_to c = let args = c.args in
    let loop = c.loop-i in
    let pre = c.requires in
    let pair-at = c.pair_at-pair in
    let w = place-more args.table args.code.now args.seq.now pre.holds_plain pre.seq_value _ args.out.now pre.seq_in_bounds loop.out loop.i _ loop.invariant.1 (omega arith) pair-at.ensures.result_value c.if-r-eq42.false in
    place-stop args.table args.code.now args.seq.now pre.holds_plain pre.seq_value _ args.out.now pre.seq_in_bounds _ (loop.i + 1) _ w (omega arith) pair-at.ensures.second c.if-next-eq42.true

pub slice_bounds-write_to_stop-count : goal.slice_bounds-write_to_stop-count
unfolding residue_count
slice_bounds-write_to_stop-count c = omega (arith, c.loop-i.invariant.1.same, c.requires.seq_in_bounds)

pub slice_bounds-write_to_stop-start : goal.slice_bounds-write_to_stop-start
unfolding residue_count
slice_bounds-write_to_stop-start c = omega (arith, c.loop-i.invariant.1.same, c.requires.seq_in_bounds)
