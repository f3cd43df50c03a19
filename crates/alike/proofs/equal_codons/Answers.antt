-- `alike::equal_codons` meets its contract. Assumes nothing.
use native.Mathlib.Omega.{arith}
use borrow.Author.Tests.{not-false}
use Rattle.rules.specs.Altered.{part}
use Rattle.alike.specs.Reading.{edition_of}
use Rattle.alike.proofs.Shared.{none_equal, ends-within, are-letters, equal-run, run_small}
use mathlib.Core.Path.{ap}
use mathlib.Core.Bool.{not}
use Rattle.alike.proofs.equal_codons.Goals as goal

pub returns-then-not-are_alike : goal.returns-then-not-are_alike
returns-then-not-are_alike c =
    let a = c.args in
    record { are_equal = none_equal (edition_of a.first.now a.r) (edition_of a.second.now a.s) a.n; few = omega arith }

pub returns-then-c-k : goal.returns-then-c-k
returns-then-c-k c =
    let a = c.args in
    record { are_equal = none_equal (edition_of a.first.now a.r) (edition_of a.second.now a.s) a.n; few = omega arith }

pub returns-then-d-k : goal.returns-then-d-k
returns-then-d-k c =
    let a = c.args in
    record { are_equal = none_equal (edition_of a.first.now a.r) (edition_of a.second.now a.s) a.n; few = omega arith }

pub slice_bounds-prefix_by-end : goal.slice_bounds-prefix_by-end
slice_bounds-prefix_by-end c =
    let alike = c.are_alike.ensures (not-false _ (ap not c.if-not-are_alike.false)) in
    omega (arith, ends-within c.args.second.now c.args.s c.requires.fits_2 alike.also)

pub prefix_by-requires : goal.prefix_by-requires
prefix_by-requires c =
    let alike = c.are_alike.ensures (not-false _ (ap not c.if-not-are_alike.false)) in
    record {
      letters = are-letters c.args.first.now c.args.r c.requires.fits alike.bytes;
      rising = omega (arith, c.if-c-k.false);
      ends = ends-within c.args.first.now c.args.r c.requires.fits alike.bytes;
    }

pub returns : goal.returns
unfolding part
returns c =
    let a = c.args in
    let alike = c.are_alike.ensures (not-false _ (ap not c.if-not-are_alike.false)) in
    let inside = c.if-c-k.false in
    let within = c.if-d-k.false in
    let prefix = c.prefix_by in
    record { are_equal = equal-run a.first.now a.second.now a.r a.s c.requires.fits c.requires.fits_2 alike a.n prefix.result c.requires.le_n.0 inside within prefix.ensures; few = run_small a.first.now a.second.now a.r a.s c.requires.fits c.requires.fits_2 alike a.n prefix.result c.requires.le_n.0 inside within prefix.ensures }
