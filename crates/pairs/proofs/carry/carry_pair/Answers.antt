-- `pairs::carry::carry_pair` meets its contract. Assumes nothing.
use mathlib.Core.Path.{◌≡◌, sym, ap, ◌∙◌}
use Prim.Native.Nat.{ℕ, ◌+◌, ◌-◌}
use native.Mathlib.Omega.{arith}
use borrow.Author.Rules.{rules}
use mathlib.Core.List.{List}
use lib.ListN.{length}
use Rattle.edits.specs.declared.plans.Plan.{Plan}
use lib.Seq.{length-take-le}
use Rattle.rules.specs.Bytes.{first_number}
use Rattle.rules.specs.Packed.{letters_by}
use Rattle.rules.specs.Pair.{PairRoom, pair_room_tests}
use Rattle.reference.proofs.Checking.{bounded}
use Rattle.pairs.specs.Carrying.{pair_room_of, length_by}
use Rattle.pairs.proofs.Carrying.{lengths-sum, lengths-fit, pair-first, ahead-row, behind-row}
use Rattle.pairs.proofs.Whole.{carried-refused, transcript-room, transcript-fits, codes, carried}
use Rattle.reference.proofs.Judging.{exit-told}
use Rattle.pairs.proofs.carry.carry_pair.Goals as goal

-- the room is that of the pair's length
told : (cs size n : ℕ) (p q : Plan) (s : List ℕ) (room : PairRoom) → size ≡ length s → n ≡ first_number (pair_room_tests cs (p.length + q.length - size) room)
    → n ≡ first_number (pair_room_tests cs (length_by p q s) room)
told cs size n p q s room sized is = is ∙ ap (λ (m : ℕ). first_number (pair_room_tests cs (p.length + q.length - m) room)) sized

pub overflow_add-length : goal.overflow_add-length
overflow_add-length c = let a = c.args in let fits = lengths-fit (letters_by a.known.form a.letters.now) a.known a.first a.second a.new.now a.other.now c.requires in search rules

pub overflow_sub-length : goal.overflow_sub-length
overflow_sub-length c =
    let a = c.args in
    let sum = lengths-sum (letters_by a.known.form a.letters.now) a.known a.first a.second a.new.now a.other.now c.requires in
    omega (arith, sum, c.size_of.ensures)

pub pair_room_refusal-requires : goal.pair_room_refusal-requires
pair_room_refusal-requires c =
    let a = c.args in
    let x = c.requires in
    let first = pair-first (letters_by a.known.form a.letters.now) a.known a.first a.second a.new.now a.other.now x in
    record { bounded = bounded (letters_by a.known.form a.letters.now) a.known.cds x.sound; cs_in_bounds = omega (arith, first, c.size_of.ensures) }

pub returns-in_err-pair_room_refusal : goal.returns-in_err-pair_room_refusal
returns-in_err-pair_room_refusal c =
    let a = c.args in
    rw (exit-told _ _ c.from_residual.ensures.1)
    (carried-refused (letters_by a.known.form a.letters.now) a.known a.first a.second a.new.now a.other.now a.transcript.now a.altered.now _ (told a.known.cds.cs _ _ a.first a.second (letters_by a.known.form a.letters.now) (pair_room_of a.transcript.now a.altered.now) c.size_of.ensures c.in_err-pair_room_refusal.ensures))

pub write_both-n-requires : goal.write_both-n-requires
write_both-n-requires c =
    let a = c.args in
    let fits = transcript-room (letters_by a.known.form a.letters.now) a.known a.first a.second a.new.now a.other.now a.transcript.now a.altered.now c.requires (told a.known.cds.cs _ _ a.first a.second (letters_by a.known.form a.letters.now) (pair_room_of a.transcript.now a.altered.now) c.size_of.ensures c.in_ok-pair_room_refusal.ensures) in
    record { first_ahead = ahead-row (letters_by a.known.form a.letters.now) a.known a.first a.second a.new.now a.other.now c.requires _ fits; second_ahead = behind-row (letters_by a.known.form a.letters.now) a.known a.first a.second a.new.now a.other.now c.requires _ fits }

pub slice_bounds-write_protein-end : goal.slice_bounds-write_protein-end
slice_bounds-write_protein-end c =
    let a = c.args in
    let wrote = c.write_both-n in
    transcript-fits (letters_by a.known.form a.letters.now) a.known a.first a.second a.new.now a.other.now a.transcript.now a.altered.now c.requires (told a.known.cds.cs _ _ a.first a.second (letters_by a.known.form a.letters.now) (pair_room_of a.transcript.now a.altered.now) c.size_of.ensures c.in_ok-pair_room_refusal.ensures) wrote.result wrote.new.transcript wrote.ensures.value wrote.ensures.transcript_after

pub slice_bounds-write_protein-end-2 : goal.slice_bounds-write_protein-end-2
slice_bounds-write_protein-end-2 c =
    let a = c.args in
    let wrote = c.write_both-n in
    sym (length-take-le wrote.result _ (transcript-fits (letters_by a.known.form a.letters.now) a.known a.first a.second a.new.now a.other.now a.transcript.now a.altered.now c.requires (told a.known.cds.cs _ _ a.first a.second (letters_by a.known.form a.letters.now) (pair_room_of a.transcript.now a.altered.now) c.size_of.ensures c.in_ok-pair_room_refusal.ensures) wrote.result wrote.new.transcript wrote.ensures.value wrote.ensures.transcript_after))

pub write_protein-residues-requires : goal.write_protein-residues-requires
write_protein-residues-requires c =
    let a = c.args in
    let wrote = c.write_both-n in
    codes (letters_by a.known.form a.letters.now) a.known a.first a.second a.new.now a.other.now a.transcript.now a.altered.now c.requires (told a.known.cds.cs _ _ a.first a.second (letters_by a.known.form a.letters.now) (pair_room_of a.transcript.now a.altered.now) c.size_of.ensures c.in_ok-pair_room_refusal.ensures) wrote.result wrote.new.transcript wrote.ensures.value wrote.ensures.transcript_after

pub returns : goal.returns
returns c =
    let a = c.args in
    let wrote = c.write_both-n in
    let read = c.write_protein-residues in
    carried (letters_by a.known.form a.letters.now) a.known a.first a.second a.new.now a.other.now a.transcript.now a.altered.now c.requires (told a.known.cds.cs _ _ a.first a.second (letters_by a.known.form a.letters.now) (pair_room_of a.transcript.now a.altered.now) c.size_of.ensures c.in_ok-pair_room_refusal.ensures) wrote.result wrote.new.transcript wrote.ensures.value wrote.ensures.transcript_after read.result read.new.altered read.ensures.value read.ensures.altered_after
