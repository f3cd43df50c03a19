-- `altseq::carry::write_altered` meets its contract: A is read whole, or in pieces. Assumes nothing.
use mathlib.Core.Path.{ap, ◌∙◌}
use mathlib.Core.List.{List}
use Prim.Native.Nat.{ℕ}
use lib.ListN.{length}
use Rattle.rules.specs.Bytes.{over}
use Rattle.record.proofs.Shared.{shares_none}
use Rattle.altseq.proofs.Making.{protein-made, looked-all, bounded, placed, reused-is, looked-some, shares-some, reuses}
use Rattle.rules.specs.Packed.{letters_by}
use Rattle.altseq.proofs.carry.write_altered.Goals as goal

pub returns-then-e-ne0 : goal.returns-then-e-ne0
returns-then-e-ne0 c =
    let args = c.args in
    let wrote = c.write_protein-walked in
    let made = protein-made (letters_by args.known.form args.letters.now) args.known args.e args.protein.now args.plan args.new.now args.transcript.now args.altered.now c.requires in
    record { residues_value = wrote.ensures.residues_value ∙ ap length made; looked_value = looked-all (letters_by args.known.form args.letters.now) args.known args.e args.protein.now args.plan args.new.now args.transcript.now args.altered.now c.requires c.if-e-ne0.true _ wrote.ensures.looked_value; shares = shares_none args.protein.now _; altered_after = wrote.ensures.altered_after ∙ ap (λ (l : List ℕ). over l args.altered.now) made }

pub pieces_of-pieces-requires : goal.pieces_of-pieces-requires
pieces_of-pieces-requires c =
    let args = c.args in
    record { bounded = bounded (letters_by args.known.form args.letters.now) args.known args.e args.protein.now args.plan args.new.now args.transcript.now args.altered.now c.requires; placed = placed (letters_by args.known.form args.letters.now) args.known args.e args.protein.now args.plan args.new.now args.transcript.now args.altered.now c.requires }

pub write_reusing-reused-requires : goal.write_reusing-reused-requires
write_reusing-reused-requires c =
    let args = c.args in
    let cut = c.pieces_of-pieces in
    let bases = c.all_bases in
    reuses (letters_by args.known.form args.letters.now) args.known args.e args.protein.now args.plan args.new.now args.transcript.now args.altered.now c.requires c.if-e-ne0.false cut.result cut.ensures bases.result bases.ensures

pub returns : goal.returns
returns c =
    let args = c.args in
    let cut = c.pieces_of-pieces in
    let wrote = c.write_reusing-reused in
    let made = reused-is (letters_by args.known.form args.letters.now) args.known args.e args.protein.now args.plan args.new.now args.transcript.now args.altered.now c.requires c.if-e-ne0.false cut.result cut.ensures in
    record { residues_value = wrote.ensures.residues_value ∙ ap length made; looked_value = looked-some (letters_by args.known.form args.letters.now) args.known args.e args.protein.now args.plan args.new.now args.transcript.now args.altered.now c.requires c.if-e-ne0.false cut.result cut.ensures _ wrote.ensures.looked; shares = shares-some (letters_by args.known.form args.letters.now) args.known args.e args.protein.now args.plan args.new.now args.transcript.now args.altered.now c.requires c.if-e-ne0.false cut.result cut.ensures _ wrote.ensures.behind; altered_after = wrote.ensures.written ∙ ap (λ (l : List ℕ). over l args.altered.now) made }
