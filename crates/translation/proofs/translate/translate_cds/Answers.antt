-- `translation::translate_cds` meets its contract: each way out is a case of the answer. Assumes nothing.
use mathlib.Core.Path.{◌≡◌, sym, ◌∙◌}
use mathlib.Core.Bool.{true}
use mathlib.Core.List.{[]}
use native.Mathlib.Omega.{arith}
use borrow.Author.Rules.{rules}
use lib.ListN.{length}
use Rattle.rules.specs.Translation.{whole_codons, fold_to_letters, residue_count, folded_translated, translation}
use Rattle.rules.proofs.Fills.{refuses, gives}
use Rattle.places.specs.Places.{fold_to_bases}
use Rattle.places.proofs.Residues.{length-plain}
use Rattle.translation.proofs.Answers.{no_table, not_full, no_room, no-letter, all-fold-to-letters, bases-letters, none_taken}
use Rattle.translation.proofs.translate.translate_cds.Goals as goal

pub returns-then-table-gt2 : goal.returns-then-table-gt2
returns-then-table-gt2 c = let args = c.args in
    let whole = refuses (translation args.table [] args.full args.seq.now (length args.out.now)) 4 args.out.now (no_table args.table [] args.full args.seq.now (length args.out.now) c.if-table-gt2.true) in
    record { answer = whole.0; written = whole.1 }

pub returns-then-full-seq : goal.returns-then-full-seq
returns-then-full-seq c = let args = c.args in
    let whole = refuses (translation args.table [] args.full args.seq.now (length args.out.now)) 14 args.out.now (not_full args.table [] args.full args.seq.now (length args.out.now) c.if-table-gt2.false none_taken c.if-full-seq.true) in
    record { answer = whole.0; written = whole.1 }

pub returns-then-out-n : goal.returns-then-out-n
returns-then-out-n c = let args = c.args in
    let whole = refuses (translation args.table [] args.full args.seq.now (length args.out.now)) 15 args.out.now (no_room args.table [] args.full args.seq.now (length args.out.now) c.if-table-gt2.false none_taken c.if-full-seq.false (omega (arith, c.if-out-n.true, c.div_ceil-n.ensures))) in
    record { answer = whole.0; written = whole.1 }

pub write_bases-requires : goal.write_bases-requires
unfolding whole_codons fold_to_bases residue_count
write_bases-requires c = record { table_bound = search rules; seq_value = sym c.all_fold_to_bases.ensures ∙ c.if-all_fold_to_bases.true; seq_in_bounds = omega (arith, c.if-out-n.false, c.div_ceil-n.ensures) }

pub returns-then-all_fold_to_bases : goal.returns-then-all_fold_to_bases
unfolding whole_codons fold_to_bases
returns-then-all_fold_to_bases c = let args = c.args in
    let bases : fold_to_bases args.seq.now ≡ true = sym c.all_fold_to_bases.ensures ∙ c.if-all_fold_to_bases.true in
    let whole = gives (translation args.table [] args.full args.seq.now (length args.out.now)) (folded_translated args.table [] args.seq.now) _ _ args.out.now
    (all-fold-to-letters args.table [] args.full args.seq.now (length args.out.now) c.if-table-gt2.false none_taken c.if-full-seq.false (omega (arith, c.if-out-n.false, c.div_ceil-n.ensures)) (bases-letters args.seq.now bases))
    (omega (arith, length-plain args.table [] args.seq.now))
    c.write_bases.ensures in
    record { answer = whole.0; written = whole.1 }

pub write_mixed-requires : goal.write_mixed-requires
unfolding whole_codons fold_to_letters residue_count
write_mixed-requires c = record { table_bound = search rules; seq_value = sym c.all_fold_to_letters.ensures ∙ c.if-all_fold_to_letters.true; seq_in_bounds = omega (arith, c.if-out-n.false, c.div_ceil-n.ensures) }

pub returns-then-all_fold_to_letters : goal.returns-then-all_fold_to_letters
unfolding whole_codons fold_to_letters
returns-then-all_fold_to_letters c = let args = c.args in
    let letters : fold_to_letters args.seq.now ≡ true = sym c.all_fold_to_letters.ensures ∙ c.if-all_fold_to_letters.true in
    let whole = gives (translation args.table [] args.full args.seq.now (length args.out.now)) (folded_translated args.table [] args.seq.now) _ _ args.out.now
    (all-fold-to-letters args.table [] args.full args.seq.now (length args.out.now) c.if-table-gt2.false none_taken c.if-full-seq.false (omega (arith, c.if-out-n.false, c.div_ceil-n.ensures)) letters)
    (omega (arith, length-plain args.table [] args.seq.now))
    c.write_mixed.ensures in
    record { answer = whole.0; written = whole.1 }

pub returns : goal.returns
unfolding whole_codons fold_to_letters
returns c = let args = c.args in
    let letters = sym c.all_fold_to_letters.ensures ∙ c.if-all_fold_to_letters.false in
    let whole = refuses (translation args.table [] args.full args.seq.now (length args.out.now)) 2 args.out.now (no-letter args.table [] args.full args.seq.now (length args.out.now) c.if-table-gt2.false none_taken c.if-full-seq.false (omega (arith, c.if-out-n.false, c.div_ceil-n.ensures)) letters) in
    record { answer = whole.0; written = whole.1 }
