-- `translation::translate_cds_with_exceptions` meets its contract: each way out is a case of the answer. Assumes nothing.
use mathlib.Core.Path.{◌≡◌, sym, ◌∙◌}
use mathlib.Core.Bool.{true}
use native.Mathlib.Omega.{arith}
use borrow.Author.Rules.{rules}
use lib.ListN.{length}
use Rattle.rules.specs.Translation.{exception_list, whole_codons, fold_to_letters, residue_count, folded_translated, translation}
use Rattle.rules.proofs.Fills.{refuses, gives}
use Rattle.places.specs.Places.{fold_to_bases}
use Rattle.places.proofs.Residues.{length-plain}
use Rattle.translation.proofs.Answers.{no_table, not-allowed, not_full, no_room, no-letter, all-fold-to-letters}
use Rattle.translation.proofs.translate.translate_cds_with_exceptions.Goals as goal

pub returns-then-table-gt2 : goal.returns-then-table-gt2
returns-then-table-gt2 c = let args = c.args in
    let whole = refuses (translation args.table (exception_list args.e) args.full args.seq.now (length args.out.now)) 4 args.out.now (no_table args.table (exception_list args.e) args.full args.seq.now (length args.out.now) c.if-table-gt2.true) in
    record { answer = whole.0; written = whole.1 }

pub returns-then-not-are_exceptions : goal.returns-then-not-are_exceptions
returns-then-not-are_exceptions c = let args = c.args in
    let taken = c.are_exceptions in
    let whole = refuses (translation args.table (exception_list args.e) args.full args.seq.now (length args.out.now)) 5 args.out.now (not-allowed args.table (exception_list args.e) args.full args.seq.now (length args.out.now) c.if-table-gt2.false (sym taken.ensures.value ∙ c.if-not-are_exceptions.true)) in
    record { answer = whole.0; written = whole.1 }

pub returns-then-full-seq : goal.returns-then-full-seq
returns-then-full-seq c = let args = c.args in
    let taken = c.are_exceptions in
    let whole = refuses (translation args.table (exception_list args.e) args.full args.seq.now (length args.out.now)) 14 args.out.now (not_full args.table (exception_list args.e) args.full args.seq.now (length args.out.now) c.if-table-gt2.false (sym taken.ensures.value ∙ c.if-not-are_exceptions.false) c.if-full-seq.true) in
    record { answer = whole.0; written = whole.1 }

pub returns-then-out-n : goal.returns-then-out-n
returns-then-out-n c = let args = c.args in
    let taken = c.are_exceptions in
    let whole = refuses (translation args.table (exception_list args.e) args.full args.seq.now (length args.out.now)) 15 args.out.now (no_room args.table (exception_list args.e) args.full args.seq.now (length args.out.now) c.if-table-gt2.false (sym taken.ensures.value ∙ c.if-not-are_exceptions.false) c.if-full-seq.false (omega (arith, c.if-out-n.true, c.div_ceil-n.ensures))) in
    record { answer = whole.0; written = whole.1 }

pub returns-then-not-are_letters : goal.returns-then-not-are_letters
unfolding whole_codons fold_to_letters
returns-then-not-are_letters c = let args = c.args in
    let taken = c.are_exceptions in
    let letters = c.are_letters in
    let whole = refuses (translation args.table (exception_list args.e) args.full args.seq.now (length args.out.now)) 2 args.out.now (no-letter args.table (exception_list args.e) args.full args.seq.now (length args.out.now) c.if-table-gt2.false (sym taken.ensures.value ∙ c.if-not-are_exceptions.false) c.if-full-seq.false (omega (arith, c.if-out-n.false, c.div_ceil-n.ensures)) (sym letters.ensures ∙ c.if-not-are_letters.true)) in
    record { answer = whole.0; written = whole.1 }

pub write_translated-requires : goal.write_translated-requires
unfolding whole_codons fold_to_letters fold_to_bases residue_count
write_translated-requires c = let taken = c.are_exceptions in
    let letters = c.are_letters in
    let bases = c.all_fold_to_bases-plain in
    record {
      reads = record {
        code = search rules;
        letters = sym letters.ensures ∙ c.if-not-are_letters.false;
        bases = λ plain. sym bases.ensures ∙ plain;
        few = taken.ensures.few c.if-not-are_exceptions.false;
      };
      room = omega (arith, c.if-out-n.false, c.div_ceil-n.ensures);
    }

pub returns : goal.returns
unfolding whole_codons fold_to_letters
returns c = let args = c.args in
    let taken = c.are_exceptions in
    let letters = c.are_letters in
    let are : fold_to_letters args.seq.now ≡ true = sym letters.ensures ∙ c.if-not-are_letters.false in
    let whole = gives (translation args.table (exception_list args.e) args.full args.seq.now (length args.out.now)) (folded_translated args.table (exception_list args.e) args.seq.now) _ _ args.out.now
    (all-fold-to-letters args.table (exception_list args.e) args.full args.seq.now (length args.out.now) c.if-table-gt2.false (sym taken.ensures.value ∙ c.if-not-are_exceptions.false) c.if-full-seq.false (omega (arith, c.if-out-n.false, c.div_ceil-n.ensures)) are)
    (omega (arith, length-plain args.table (exception_list args.e) args.seq.now))
    c.write_translated.ensures in
    record { answer = whole.0; written = whole.1 }
