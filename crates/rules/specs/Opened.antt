-- To unfold `opened` is to unfold every definition of the sections: what a worked example computes with.
use Rattle.std.specs.Prelude.{ℕ}
use Rattle.rules.specs.Bytes.{same, count, all, each, is_capital, first_number, unless, over}
use Rattle.rules.specs.Letters.{letter_set, is_letter, upper, folded}
use Rattle.rules.specs.Codons.{is_table, codon_rule, codon}
use Rattle.rules.specs.Translation.{exception_list, excepted, residues_from, translated, residue_count, before_stop, through_stop, is_residue, are_exceptions, whole_codons, fold_to_letters, folded_translated, translation_tests, translation}
use Rattle.rules.specs.Names.{names, three_in, one_in, three_of, one_of, threes, three_letters, one_letters}
use Rattle.rules.specs.Complement.{partner_in, complement, reverse_complement, complemented}
use Rattle.rules.specs.Trims.{common_prefix, common_suffix}
use Rattle.rules.specs.Reference.{is_short_end, size, is_size, cds_size, fits_end, are_bounds, cds, codons, are_rising, fit_exceptions, reference_protein, ends_in_stop, is_cut_short, reference_tests}
use Rattle.rules.specs.Position.{place, is_outside, index, is_before, is_behind, counted}
use Rattle.rules.specs.Edit.{start_place, end_place, start_index, end_index, ends_past, is_misplaced, is_disordered, is_out_of_cds, are_new_bases, fit_bases, edit_tests}
use Rattle.rules.specs.Altered.{part, carried, swap_by, swap, frame, framed, has_stop, through_stop_codon, cut_at_stop, finds_stop, kept, cut_swap, altered_transcript, deleted, inserted, cut_off, altered_length, is_uneven, leaves_cds, puts_back, frameshift}
use Rattle.rules.specs.Exceptions.{suffix_behind, in_prefix, in_suffix, shifted, in_frame, codon_index, codon_number, moved_one, moved_all, moved_exceptions}
use Rattle.rules.specs.Protein.{protein_of, altered_protein}
use Rattle.rules.specs.Reuse.{lies_before, lies_behind, origin, is_of_cds, is_reused, altered_coding, codons_through_stop, count_to, looked_up}
use Rattle.rules.specs.Record.{is_unknown, within, silent_within, silent_number, ending, part_of, is_copy, class_by_counts, class_by, class_of, first_copied, change_at, change_of, record_from, record_of, replayed}
use Rattle.rules.specs.Refusal.{reference_refusal, refusal, room_tests, room_refusal, record_unless}
use Rattle.rules.specs.Packed.{halves, set_at, letter_of, letters_in, unpacked, packed_tests}
use Rattle.rules.specs.Answer.{written_of, bytes_of, writes_nothing, unknown_report, full_report, writes_all, outcome_by, outcome}
use Rattle.rules.specs.Check.{stands, replays, begins_there, leaves_ending, is_shortest, is_changed, is_proposal, proposal_tests, checks_nothing, verdict_of, checks_all, check_by, check_outcome}
use Rattle.rules.specs.Longest.{is_given_longest, limits_with, with_longest, outcome_within, check_within, pair_within}
use Rattle.rules.specs.Panel.{is_panel_kind, is_inside, has_bases, is_of_panel, names_base, profile_tests, panel_refusal, panel_outcome, panel_within}
use Rattle.rules.specs.Pair.{touched_from, touched_to, is_ahead, are_apart, pair_tests, moved_by, moved_swap, pair_transcript, pair_protein, pair_length, pair_room_tests, pair_refusal, pair_by, pair_outcome}
use Rattle.rules.specs.Editions.{codon_count, codon_letters, codon_residue, is_equal_codon, difference_at, differences_from, differences, difference_bytes, listed, edition_tests, compared}
use Rattle.rules.specs.Values.{told_by, values_of}
use Rattle.rules.specs.Stored.{two_bytes, four_bytes, field, is_wrong_tag, is_wrong_content, with_field, met, fields_from, fields, content_of, reference_form, exceptions_in, contents_of, joined_letters, is_incomplete, is_full, is_begun_early, are_wrong_bounds, content_tests, bounds_in, reference_in, assembled, assembled_in, checked, stored_reference, is_joined, fitted, read_reference, joined_by, written_joined}
use Rattle.rules.specs.Storing.{in_two, in_four, field_bytes, fields_bytes, exception_bytes, is_long, held_by, filled, reference_fields, stored_form, write_tests, written_reference}
use Rattle.rules.specs.Settings.{is_version, has_longest, version_of, layout, with_content, content_by, contents_in, settings_in, is_longest, are_settings, held_in, stored_by, stored_settings, store_values, settings_fields, store_of, settings_tests, written_settings}
use Rattle.rules.specs.Number.{is_digit, digits, value_from, value, is_number, number_of, number}
use Rattle.rules.specs.Line.{position, joined, range, are_capitals, starts_with, is_arrow, base_verb, verb, edit_line, behind_space, spaced, behind_ref, reference_line, fits_line}
use Rattle.rules.specs.Run.{decimal_of, decimal, shown, refused_line, shown_first, change_line, record_line, answer_line, edit_answer, edit_line_answer, answers_from, answers_of, answers, lines_from, lines, unlines, run}

unfoldable pub opened : ℕ
unfolding same count all each is_capital first_number unless over letter_set is_letter upper folded is_table codon_rule codon exception_list excepted residues_from translated residue_count before_stop through_stop is_residue are_exceptions whole_codons fold_to_letters folded_translated translation_tests translation names three_in one_in three_of one_of threes three_letters one_letters partner_in complement reverse_complement complemented common_prefix common_suffix is_short_end size is_size cds_size fits_end are_bounds cds codons are_rising fit_exceptions reference_protein ends_in_stop is_cut_short reference_tests place is_outside index is_before is_behind counted start_place end_place start_index end_index ends_past is_misplaced is_disordered is_out_of_cds are_new_bases fit_bases edit_tests part carried swap_by swap frame framed has_stop through_stop_codon cut_at_stop finds_stop kept cut_swap altered_transcript deleted inserted cut_off altered_length is_uneven leaves_cds puts_back frameshift suffix_behind in_prefix in_suffix shifted in_frame codon_index codon_number moved_one moved_all moved_exceptions protein_of altered_protein lies_before lies_behind origin is_of_cds is_reused altered_coding codons_through_stop count_to looked_up is_unknown within silent_within silent_number ending part_of is_copy class_by_counts class_by class_of first_copied change_at change_of record_from record_of replayed reference_refusal refusal room_tests room_refusal record_unless halves set_at letter_of letters_in unpacked packed_tests written_of bytes_of writes_nothing unknown_report full_report writes_all outcome_by outcome stands replays begins_there leaves_ending is_shortest is_changed is_proposal proposal_tests checks_nothing verdict_of checks_all check_by check_outcome is_given_longest limits_with with_longest outcome_within check_within pair_within is_panel_kind is_inside has_bases is_of_panel names_base profile_tests panel_refusal panel_outcome panel_within touched_from touched_to is_ahead are_apart pair_tests moved_by moved_swap pair_transcript pair_protein pair_length pair_room_tests pair_refusal pair_by pair_outcome codon_count codon_letters codon_residue is_equal_codon difference_at differences_from differences difference_bytes listed edition_tests compared told_by values_of two_bytes four_bytes field is_wrong_tag is_wrong_content with_field met fields_from fields content_of reference_form exceptions_in contents_of joined_letters is_incomplete is_full is_begun_early are_wrong_bounds content_tests bounds_in reference_in assembled assembled_in checked stored_reference is_joined fitted read_reference in_two in_four field_bytes fields_bytes is_version has_longest version_of layout with_content content_by contents_in settings_in is_longest are_settings held_in stored_by stored_settings store_values settings_fields store_of settings_tests written_settings exception_bytes is_long held_by filled reference_fields stored_form write_tests written_reference joined_by written_joined is_digit digits value_from value is_number number_of number position joined range are_capitals starts_with is_arrow base_verb verb edit_line behind_space spaced behind_ref reference_line fits_line decimal_of decimal shown refused_line shown_first change_line record_line answer_line edit_answer edit_line_answer answers_from answers_of answers lines_from lines unlines run
opened = 0
