-- The lemmas by which functions are proved, a set for each, named after the function.
use Rattle.std.proofs.Common.{append_assoc}
use Rattle.cbor_edn_core.proofs.lemmas.layout.LaidStrings.{text_laid_piece}
use Rattle.cbor_edn_core.proofs.lemmas.layout.ViewsWithoutIndicators.{empty_gone, full_gone, full_same, pair_fewer, sequence_fewer}
use Rattle.cbor_edn_core.proofs.lemmas.tree.Views.{view_items_is, view_pairs_is, view_sequence_is, view_sequence_made, view_stream_is, view_stream_made, view_string_is, view_strings_is, view_strings_made}
use Rattle.cbor_edn_model.proofs.lemmas.layout.FewestIndicators.{same_fewer}
use Rattle.cbor_edn_model.proofs.lemmas.layout.LaidTexts.{text_laid_chunk, text_laid_element, text_laid_empty, text_laid_enclosed, text_laid_float, text_laid_full, text_laid_list, text_laid_named, text_laid_nothing, text_laid_number, text_laid_rest, text_laid_sequence, text_laid_stream, text_laid_string}
use Rattle.cbor_edn_model.proofs.lemmas.layout.LaidTrees.{laid_enclosed, laid_kept, laid_list, laid_string, stream_laid}
use Rattle.cbor_edn_model.proofs.lemmas.layout.MeasuredWidths.{width_entries}
use Rattle.cbor_edn_model.proofs.lemmas.text.Texts.{text_ellipsis, text_embedded, text_float, text_last_piece, text_literal, text_named, text_stream, text_string}
use Rattle.cbor_edn_model.proofs.lemmas.visit.Untagged.{has_tag_entries}

pub ruleset items_have_tag = (view_items_is, has_tag_entries)

pub ruleset lay_item = (view_string_is, laid_enclosed, laid_list, laid_string, stream_laid)

pub ruleset lay_sequence = (view_sequence_is, view_sequence_made)

pub ruleset make_stream = (view_stream_is, view_strings_is, view_stream_made, view_strings_made)

pub ruleset pairs_have_tag = (view_pairs_is, has_tag_entries)

pub ruleset print_at_once = (view_string_is, text_laid_number, text_laid_string, text_laid_piece, text_string, text_last_piece)

pub ruleset print_item = (view_string_is, view_stream_is, text_laid_number, text_laid_float, text_laid_named, text_float, text_named, text_laid_enclosed, text_laid_list, text_laid_string, text_laid_piece, text_string, text_last_piece, text_laid_stream, append_assoc)

pub ruleset print_items = (view_items_is, text_laid_rest, text_laid_element, append_assoc)

pub ruleset print_list = (text_laid_empty, text_laid_full, append_assoc)

pub ruleset print_pairs = (view_pairs_is, text_laid_rest, append_assoc)

pub ruleset print_piece = (text_literal, text_ellipsis, text_embedded, laid_kept, append_assoc)

pub ruleset print_sequence = (view_sequence_is, text_laid_nothing, text_laid_sequence, append_assoc)

pub ruleset print_stream = (view_stream_is, text_stream, append_assoc)

pub ruleset print_strings = (view_strings_is, text_laid_rest, text_laid_chunk, append_assoc)

pub ruleset remove_list_indicators = (full_same, full_gone, empty_gone, same_fewer)

pub ruleset remove_pair_indicators = (pair_fewer, same_fewer)

pub ruleset remove_sequence_indicators = (view_sequence_is, view_sequence_made, sequence_fewer, same_fewer)

pub ruleset remove_stream_indicators = (view_stream_is, view_stream_made)

pub ruleset room_behind_items = (view_items_is, width_entries)

pub ruleset room_behind_pairs = (view_pairs_is, width_entries)

pub ruleset room_behind_strings = (view_strings_is, width_entries)

pub ruleset strings_have_tag = (view_strings_is, has_tag_entries)
