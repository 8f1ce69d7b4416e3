use Rattle.std.proofs.Common.{◌≡◌, ◌+◌, ◌-◌, ◌*◌, ◌≤◌, [], length, drop, map}
use Rattle.std.specs.Str.{IsCharBoundary}
use Rattle.cbor_edn_core.specs.tree.Borrowed.{BorrowsEach, BorrowsEachPair, BorrowsEachString, BorrowsEachPiece}
use Rattle.cbor_edn_model.specs.tree.Items.{Elements, Pairs, Strings}
use Rattle.cbor_edn_model.specs.internal.LookCosts.{a_byte}
use Rattle.cbor_edn_model.specs.internal.BytesAt.{ahead}
use Rattle.cbor_edn_model.specs.internal.Reading.{reads}
use Rattle.cbor_edn_model.specs.tree.Trees.{Rest, OneString}
use Rattle.cbor_edn_core.specs.tree.View.{seen, seen_pair, seen_string, seen_piece}
use Rattle.cbor_edn_model.specs.tree.TreeLeaves.{texts}
use Rattle.cbor_edn_core.proofs.lemmas.text.Turns.{with_row}
use Rattle.cbor_edn_core.proofs.lemmas.text.StringTurns.{with_pieces}
use Rattle.cbor_edn_core.proofs.lemmas.text.Looks.{spared}
use Rattle.cbor_edn_core.proofs.text.grammar.+item.Given as goal

abbrev pub decreases-strings::embedded_piece : goal.decreases-strings::embedded_piece
decreases-strings::embedded_piece l = 13 * l.limit + 0

abbrev pub decreases-lists::array_item : goal.decreases-lists::array_item
decreases-lists::array_item l = 13 * l.limit + 0

abbrev pub decreases-maps::map_item : goal.decreases-maps::map_item
decreases-maps::map_item l = 13 * l.limit + 0

abbrev pub decreases-items::enclosed_item : goal.decreases-items::enclosed_item
decreases-items::enclosed_item l = 13 * l.limit + 0

abbrev pub decreases-items::number_item : goal.decreases-items::number_item
decreases-items::number_item l = 13 * l.limit + 1

abbrev pub decreases-items::keyword_item : goal.decreases-items::keyword_item
decreases-items::keyword_item l = 13 * l.limit + 1

abbrev pub decreases-sequences::standalone : goal.decreases-sequences::standalone
decreases-sequences::standalone l = 13 * l.limit + 8

abbrev pub decreases-strings::piece : goal.decreases-strings::piece
decreases-strings::piece l = 13 * l.limit + 1

abbrev pub decreases-strings::string : goal.decreases-strings::string
decreases-strings::string l = 13 * l.limit + 2

abbrev pub decreases-strings::string_item : goal.decreases-strings::string_item
decreases-strings::string_item l = 13 * l.limit + 3

abbrev pub decreases-strings::strings : goal.decreases-strings::strings
decreases-strings::strings l = 13 * l.limit + 4

abbrev pub decreases-strings::stream : goal.decreases-strings::stream
decreases-strings::stream l = 13 * l.limit + 5

abbrev pub decreases-strings::stream_item : goal.decreases-strings::stream_item
decreases-strings::stream_item l = 13 * l.limit + 6

abbrev pub decreases-items::item : goal.decreases-items::item
decreases-items::item l = 13 * l.limit + 7

abbrev pub decreases-maps::pair_of_key : goal.decreases-maps::pair_of_key
decreases-maps::pair_of_key l = 13 * l.limit + 8

abbrev pub decreases-maps::pair : goal.decreases-maps::pair
decreases-maps::pair l = 13 * l.limit + 9

abbrev pub decreases-lists::items : goal.decreases-lists::items
decreases-lists::items l = 13 * l.limit + 9

abbrev pub decreases-sequences::sequence : goal.decreases-sequences::sequence
decreases-sequences::sequence l = 13 * l.limit + 10

abbrev pub decreases-maps::pairs : goal.decreases-maps::pairs
decreases-maps::pairs l = 13 * l.limit + 11

abbrev pub decreases-lists::array : goal.decreases-lists::array
decreases-lists::array l = 13 * l.limit + 12

abbrev pub decreases-maps::map : goal.decreases-maps::map
decreases-maps::map l = 13 * l.limit + 12

abbrev pub invariant-lists::items-items : goal.invariant-lists::items-items
invariant-lists::items-items l = record {
  order : l.fn.from ≤ l.at;
  place : IsCharBoundary l.text.all.now l.at;
  cost : l.looks.count + a_byte * l.fn.from ≤ l.fn.looks.count + a_byte * l.at;
  least : l.fn.looks.count + l.at ≤ l.looks.count + l.fn.from;
  borrowed : BorrowsEach l.row.items;
  reads : reads l.limit (Rest Elements) (drop l.fn.from l.text.all.now) ≡ with_row (map (seen texts) l.row.items) (reads l.limit (Rest Elements) (drop l.at l.text.all.now));
}

abbrev pub decreases-lists::items-items : goal.decreases-lists::items-items
decreases-lists::items-items l = length l.text.all.now + 1 - l.at

abbrev pub invariant-maps::pairs-pairs : goal.invariant-maps::pairs-pairs
invariant-maps::pairs-pairs l = record {
  order : l.fn.from ≤ l.at;
  place : IsCharBoundary l.text.all.now l.at;
  cost : l.looks.count + a_byte * l.fn.from ≤ l.fn.looks.count + a_byte * l.at;
  least : l.fn.looks.count + l.at ≤ l.looks.count + l.fn.from;
  borrowed : BorrowsEachPair l.row.items;
  reads : reads l.limit (Rest Pairs) (drop l.fn.from l.text.all.now) ≡ with_row (map (seen_pair texts) l.row.items) (reads l.limit (Rest Pairs) (drop l.at l.text.all.now));
}

abbrev pub decreases-maps::pairs-pairs : goal.decreases-maps::pairs-pairs
decreases-maps::pairs-pairs l = length l.text.all.now + 1 - l.at

abbrev pub invariant-strings::strings-strings : goal.invariant-strings::strings-strings
invariant-strings::strings-strings l = record {
  order : l.fn.from ≤ l.at;
  place : IsCharBoundary l.text.all.now l.at;
  cost : l.looks.count + a_byte * l.fn.from ≤ l.fn.looks.count + a_byte * l.at;
  least : l.fn.looks.count + l.at ≤ l.looks.count + l.fn.from;
  borrowed : BorrowsEachString l.row.items;
  reads : reads l.limit (Rest Strings) (drop l.fn.from l.text.all.now) ≡ with_row (map (seen_string texts) l.row.items) (reads l.limit (Rest Strings) (drop l.at l.text.all.now));
}

abbrev pub decreases-strings::strings-strings : goal.decreases-strings::strings-strings
decreases-strings::strings-strings l = length l.text.all.now + 1 - l.at

abbrev pub invariant-strings::string-pieces : goal.invariant-strings::string-pieces
invariant-strings::string-pieces l = record {
  order : l.fn.from ≤ l.at;
  place : IsCharBoundary l.text.all.now l.at;
  first : l.row.items ≡ [] → l.at ≡ l.fn.from;
  cost : l.looks.count + spared l.row.items (ahead l.text.all.now l.fn.from) + a_byte * l.fn.from ≤ l.fn.looks.count + a_byte * l.at;
  least : l.fn.looks.count + l.at ≤ l.looks.count + l.fn.from;
  borrowed : BorrowsEachPiece l.row.items;
  reads : reads l.limit OneString (drop l.fn.from l.text.all.now) ≡ with_pieces (map (seen_piece texts) l.row.items) (reads l.limit OneString (drop l.at l.text.all.now));
}

abbrev pub decreases-strings::string-pieces : goal.decreases-strings::string-pieces
decreases-strings::string-pieces l = length l.text.all.now + 1 - l.at
