use Rattle.std.proofs.Common.{◌≡◌, ℕ, suc, ◌+◌, ◌-◌, ◌*◌, ◌≤◌, ◌<◌, ◌++◌, length, List, None}
use Rattle.cbor_edn_parts.specs.base.Buffer.{buffer_bytes}
use Rattle.cbor_edn_model.specs.tree.Items.{entries_of}
use Rattle.cbor_edn_model.specs.tree.Trees.{Tree, OneEntry}
use Rattle.cbor_edn_model.specs.internal.CborReading.{many, until, past_stop}
use Rattle.cbor_edn_stream.specs.Printed.{bracketed, entry_at}
use Rattle.cbor_edn_stream.proofs.lemmas.RowTexts.{fronts}
use Rattle.cbor_edn_model.proofs.lemmas.cbor.CborTurns.{with_front}
use Rattle.cbor_edn_stream.proofs.print.+print.Given as goal

abbrev pub decreases-print_list : goal.decreases-print_list
decreases-print_list l = 10 * l.limit + 1

abbrev pub decreases-print_tag : goal.decreases-print_tag
decreases-print_tag l = 10 * l.limit + 1

abbrev pub decreases-print_parts : goal.decreases-print_parts
decreases-print_parts l = 10 * l.limit + 2

abbrev pub decreases-print_nested : goal.decreases-print_nested
decreases-print_nested l = 10 * l.limit + 4

abbrev pub decreases-print_item : goal.decreases-print_item
decreases-print_item l = 10 * l.limit + 5

abbrev pub decreases-print_pair : goal.decreases-print_pair
decreases-print_pair l = 10 * l.limit + 6

abbrev pub decreases-print_entry : goal.decreases-print_entry
decreases-print_entry l = 10 * l.limit + 7

abbrev pub decreases-print_many : goal.decreases-print_many
decreases-print_many l = 10 * l.limit + 8

abbrev pub decreases-print_until : goal.decreases-print_until
decreases-print_until l = 10 * l.limit + 8

abbrev pub decreases-print_inside : goal.decreases-print_inside
decreases-print_inside l = 10 * l.limit + 9

-- the entries that are read and printed, each with the separator behind it
abbrev pub invariant-print_many-loop : goal.invariant-print_many-loop
invariant-print_many-loop l = record {
  read : (done : List (Tree (OneEntry (entries_of (bracketed l.list))))) × (with_front done (many (entry_at (bracketed l.list) l.limit) (l.count - l.counter) l.rest) ≡ many (entry_at (bracketed l.list) l.limit) l.count l.bytes) × (buffer_bytes l.out ≡ buffer_bytes l.initial.out ++ fronts l.layout done);
  low : l.counter < l.count;
  shorter : length l.rest ≤ length l.bytes;
}

abbrev pub invariant-print_until-turns : goal.invariant-print_until-turns
invariant-print_until-turns l = record {
  read : (done : List (Tree (OneEntry (entries_of (bracketed l.list))))) × (n : ℕ) × (length l.rest < n) × (with_front done (until l.stop (entry_at (bracketed l.list) l.limit) n l.rest) ≡ until l.stop (entry_at (bracketed l.list) l.limit) (suc (length l.bytes)) l.bytes) × (buffer_bytes l.out ≡ buffer_bytes l.initial.out ++ fronts l.layout done);
  going : past_stop l.stop l.rest ≡ None;
  shorter : length l.rest ≤ length l.bytes;
}

abbrev pub decreases-print_until-turns : goal.decreases-print_until-turns
decreases-print_until-turns l = length l.rest
