use Rattle.std.proofs.Common.{◌≡◌, ◌+◌, ◌≤◌, take}
use Rattle.std.specs.Prelude.{count_by}
use Rattle.cbor_edn_parts.specs.base.Location.{is_line_feed, is_start, last_line}
use Rattle.cbor_edn_parts.proofs.base.location.with_location.Given as goal

abbrev pub invariant-bytes : goal.invariant-bytes
invariant-bytes l = record {
  line : l.line ≡ 1 + count_by is_line_feed (take l.at l.text.all.now);
  column : l.column ≡ 1 + count_by is_start (last_line (take l.at l.text.all.now));
  line_small : l.line ≤ 1 + l.at;
  column_small : l.column ≤ 1 + l.at;
  cost : l.looks.count ≡ l.fn.looks.count + l.at;
}
