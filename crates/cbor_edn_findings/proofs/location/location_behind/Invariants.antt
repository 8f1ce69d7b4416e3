use Rattle.std.proofs.Common.{◌≡◌, ◌+◌, ◌≤◌, take}
use Rattle.std.specs.Prelude.{count_by}
use Rattle.cbor_edn_parts.specs.base.Location.{is_line_feed, is_start, last_line}
use Rattle.cbor_edn_findings.proofs.location.location_behind.Given as goal

-- the location of what was read
abbrev pub invariant-bytes : goal.invariant-bytes
invariant-bytes l = record {
  line : l.line ≡ 1 + count_by is_line_feed (take l.at l.front);
  column : l.column ≡ 1 + count_by is_start (last_line (take l.at l.front));
  line_small : l.line ≤ 1 + l.at;
  column_small : l.column ≤ 1 + l.at;
}
