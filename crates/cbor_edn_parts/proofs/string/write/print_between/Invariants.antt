use Rattle.std.proofs.Common.{◌≡◌, ◌≤◌, ◌++◌, take, drop}
use Rattle.std.specs.Prelude.{string_bytes}
use Rattle.std.specs.Str.{IsCharBoundary}
use Rattle.cbor_edn_parts.specs.string.Contents.{all_escaped}
use Rattle.cbor_edn_parts.proofs.string.write.print_between.Given as goal

-- what is written, and what waits to be
abbrev pub invariant-bytes : goal.invariant-bytes
invariant-bytes l = record {
  order : l.from ≤ l.at;
  begins : IsCharBoundary l.text l.from;
  written : string_bytes l.literal ++ drop l.from (take l.at l.text) ≡ string_bytes l.fn.literal ++ all_escaped (take l.at l.text);
}
