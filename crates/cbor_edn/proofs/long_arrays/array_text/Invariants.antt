use Rattle.std.proofs.Common.{◌-◌, ◌≤◌, ◌<◌, length}
use Rattle.std.specs.Str.{IsUtf8}
use Rattle.cbor_edn.specs.LongArrays.{front_text}
use Rattle.cbor_edn.proofs.LongArrays.{IsBegun}
use Rattle.cbor_edn.proofs.long_arrays.array_text.Given as goal

-- some elements are read, and their text is printed
abbrev pub invariant-turns : goal.invariant-turns
invariant-turns l = record {
  front : IsUtf8 (front_text l.fn.width l.count);
  begun : IsBegun l.options l.fn.width l.count (l.options.limit - 1) l.bytes l.rest l.left l.out.items;
  some : 0 < l.left;
  behind : length l.rest ≤ length l.bytes;
}

abbrev pub decreases-turns : goal.decreases-turns
decreases-turns l = l.left
