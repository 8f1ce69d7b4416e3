use Rattle.std.proofs.Common.{◌≡◌, drop}
use Rattle.std.specs.Str.{IsCharBoundary}
use Rattle.cbor_edn_parts.specs.internal.CommentReading as definition
use Rattle.cbor_edn_parts.proofs.space.comments.from_first.Given as goal

abbrev pub invariant-bytes : goal.invariant-bytes
invariant-bytes l = record {
  place : IsCharBoundary l.text l.at;
  rest : definition.from_first l.text ≡ definition.from_first (drop l.at l.text);
}
