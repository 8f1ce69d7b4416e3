use Rattle.std.proofs.Common.{◌≡◌, ◌≤◌, ◌⊎◌, take, drop}
use Rattle.std.specs.Str.{IsCharBoundary}
use Rattle.cbor_edn_parts.specs.internal.CommentReading as definition
use Rattle.cbor_edn_parts.specs.declared.space.SpaceState.TheVariants.{Between}
use Rattle.cbor_edn_parts.proofs.lemmas.space.CommentScans.{kept_with}
use Rattle.cbor_edn_parts.proofs.space.comments.to_last.Given as goal

abbrev pub invariant-bytes : goal.invariant-bytes
invariant-bytes l = record {
  order : l.end ≤ l.at;
  place : (l.end ≡ l.at) ⊎ IsCharBoundary l.text l.end;
  kept : definition.to_last Between l.text ≡ kept_with (take l.end l.text) (take l.at l.text) (definition.to_last l.within (drop l.at l.text));
}
