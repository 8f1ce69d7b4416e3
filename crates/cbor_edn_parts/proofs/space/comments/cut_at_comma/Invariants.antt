use Rattle.std.proofs.Common.{◌≡◌, ◌++◌, take, drop}
use Rattle.cbor_edn_parts.specs.internal.CommentReading.{before_comma, after_comma, up_to_comma, past_comma}
use Rattle.cbor_edn_parts.proofs.space.comments.cut_at_comma.Given as goal

abbrev pub invariant-bytes : goal.invariant-bytes
invariant-bytes l = record {
  before : before_comma l.text ≡ take l.at l.text ++ up_to_comma l.within (drop l.at l.text);
  after : after_comma l.text ≡ past_comma l.within (drop l.at l.text);
}
