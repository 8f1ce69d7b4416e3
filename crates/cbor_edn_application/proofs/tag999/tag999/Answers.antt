use Rattle.std.proofs.Common.{rules}
use Rattle.cbor_edn_model.specs.layout.Layout.{laid}
use Rattle.cbor_edn_parts.specs.internal.CommentReading.{up_to_comma, past_comma, from_first, to_last}
use Rattle.cbor_edn_application.proofs.tag999.tag999.Goals as goal

pub returns : goal.returns
unfolding laid up_to_comma past_comma from_first to_last
returns c = search rules
