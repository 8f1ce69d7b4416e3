use Rattle.std.proofs.lemmas.Str.{IsUtf8-had}
use Rattle.cbor_edn_parts.proofs.base.buffer.TextBuffer.into_bytes.Goals as goal

pub returns-clause-utf8 : goal.returns-clause-utf8
returns-clause-utf8 c = IsUtf8-had _ c.args.self.utf8
