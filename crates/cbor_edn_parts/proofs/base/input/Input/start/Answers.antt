use Rattle.std.proofs.lemmas.Str.{IsCharBoundary-start}
use Rattle.cbor_edn_parts.proofs.base.input.Input.start.Goals as goal

pub returns-clause-place : goal.returns-clause-place
returns-clause-place c = IsCharBoundary-start _ (rw (c.as_str-text.ensures) at c.as_str-text.utf8)
