use Rattle.std.specs.Prelude.{is_ok}
use Rattle.cbor_edn_parts.proofs.lemmas.base.Utf8.{stays_utf8}
use Rattle.cbor_edn_parts.proofs.base.buffer.TextBuffer.push_str.Goals as goal

pub invariant_of-self : goal.invariant_of-self
invariant_of-self c =
    let added = c.extend_from_slice in
    record { utf8 = stays_utf8 (is_ok added.result) _ _ _ c.args.self.now.utf8 ∣ c.as_bytes.ensures.utf8 ∣₁ added.ensures.items }
