use Rattle.std.proofs.Common.{sym, ◌∙◌}
use Rattle.cbor_edn_conversions.proofs.embedded.FirstBytes.{no_structure_in}
use Rattle.cbor_edn_application.proofs.embedded.decoded_structure.Goals as goal

pub returns-then-not-begins_structure : goal.returns-then-not-begins_structure
returns-then-not-begins_structure c =
    sym (no_structure_in c.args.limit c.args.bytes.now c.are_bytes.ensures (sym c.begins_structure.ensures ∙ c.if-not-begins_structure.true))
