use Rattle.cbor_edn_parts.specs.Leaves.{literal_bytes}
use Rattle.cbor_edn_model.proofs.lemmas.cbor.CborStrings.{definite_read}
use Rattle.cbor_edn_core.proofs.cbor.decode.strings.definite.Goals as goal

pub returns-clause-value : goal.returns-clause-value
returns-clause-value c =
    rw (c.new-row.ensures.items, c.indicator_of.ensures)
    (definite_read c.args.kind c.args.width c.args.count c.args.bytes.now (literal_bytes c.in_ok-literal.literal) c.in_ok-literal.rest.now c.in_ok-literal.ensures.value)
