use Rattle.std.proofs.Common.{rules, arith}
use Rattle.std.proofs.lemmas.Grind.{common_steps}
use Rattle.cbor_edn_conversions.specs.Conversions.{literal_tree}
use Rattle.cbor_edn_conversions.specs.Addresses.{address_prefix, address_item}
use Rattle.cbor_edn_application.proofs.address.placing.whole_literal.Goals as goal

pub returns-in_err-keep_encoding-clause-refused : goal.returns-in_err-keep_encoding-clause-refused
returns-in_err-keep_encoding-clause-refused c =
    let changed = c.keep_encoding.ensures.changed (literal_tree (address_prefix c.args.wrap) c.args.text.now) (address_item c.args.wrap c.args.text.now) c.address_item.ensures.converted c.address_item.ensures.refused in
    first_of (search rules, grind (arith, common_steps))
