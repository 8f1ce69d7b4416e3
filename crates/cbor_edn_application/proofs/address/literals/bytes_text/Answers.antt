use Rattle.std.proofs.Common.{rules, arith, ◌≡◌, Some, Err}
use Rattle.std.proofs.lemmas.Grind.{common_steps}
use Rattle.std.specs.Prelude.{option_map}
use Rattle.cbor_edn_core.specs.tree.View.{item_tree}
use Rattle.cbor_edn_model.specs.access.Accessed.{item_bytes}
use Rattle.cbor_edn_conversions.specs.Addresses.{whole_text}
use Rattle.cbor_edn_application.proofs.AddressCalls.{text_of_bytes}
use Rattle.cbor_edn_application.proofs.Told.{told_weaker}
use Rattle.cbor_edn_application.proofs.address.literals.bytes_text.Goals as goal

pub returns-in_err-text-clause-refused : goal.returns-in_err-text-clause-refused
returns-in_err-text-clause-refused c =
    let w = item_tree c.args.item.now in
    let are : Some c.deref.result.now ≡ item_bytes w = first_of (search rules, grind (arith, common_steps), cc) in
    let refused = told_weaker c.address_text.result _ (λ e. option_map (whole_text c.args.version) (item_bytes w) ≡ Some (Err e.now)) (λ e h. text_of_bytes c.args.version (item_bytes w) c.deref.result.now (Err e.now) are h) c.address_text.ensures.refused in
    first_of (search rules, grind (arith, common_steps))

pub returns-clause-text : goal.returns-clause-text
returns-clause-text c =
    let w = item_tree c.args.item.now in
    let are : Some c.deref.result.now ≡ item_bytes w = first_of (search rules, grind (arith, common_steps), cc) in
    text_of_bytes c.args.version (item_bytes w) c.deref.result.now _ are c.in_ok-text.ensures.text
