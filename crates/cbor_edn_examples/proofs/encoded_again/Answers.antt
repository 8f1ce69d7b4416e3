use Rattle.std.proofs.Common.{◌≡◌, Some, refl}
use Rattle.cbor_edn.specs.View.{standalone_tree}
use Rattle.cbor_edn.specs.Meaning.{means}
use Rattle.cbor_edn.specs.Value.{Value, Enc}
use Rattle.cbor_edn.specs.Trees.{Tree, Standalone, items}
use Rattle.cbor_edn.specs.Visits.{whole}
use Rattle.cbor_edn.proofs.Told.{told_weaker}
use Rattle.cbor_edn_examples.proofs.Outcomes.{ok_again, none_again}
use Rattle.cbor_edn_examples.proofs.encoded_again.Goals as goal

pub returns-clause-bytes : goal.returns-clause-bytes
returns-clause-bytes c =
    let before = standalone_tree c.args.item.now in
    let pretty = standalone_tree c.prettified.new.item in
    let after = standalone_tree c.resolved.new.item in
    let again : (v : Value) → means (items before) ≡ Some v → means (items after) ≡ Some v =
    λ v is. c.calls_resolve_again.ensures.any_items before pretty pretty after whole v is c.in_ok-prettified.ensures refl c.in_ok-resolved.ensures in
    ok_again (means (items before)) (means (items after)) again c.to_cbor.result (λ b v. Enc b.items v) c.to_cbor.ensures.bytes

pub returns-clause-refused : goal.returns-clause-refused
returns-clause-refused c =
    let before = standalone_tree c.args.item.now in
    let pretty = standalone_tree c.prettified.new.item in
    let after = standalone_tree c.resolved.new.item in
    let again : (v : Value) → means (items before) ≡ Some v → means (items after) ≡ Some v =
    λ v is. c.calls_resolve_again.ensures.any_items before pretty pretty after whole v is c.in_ok-prettified.ensures refl c.in_ok-resolved.ensures in
    told_weaker c.to_cbor.result _ _ (λ e none. none_again (means (items before)) (means (items after)) again none) c.to_cbor.ensures.refused
