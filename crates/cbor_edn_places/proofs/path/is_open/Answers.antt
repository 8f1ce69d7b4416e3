use Rattle.std.proofs.Common.{◌≡◌, ◌≢◌, [], false, ◌∙◌, ap, sym}
use Rattle.std.specs.Prelude.{option_map, unwrap_or}
use Rattle.std.proofs.lemmas.Grind.{common_steps}
use Rattle.std.proofs.Common.{arith}
use Rattle.cbor_edn_core.specs.tree.View.{sequence_tree}
use Rattle.cbor_edn_model.specs.access.Paths.{at_sequence}
use Rattle.cbor_edn_places.specs.Places.{is_structure}
use Rattle.cbor_edn_places.proofs.FirstPlaces.{open_string}
use Rattle.cbor_edn_places.proofs.path.is_open.Goals as goal

pub returns-clause-open : goal.returns-clause-open
returns-clause-open c =
    let some : c.args.path.now.items ≢ [] = grind (arith, common_steps) in
    let e : unwrap_or (option_map is_structure (at_sequence c.deref.result.now (sequence_tree c.args.sequence.now))) false ≡ false = sym c.is_structure_at.ensures.value ∙ c.if-is_structure_at.false in
    open_string c.args.path.now.items (sequence_tree c.args.sequence.now) (sequence_tree c.is_structure_at.new.sequence) c.deref-2.result.now c.leads-more.result some
    (ap (λ p. unwrap_or (option_map is_structure (at_sequence p (sequence_tree c.args.sequence.now))) false) (sym c.deref.ensures.value) ∙ e)
    c.leads-more.ensures.value (c.deref-2.ensures.value ∙ c.in_ok-push.ensures.items) c.is_structure_at.ensures.same
