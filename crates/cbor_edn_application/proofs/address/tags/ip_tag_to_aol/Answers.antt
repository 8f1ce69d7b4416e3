use Rattle.std.proofs.Common.{refl, sym, subst}
use Rattle.cbor_edn_core.specs.visit.Sought.{sought_answer}
use Rattle.cbor_edn_core.specs.tree.View.{item_tree}
use Rattle.cbor_edn_model.specs.visit.Seeking.{number}
use Rattle.cbor_edn_model.specs.visit.Visits.{fine}
use Rattle.cbor_edn_conversions.specs.Addresses.{pretty_address}
use Rattle.cbor_edn_application.specs.Acts.{ActsBy}
use Rattle.cbor_edn_application.proofs.AddressTags.{no_literal}
use Rattle.cbor_edn_application.proofs.AddressCalls.{acts_so}
use Rattle.cbor_edn_application.proofs.address.tags.ip_tag_to_aol.Goals as goal

pub returns-in-Some : goal.returns-in-Some
returns-in-Some c = subst (λ n. ActsBy pretty_address (number n) (item_tree c.args.item.now) (sought_answer c.version_tag_to_aol.result) (item_tree c.version_tag_to_aol.new.item)) (sym c.in-Some.ensures.version) c.version_tag_to_aol.ensures

pub returns-in-None : goal.returns-in-None
unfolding pretty_address
returns-in-None c = acts_so _ _ (item_tree c.args.item.now) (item_tree c.args.item.now) fine (sym (no_literal c.args.tag c.in-None.ensures.other (item_tree c.args.item.now))) (refl, refl)
