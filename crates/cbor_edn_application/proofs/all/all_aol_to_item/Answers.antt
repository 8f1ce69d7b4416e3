use Rattle.std.proofs.Common.{◌≡◌, ◌∙◌, codes, subst}
use Rattle.std.specs.Prelude.{◌⊎◌, string_bytes}
use Rattle.cbor_edn_core.specs.tree.View.{item_tree}
use Rattle.cbor_edn_application.proofs.OneOfAll.{time_of_literal, address_of_literal}
use Rattle.cbor_edn_application.proofs.all.all_aol_to_item.Goals as goal

pub returns-in-dt : goal.returns-in-dt
returns-in-dt c = time_of_literal (string_bytes c.args.prefix) (string_bytes c.args.text) (item_tree c.args.item.now) _ _ (subst (λ p. (p ≡ codes "dt") ⊎ (p ≡ codes "DT")) c.as_str.ensures.value c.in-dt.is) c.dt_aol_to_item.ensures

pub returns-in_default : goal.returns-in_default
returns-in_default c = address_of_literal (string_bytes c.args.prefix) (string_bytes c.args.text) (item_tree c.args.item.now) _ _ (λ e. c.in_default.not-dt (c.as_str.ensures.value ∙ e)) (λ e. c.in_default.not-DT (c.as_str.ensures.value ∙ e)) c.ip_aol_to_item.ensures
