use Rattle.std.proofs.Common.{Some, false, ap}
use Rattle.cbor_edn_core.specs.tree.View.{item_tree}
use Rattle.cbor_edn_model.specs.tree.Trees.{Tree, OneItem, items}
use Rattle.cbor_edn_model.specs.visit.Visits.{Answer, fine, comment, no_memory}
use Rattle.cbor_edn_conversions.specs.declared.tables.ClaimValue.TheVariants.{Timestamp}
use Rattle.cbor_edn_conversions.specs.Claims.{claim_value}
use Rattle.cbor_edn_conversions.specs.Conversions.{reply}
use Rattle.cbor_edn_conversions.specs.Times.{time_literal}
use Rattle.cbor_edn_application.specs.Acts.{ActsSo}
use Rattle.cbor_edn_application.specs.Handlers.{ValueAnswers}
use Rattle.cbor_edn_application.proofs.SaidErrors.{any_error}
use Rattle.cbor_edn_application.proofs.claims.put_time.Goals as goal

time_value : (w v : Tree OneItem) (r : Answer) → ActsSo (λ x. reply x (Some (time_literal w false))) w r v → ValueAnswers (claim_value Timestamp) w r v
time_value w v fine h = h
time_value w v (comment t) h = h
time_value w v no_memory h = ap (λ x. items x) h

pub returns-in-Err-clause-value : goal.returns-in-Err-clause-value
returns-in-Err-clause-value c =
    let w = item_tree c.args.value.now in
    time_value w _ _ (c.in-Err.ensures (time_literal w false) c.dt_item_to_aol-literal.ensures.converted c.dt_item_to_aol-literal.ensures.refused)

pub returns-in-Err-clause-errors : goal.returns-in-Err-clause-errors
returns-in-Err-clause-errors c = any_error c.in-Err.error
