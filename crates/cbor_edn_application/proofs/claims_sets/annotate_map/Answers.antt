use Rattle.cbor_edn_core.specs.tree.View.{item_tree}
use Rattle.cbor_edn_conversions.specs.Claims.{claim_key}
use Rattle.cbor_edn_application.specs.Handlers.{AreKeysVisited}
use Rattle.cbor_edn_application.proofs.ClaimsSets.{told_stays, memory_cuts}
use Rattle.cbor_edn_application.proofs.claims_sets.annotate_map.Goals as goal

pub returns-in-Err-clause-annotated : goal.returns-in-Err-clause-annotated
returns-in-Err-clause-annotated c = told_stays c.passed_over.result c.in-Err.fault (item_tree c.args.item.now) (item_tree c.annotate_claims.new.item) c.passed_over.ensures.told c.in-Err.ensures.no_map

pub returns-in-Err-clause-out_of_memory : goal.returns-in-Err-clause-out_of_memory
returns-in-Err-clause-out_of_memory c = memory_cuts (λ r. AreKeysVisited claim_key (item_tree c.args.item.now) r (item_tree c.annotate_claims.new.item)) c.passed_over.result c.in-Err.fault c.passed_over.ensures.out_of_memory c.in-Err.ensures.visited
