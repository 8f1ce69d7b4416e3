-- A sequence with the comments of its claims sets means what it meant.
use Rattle.std.proofs.Common.{Some}
use Rattle.cbor_edn_model.specs.tree.Items.{Elements}
use Rattle.cbor_edn_model.specs.cbor.Meaning.{one_more}
use Rattle.cbor_edn_model.specs.tree.Trees.{Tree, OneItem, Rest, Seq, ElementTree, LastTree, MoreTree, NothingTree, SequenceTree, items}
use Rattle.cbor_edn_model.specs.cbor.Value.{Values, no_values}
use Rattle.cbor_edn_conversions.specs.Claims.{with_claims}
use Rattle.cbor_edn_conversions.specs.Resolvers.{TurnsTo, literal_resolver}
use Rattle.cbor_edn_conversions.specs.Resolving.{Resolver, means_by}
use Rattle.cbor_edn_conversions.proofs.conversions.ConversionsKept.{claims_keep}
use Rattle.cbor_edn_conversions.proofs.resolving.Keeping.{two_steps}
use Rattle.cbor_edn_conversions.proofs.resolving.VisitsKept.{Below, belows}
use Rattle.cbor_edn_application.specs.VisitLaws.{ClaimsSetsKeep}
use Rattle.cbor_edn_application.specs.Sequences.{each_item, with_each}

module _ (R : Resolver) (f : Tree OneItem → Tree OneItem) (turns : (w : Tree OneItem) → TurnsTo R R w (f w)) where
  row_keeps : (m : Tree (Rest Elements)) → Below Values (means_by R (items m)) (means_by R (items (each_item f m)))
  unfolding items means_by
  row_keeps (LastTree (ElementTree w) s) = two_steps Below belows (means_by R (items w)) (means_by R (items (f w))) (Some no_values) (Some no_values) (one_more Elements) (turns w) (λ x e. e)
  row_keeps (MoreTree (ElementTree w) s m) = two_steps Below belows (means_by R (items w)) (means_by R (items (f w))) (means_by R (items m)) (means_by R (items (each_item f m))) (one_more Elements) (turns w) (row_keeps m)

  pub each_keeps : (w : Tree Seq) → Below Values (means_by R (items w)) (means_by R (items (with_each f w)))
  unfolding items
  each_keeps (NothingTree s) x e = e
  each_keeps (SequenceTree s m) x e = row_keeps m x e

pub claims_sets_keep : ClaimsSetsKeep
claims_sets_keep w xs e = each_keeps literal_resolver (λ w. (with_claims w).1) claims_keep w xs e
