-- The item stands where the loan was.
use Rattle.std.proofs.Common.{[], ◌∷◌, sym, ap, ◌∙◌}
use Rattle.cbor_edn_core.specs.tree.View.{item_tree, sequence_tree}
use Rattle.cbor_edn_model.specs.tree.TreeLeaves.{texts}
use Rattle.cbor_edn_model.specs.access.Paths.{with_at_sequence}
use Rattle.cbor_edn_application.proofs.AfterLoans.{where_lent}
use Rattle.cbor_edn_application.proofs.ClaimsSets.{err_holds}
use Rattle.cbor_edn_application.proofs.claims_sets.annotate_at.Goals as goal

pub returns-in_ok-annotate_map-in-Some-clause-annotated : goal.returns-in_ok-annotate_map-in-Some-clause-annotated
returns-in_ok-annotate_map-in-Some-clause-annotated c = (
  item_tree c.in-Some.item.now,
  sym (c.in-Some.ensures.value texts),
  where_lent c.in-Some.is (c.at_mut.follows.holds c.annotate_map.new.item) texts
      ∙ ap (λ x. with_at_sequence (c.args.index ∷ []) x (sequence_tree c.args.sequence.now)) c.in_ok-annotate_map-in-Some.ensures.annotated,
)

pub returns-in_err-annotate_map-in-Some-clause-out_of_memory : goal.returns-in_err-annotate_map-in-Some-clause-out_of_memory
returns-in_err-annotate_map-in-Some-clause-out_of_memory c = err_holds c.from_residual.result (
  item_tree c.in-Some.item.now,
  item_tree c.annotate_map.new.item,
  sym (c.in-Some.ensures.value texts),
  c.in_err-annotate_map-in-Some.ensures.out_of_memory,
  where_lent c.in-Some.is (c.at_mut.follows.holds c.annotate_map.new.item) texts,
)
