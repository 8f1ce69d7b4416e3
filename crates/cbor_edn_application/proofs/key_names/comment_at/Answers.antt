-- The item stands where the loan was.
use Rattle.std.proofs.Common.{[], ◌∷◌, sym, ap, ◌∙◌}
use Rattle.cbor_edn_core.specs.tree.View.{item_tree, sequence_tree}
use Rattle.cbor_edn_model.specs.tree.TreeLeaves.{texts}
use Rattle.cbor_edn_model.specs.access.Paths.{with_at_sequence}
use Rattle.cbor_edn_application.proofs.AfterLoans.{where_lent}
use Rattle.cbor_edn_application.proofs.KeyNames.{item_in_kept}
use Rattle.cbor_edn_application.proofs.key_names.comment_at.Goals as goal

pub returns-in_ok-comment_keys-in-Some-clause-keys : goal.returns-in_ok-comment_keys-in-Some-clause-keys
returns-in_ok-comment_keys-in-Some-clause-keys c = (
  item_tree c.in-Some.item.now,
  sym (c.in-Some.ensures.value texts),
  where_lent c.in-Some.is (c.at_mut.follows.holds c.comment_keys.new.claims) texts
      ∙ ap (λ x. with_at_sequence (c.args.index ∷ []) x (sequence_tree c.args.sequence.now)) c.in_ok-comment_keys-in-Some.ensures.keys,
)

pub returns-in_ok-comment_keys-in-Some-clause-items : goal.returns-in_ok-comment_keys-in-Some-clause-items
returns-in_ok-comment_keys-in-Some-clause-items c =
    item_in_kept c.args.index (sequence_tree c.args.sequence.now) _ (item_tree c.in-Some.item.now) (item_tree c.comment_keys.new.claims) (c.in-Some.ensures.value texts)
    (where_lent c.in-Some.is (c.at_mut.follows.holds c.comment_keys.new.claims) texts) c.comment_keys.ensures.items

pub returns-in_err-comment_keys-in-Some-clause-items : goal.returns-in_err-comment_keys-in-Some-clause-items
returns-in_err-comment_keys-in-Some-clause-items c =
    item_in_kept c.args.index (sequence_tree c.args.sequence.now) _ (item_tree c.in-Some.item.now) (item_tree c.comment_keys.new.claims) (c.in-Some.ensures.value texts)
    (where_lent c.in-Some.is (c.at_mut.follows.holds c.comment_keys.new.claims) texts) c.comment_keys.ensures.items
