use Rattle.std.proofs.Common.{◌∙◌, sym, ap}
use Rattle.std.specs.List.{slice_index}
use Rattle.cbor_edn_model.specs.access.Paths.{with_item}
use Rattle.cbor_edn_model.proofs.lemmas.access.ReplacedItems.{put_back}
use Rattle.cbor_edn_core.specs.tree.View.{view_inner, view_item}
use Rattle.cbor_edn_core.proofs.tree.InnerItemOf.+leads.Goals as goal

pub returns-then-is_last-clause-same : goal.returns-then-is_last-clause-same
returns-then-is_last-clause-same g t c = λ leaves.
    (rw c.in-Some.is at (c.item_mut.follows.holds c.in-Some.item.now)) leaves
    ∙ put_back _ (view_item leaves c.in-Some.item.now) (view_inner leaves c.args.self.now) (sym (c.in-Some.ensures.value leaves))

pub returns-clause-same : goal.returns-clause-same
returns-clause-same g t c = λ leaves.
    (rw c.in-Some.is at (c.item_mut.follows.holds (record { inner = c.leads.new.self }))) leaves
    ∙ ap (λ u. with_item (slice_index c.args.path.now c.args.at) u (view_inner leaves c.args.self.now)) (c.leads.ensures.same leaves)
    ∙ put_back _ (view_item leaves c.in-Some.item.now) (view_inner leaves c.args.self.now) (sym (c.in-Some.ensures.value leaves))
