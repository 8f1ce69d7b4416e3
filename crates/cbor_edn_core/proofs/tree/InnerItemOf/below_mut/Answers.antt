use Rattle.std.proofs.Common.{◌∙◌, refl, ap, drop}
use Rattle.cbor_edn_model.specs.access.Paths.{at as at_path, with_at}
use Rattle.cbor_edn_core.specs.tree.View.{view_item}
use Rattle.cbor_edn_core.proofs.lemmas.access.Replaced.{on_some}
use Rattle.cbor_edn_core.proofs.tree.InnerItemOf.below_mut.Goals as goal

pub returns-then-leads : goal.returns-then-leads
returns-then-leads g c =
    let path = drop c.args.at c.args.path.now in (
      (
        refl,
        λ w. on_some c.descend.result (λ h leaves. h leaves ∙ ap (λ t. with_at path (view_item leaves w) t) (c.leads.ensures.same leaves)) (c.descend.follows.holds w),
        λ leaves. c.descend.follows.holds-at-none leaves ∙ c.leads.ensures.same leaves,
      ),
      record { lent = tt; value = λ leaves. c.descend.ensures.value leaves ∙ ap (at_path path) (c.leads.ensures.same leaves) },
    )
