use Rattle.std.proofs.Common.{refl, ap}
use Rattle.cbor_edn_model.specs.tree.Trees.{StandaloneTree}
use Rattle.cbor_edn_core.proofs.lemmas.access.Replaced.{then_some}
use Rattle.cbor_edn_core.proofs.tree.StandaloneItemOf.at_mut.Goals as goal

pub returns : goal.returns
returns g c =
    let x = c.args.self.now in (
      (
        refl,
        λ w. then_some c.below_mut.result (c.below_mut.follows.holds w) (λ h leaves. ap (λ t. StandaloneTree (leaves.space x.before) t (leaves.space x.after)) (h leaves)),
        λ leaves. ap (λ t. StandaloneTree (leaves.space x.before) t (leaves.space x.after)) (c.below_mut.follows.holds-at-none leaves),
      ),
      record { lent = tt; value = c.below_mut.ensures.value },
    )
