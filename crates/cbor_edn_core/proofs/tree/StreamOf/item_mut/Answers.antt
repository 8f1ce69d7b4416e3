use Rattle.std.proofs.Common.{◌∙◌, refl, sym, ap, slice_get}
use Rattle.cbor_edn_model.specs.access.Paths.{items_in}
use Rattle.cbor_edn_core.proofs.lemmas.tree.Views.{view_stream_is}
use Rattle.cbor_edn_core.proofs.lemmas.access.Replaced.{on_some, in_stream_replaced, stream_kept}
use Rattle.cbor_edn_core.proofs.tree.StreamOf.item_mut.Goals as goal

pub returns : goal.returns
returns g c =
    let x = c.args.self.now in (
      (refl, λ w. on_some c.item_mut.result (λ h leaves. in_stream_replaced leaves w c.args.i x _ (h leaves)) (c.item_mut.follows.holds w), λ leaves. stream_kept leaves x _ (c.item_mut.follows.holds-at-none leaves)),
      record { lent = tt; value = λ leaves. c.item_mut.ensures.value leaves ∙ sym (ap (λ w. slice_get (items_in w) c.args.i) (view_stream_is leaves x)) },
    )
