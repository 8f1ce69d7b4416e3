use Rattle.std.proofs.Common.{◌≡◌, ◌∙◌, ◌<◌, suc, length, refl, sym, ap, arith}
use Rattle.std.proofs.lemmas.Bool.{false≢true}
use Rattle.std.specs.List.{slice_index}
use Rattle.cbor_edn_model.specs.access.Paths.{with_item}
use Rattle.cbor_edn_model.proofs.lemmas.access.ReplacedItems.{put_back, sequence_last_value, sequence_last_with, sequence_more_value, sequence_more_with}
use Rattle.cbor_edn_core.specs.tree.View.{view_item, view_sequence}
use Rattle.cbor_edn_core.proofs.lemmas.access.Replaced.{then_some}
use Rattle.cbor_edn_core.proofs.tree.SequenceOf.at_mut.Goals as goal

pub returns-then-is_last : goal.returns-then-is_last
returns-then-is_last g c =
    let x = c.args.self.now in
    let path = c.args.path.now in
    let item = c.in-Some.item.now in
    let ends : suc 0 ≡ length path = c.is_last.ensures.0 c.if-is_last.true in (
      (
        refl,
        λ w leaves. sequence_last_with (view_sequence leaves x) (view_item leaves item) path ends (c.in-Some.ensures.value leaves) (view_item leaves w) _ ((rw c.in-Some.is at (c.item_mut.follows.holds w)) leaves),
        λ leaves. refl,
      ),
      record { lent = tt; value = λ leaves. sequence_last_value (view_sequence leaves x) (view_item leaves item) path ends (c.in-Some.ensures.value leaves) },
    )

pub returns : goal.returns
returns g c =
    let x = c.args.self.now in
    let path = c.args.path.now in
    let item = c.in-Some.item.now in
    let within : 0 < length path = (let more : length path ≡ 0 → ⊥ = λ e. false≢true (sym c.if-is_empty.false ∙ c.is_empty.ensures.1 e) in omega (arith, more)) in (
      (
        refl,
        λ w. then_some c.below_mut.result (c.below_mut.follows.holds w) (λ h leaves. sequence_more_with (view_sequence leaves x) (view_item leaves item) path within (c.in-Some.ensures.value leaves) (view_item leaves w) _ _ (h leaves)
            ((rw c.in-Some.is at (c.item_mut.follows.holds (record { inner = c.below_mut.follows.lender w }))) leaves)),
        λ leaves. (rw c.in-Some.is at (c.item_mut.follows.holds (record { inner = c.below_mut.follows.lender-at-none }))) leaves
            ∙ ap (λ u. with_item (slice_index path 0) u (view_sequence leaves x)) (c.below_mut.follows.holds-at-none leaves)
            ∙ put_back (slice_index path 0) (view_item leaves item) (view_sequence leaves x) (sym (c.in-Some.ensures.value leaves)),
      ),
      record { lent = tt; value = λ leaves. c.below_mut.ensures.value leaves ∙ sequence_more_value (view_sequence leaves x) (view_item leaves item) path within (c.in-Some.ensures.value leaves) },
    )
