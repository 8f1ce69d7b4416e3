use Rattle.std.proofs.Common.{◌∙◌, ◌<◌, ◌≤◌, length, map, refl, sym, subst, arith}
use Rattle.std.proofs.lemmas.Option.{slice_get_read}
use Rattle.cbor_edn_model.specs.tree.TreeLeaves.{Ghosts}
use Rattle.cbor_edn_model.specs.access.Paths.{items_in}
use Rattle.cbor_edn_model.specs.internal.Counted.{IsCounted}
use Rattle.cbor_edn_core.specs.tree.View.{view_string}
use Rattle.cbor_edn_core.specs.declared.tree.StringsOf.{out-StringsOf}
use Rattle.cbor_edn_core.proofs.lemmas.access.ItemNumbers.{item_in_string, item_in_last_string}
use Rattle.cbor_edn_core.proofs.lemmas.access.Replaced.{on_some, in_string_replaced, in_last_string_replaced, string_kept, last_string_kept}
use Rattle.cbor_edn_core.proofs.tree.StringsOf.item_mut.Goals as goal

pub returns-then-place-len : goal.returns-then-place-len
returns-then-place-len g c =
    let x = c.args.self.now in
    let row = (out-StringsOf _ _ _ _ _ _ _ x).row in
    let at = c.string_at-place.result in
    let d = c.index_mut-entry.result.now in
    let e = c.index_mut-entry.ensures.value in
    let less : at.0 < length row.items = omega (arith, c.if-place-len.true, c.len.ensures, row.ok.0) in
    let counted : (leaves : Ghosts _ _ _ _ _ _ _) → IsCounted (map (λ p. length (items_in (view_string leaves p.0))) row.items) c.args.i at = λ leaves. subst (λ ps. IsCounted (map (λ p. length (items_in (view_string leaves p.0))) ps) c.args.i at) c.deref.ensures.value (c.string_at-place.ensures leaves) in (
      (
        refl,
        λ w. on_some c.item_mut.result (λ h leaves. in_string_replaced leaves w c.args.i x at.0 at.1 d _ (counted leaves) less e (h leaves)) (c.item_mut.follows.holds w),
        λ leaves. string_kept leaves x at.0 d _ e (c.item_mut.follows.holds-at-none leaves),
      ),
      record { lent = tt; value = λ leaves. c.item_mut.ensures.value leaves ∙ sym (item_in_string leaves x c.args.i at.0 at.1 d (counted leaves) (slice_get_read row.items (length row.items) at.0 d refl less e)) },
    )

pub returns : goal.returns
returns g c =
    let x = c.args.self.now in
    let row = (out-StringsOf _ _ _ _ _ _ _ x).row in
    let at = c.string_at-place.result in
    let more : length row.items ≤ at.0 = omega (arith, c.if-place-len.false, c.len.ensures, row.ok.0) in
    let counted : (leaves : Ghosts _ _ _ _ _ _ _) → IsCounted (map (λ p. length (items_in (view_string leaves p.0))) row.items) c.args.i at = λ leaves. subst (λ ps. IsCounted (map (λ p. length (items_in (view_string leaves p.0))) ps) c.args.i at) c.deref.ensures.value (c.string_at-place.ensures leaves) in (
      (
        refl,
        λ w. on_some c.item_mut-2.result (λ h leaves. in_last_string_replaced leaves w c.args.i x at.0 at.1 _ (counted leaves) more (h leaves)) (c.item_mut-2.follows.holds w),
        λ leaves. last_string_kept leaves x _ (c.item_mut-2.follows.holds-at-none leaves),
      ),
      record { lent = tt; value = λ leaves. c.item_mut-2.ensures.value leaves ∙ sym (item_in_last_string leaves x c.args.i at.0 at.1 (counted leaves) more) },
    )
