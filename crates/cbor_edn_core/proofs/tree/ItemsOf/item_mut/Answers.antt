use Rattle.std.proofs.Common.{◌≡◌, ◌<◌, length, refl, arith}
use Rattle.cbor_edn_core.specs.declared.tree.ItemsOf.{out-ItemsOf}
use Rattle.cbor_edn_core.proofs.lemmas.access.ItemNumbers.{element_within, element_last, element_past}
use Rattle.cbor_edn_core.proofs.lemmas.access.Replaced.{element_replaced, last_element_replaced}
use Rattle.cbor_edn_core.proofs.tree.ItemsOf.item_mut.Goals as goal

pub returns-then-i-len : goal.returns-then-i-len
returns-then-i-len g c =
    let x = c.args.self.now in
    let d = c.index_mut-entry.result.now in
    let e = c.index_mut-entry.ensures.value in
    let less : c.args.i < length (out-ItemsOf _ _ _ _ _ _ _ x).row.items = omega (arith, c.if-i-len.true, c.len.ensures, (out-ItemsOf _ _ _ _ _ _ _ x).row.ok.0) in
    ((refl, λ w leaves. element_replaced leaves w c.args.i x d less e, λ leaves. refl), record { lent = tt; value = λ leaves. element_within leaves x c.args.i d less e })

pub returns-then-i-len-2 : goal.returns-then-i-len-2
returns-then-i-len-2 g c =
    let x = c.args.self.now in
    let e : c.args.i ≡ length (out-ItemsOf _ _ _ _ _ _ _ x).row.items = omega (arith, c.if-i-len-2.true, c.len-2.ensures, (out-ItemsOf _ _ _ _ _ _ _ x).row.ok.0) in
    ((refl, λ w leaves. last_element_replaced leaves w c.args.i x e, λ leaves. refl), record { lent = tt; value = λ leaves. element_last leaves x c.args.i e })

pub returns : goal.returns
returns g c =
    let x = c.args.self.now in
    let ends = c.if-i-len-2.false in (
      (refl, λ w. tt, λ leaves. refl),
      record { lent = tt; value = λ leaves. element_past leaves x c.args.i (omega (arith, c.if-i-len.false, c.len.ensures, c.len-2.ensures, ends, (out-ItemsOf _ _ _ _ _ _ _ x).row.ok.0)) },
    )
