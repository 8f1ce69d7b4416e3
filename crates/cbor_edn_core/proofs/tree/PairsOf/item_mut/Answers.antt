use Rattle.std.proofs.Common.{◌≡◌, ◌<◌, ◌/◌, length, refl, arith}
use Rattle.cbor_edn_core.specs.declared.tree.PairsOf.{out-PairsOf}
use Rattle.cbor_edn_core.proofs.lemmas.access.ItemNumbers.{pair_within, pair_last, pair_past, key_at, value_at, no_pair_at}
use Rattle.cbor_edn_core.proofs.lemmas.access.Replaced.{key_replaced, value_replaced, last_key_replaced, last_value_replaced}
use Rattle.cbor_edn_core.proofs.tree.PairsOf.item_mut.Goals as goal

pub returns-then-i-eq0 : goal.returns-then-i-eq0
returns-then-i-eq0 g c =
    let x = c.args.self.now in
    let d = c.index_mut-entry.result.now in
    let e = c.index_mut-entry.ensures.value in
    let even = c.if-i-eq0.true in
    let less : c.args.i / 2 < length (out-PairsOf _ _ _ _ _ _ _ x).row.items = omega (arith, c.if-place-len.true, c.len.ensures, (out-PairsOf _ _ _ _ _ _ _ x).row.ok.0) in
    ((refl, λ w leaves. key_replaced leaves w c.args.i x d even less e, λ leaves. refl), record { lent = tt; value = λ leaves. key_at leaves x c.args.i d.0 even (pair_within leaves x (c.args.i / 2) d less e) })

pub returns-then-place-len : goal.returns-then-place-len
returns-then-place-len g c =
    let x = c.args.self.now in
    let d = c.index_mut-entry.result.now in
    let e = c.index_mut-entry.ensures.value in
    let odd = c.if-i-eq0.false in
    let less : c.args.i / 2 < length (out-PairsOf _ _ _ _ _ _ _ x).row.items = omega (arith, c.if-place-len.true, c.len.ensures, (out-PairsOf _ _ _ _ _ _ _ x).row.ok.0) in
    ((refl, λ w leaves. value_replaced leaves w c.args.i x d odd less e, λ leaves. refl), record { lent = tt; value = λ leaves. value_at leaves x c.args.i d.0 odd (pair_within leaves x (c.args.i / 2) d less e) })

pub returns-then-i-eq0-2 : goal.returns-then-i-eq0-2
returns-then-i-eq0-2 g c =
    let x = c.args.self.now in
    let even = c.if-i-eq0-2.true in
    let e : c.args.i / 2 ≡ length (out-PairsOf _ _ _ _ _ _ _ x).row.items = omega (arith, c.if-place-len-2.true, c.len-2.ensures, (out-PairsOf _ _ _ _ _ _ _ x).row.ok.0) in
    ((refl, λ w leaves. last_key_replaced leaves w c.args.i x even e, λ leaves. refl), record { lent = tt; value = λ leaves. key_at leaves x c.args.i (out-PairsOf _ _ _ _ _ _ _ x).last even (pair_last leaves x (c.args.i / 2) e) })

pub returns-then-place-len-2 : goal.returns-then-place-len-2
returns-then-place-len-2 g c =
    let x = c.args.self.now in
    let odd = c.if-i-eq0-2.false in
    let e : c.args.i / 2 ≡ length (out-PairsOf _ _ _ _ _ _ _ x).row.items = omega (arith, c.if-place-len-2.true, c.len-2.ensures, (out-PairsOf _ _ _ _ _ _ _ x).row.ok.0) in
    ((refl, λ w leaves. last_value_replaced leaves w c.args.i x odd e, λ leaves. refl), record { lent = tt; value = λ leaves. value_at leaves x c.args.i (out-PairsOf _ _ _ _ _ _ _ x).last odd (pair_last leaves x (c.args.i / 2) e) })

pub returns : goal.returns
returns g c =
    let x = c.args.self.now in
    let ends = c.if-place-len-2.false in (
      (refl, λ w. tt, λ leaves. refl),
      record { lent = tt; value = λ leaves. no_pair_at leaves x c.args.i (pair_past leaves x (c.args.i / 2) (omega (arith, c.if-place-len.false, c.len.ensures, c.len-2.ensures, ends, (out-PairsOf _ _ _ _ _ _ _ x).row.ok.0))) },
    )
