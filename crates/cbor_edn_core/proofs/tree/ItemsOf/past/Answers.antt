use Rattle.std.proofs.Common.{◌≡◌, ◌-◌, ◌∙◌, length, Some, ap, arith}
use Rattle.cbor_edn_model.specs.access.Paths.{items_in}
use Rattle.cbor_edn_model.proofs.lemmas.access.CountedItems.{past_within, past_behind}
use Rattle.cbor_edn_core.specs.tree.View.{view_items}
use Rattle.cbor_edn_core.specs.declared.tree.ItemsOf.{out-ItemsOf}
use Rattle.cbor_edn_core.proofs.lemmas.access.ItemNumbers.{elements_number}
use Rattle.cbor_edn_core.proofs.tree.ItemsOf.past.Goals as goal

pub returns-then-i-len : goal.returns-then-i-len
returns-then-i-len g c = λ leaves.
    let ok = (out-ItemsOf _ _ _ _ _ _ _ c.args.self.now).row.ok.0 in
    let number = elements_number leaves c.args.self.now in
    let less : (c.args.i - c.len-then-i-len.result) - 1 ≡ c.args.i - length (items_in (view_items leaves c.args.self.now)) = omega (arith, c.if-i-len.true, c.len.ensures, c.len-then-i-len.ensures, ok, number) in
    ap Some less ∙ past_behind _ c.args.i (omega (arith, c.if-i-len.true, c.len.ensures, ok, number))

pub returns-else-i-len : goal.returns-else-i-len
returns-else-i-len g c = λ leaves.
    past_within _ c.args.i (omega (arith, c.if-i-len.false, c.len.ensures, (out-ItemsOf _ _ _ _ _ _ _ c.args.self.now).row.ok.0, elements_number leaves c.args.self.now))
