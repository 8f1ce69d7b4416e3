use Rattle.std.proofs.Common.{◌∙◌, Some, ap, sym}
use Rattle.cbor_edn_core.specs.tree.View.{item_tree}
use Rattle.cbor_edn_conversions.specs.Bignums.{bignum_of_tag}
use Rattle.cbor_edn_application.proofs.BignumBytes.{indicated, no_indicator_is, other_number}
use Rattle.cbor_edn_application.proofs.bignum.bignum_content.Goals as goal

pub returns-then-tag-ne3-clause-none : goal.returns-then-tag-ne3-clause-none
returns-then-tag-ne3-clause-none c = other_number (item_tree c.args.item.now) c.args.tag c.if-tag-ne2.true c.if-tag-ne3.true

pub returns-in_err-indicator-clause-none : goal.returns-in_err-indicator-clause-none
returns-in_err-indicator-clause-none c = rw c.from_residual.ensures (ap bignum_of_tag (sym c.in_err-indicator.ensures))

pub returns-then-is_some-clause-none : goal.returns-then-is_some-clause-none
returns-then-is_some-clause-none c =
    ap bignum_of_tag (sym c.in_ok-indicator.ensures) ∙ indicated c.args.tag c.in_ok-indicator.indicator (item_tree c.in_ok-indicator.content.now) c.if-is_some.ensures

pub returns-clause-some : goal.returns-clause-some
returns-clause-some c =
    sym c.in_ok-indicator.ensures ∙ ap (λ i. Some (c.args.tag, i, item_tree c.in_ok-indicator.content.now)) (no_indicator_is c.in_ok-indicator.indicator c.if-is_some.ensures)
