use Rattle.std.proofs.Common.{refl, ap, ◌∙◌}
use Rattle.cbor_edn_core.specs.declared.tree.StringsOf.{out-StringsOf, roll-StringsOf, out-roll-StringsOf}
use Rattle.cbor_edn_parts.specs.declared.space.Space.{Space}
use Rattle.cbor_edn_parts.specs.declared.space.MandatorySpace.{MandatorySpace}
use Rattle.cbor_edn_parts.specs.declared.space.Separator.{Separator}
use Rattle.cbor_edn_parts.specs.declared.space.ListEnd.{ListEnd}
use Rattle.cbor_edn_parts.specs.declared.number.Number.{Number}
use Rattle.cbor_edn_parts.specs.declared.string.Literal.{Literal}
use Rattle.cbor_edn_parts.specs.declared.string.Ellipsis.{Ellipsis}
use Rattle.cbor_edn_model.specs.layout.Bare.{without_indicators}
use Rattle.cbor_edn_core.specs.tree.View.{view_string}
use Rattle.cbor_edn_model.specs.tree.TreeLeaves.{texts}
use Rattle.cbor_edn_model.proofs.lemmas.layout.WrittenFields.{two_written}
use Rattle.cbor_edn_core.proofs.lemmas.layout.ViewsWithoutIndicators.{strings_without_indicators}
use Rattle.cbor_edn_core.proofs.layout.indicators.remove_strings_indicators.Goals as goal

pub returns : goal.returns
returns c =
    let roll = roll-StringsOf Space MandatorySpace Separator ListEnd Number Literal Ellipsis in
    let out = out-StringsOf Space MandatorySpace Separator ListEnd Number Literal Ellipsis in
    let back = out-roll-StringsOf Space MandatorySpace Separator ListEnd Number Literal Ellipsis in
    let x = c.args.strings.now in
    let row = c.remove_string_row_indicators.new.row in
    let last = c.remove_string_indicators.new.string in
    let written = two_written roll out back (λ f. record { row = row; last = f.last; end = f.end }) (λ f. record { row = f.row; last = last; end = f.end }) (out x) in
    let kept_last = ap (λ f. without_indicators (view_string texts f.last)) (back (record { row = row; last = (out x).last; end = (out x).end })) in
    strings_without_indicators texts x _ (record { row = row; last = last; end = (out x).end }) written c.remove_string_row_indicators.ensures (c.remove_string_indicators.ensures ∙ kept_last) refl
