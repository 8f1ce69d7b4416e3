use Rattle.std.proofs.Common.{refl, ap, ◌∙◌}
use Rattle.cbor_edn_parts.specs.declared.space.Space.{Space}
use Rattle.cbor_edn_parts.specs.declared.space.MandatorySpace.{MandatorySpace}
use Rattle.cbor_edn_parts.specs.declared.space.Separator.{Separator}
use Rattle.cbor_edn_parts.specs.declared.space.ListEnd.{ListEnd}
use Rattle.cbor_edn_parts.specs.declared.number.Number.{Number}
use Rattle.cbor_edn_parts.specs.declared.string.Literal.{Literal}
use Rattle.cbor_edn_parts.specs.declared.string.Ellipsis.{Ellipsis}
use Rattle.cbor_edn_parts.specs.Leaves.{list_end_bytes}
use Rattle.cbor_edn_parts.specs.space.Spacing.{AtEnd}
use Rattle.cbor_edn_core.specs.declared.tree.StringsOf.{out-StringsOf, roll-StringsOf, out-roll-StringsOf}
use Rattle.cbor_edn_model.specs.layout.Layout.{Last, in_chunk, laid, respaced}
use Rattle.cbor_edn_model.specs.tree.Trees.{items}
use Rattle.cbor_edn_core.specs.tree.View.{view_string}
use Rattle.cbor_edn_model.specs.tree.TreeLeaves.{texts}
use Rattle.cbor_edn_model.proofs.lemmas.layout.WrittenFields.{two_written, after_two, three_written}
use Rattle.cbor_edn_model.proofs.lemmas.layout.Begun.{on_ok}
use Rattle.cbor_edn_core.proofs.lemmas.layout.LaidStrings.{strings_laid, strings_same}
use Rattle.cbor_edn_core.proofs.layout.strings.lay_strings.Goals as goal

pub returns-in_err-lay_string_row-clause-items : goal.returns-in_err-lay_string_row-clause-items
returns-in_err-lay_string_row-clause-items c =
    let o = out-StringsOf Space MandatorySpace Separator ListEnd Number Literal Ellipsis c.args.strings.now in
    strings_same texts c.args.strings.now _ (record { row = c.lay_string_row.new.row; last = o.last; end = o.end }) refl c.lay_string_row.ensures.items refl

pub returns-in_err-lay_string-clause-items : goal.returns-in_err-lay_string-clause-items
returns-in_err-lay_string-clause-items c =
    let o = out-StringsOf Space MandatorySpace Separator ListEnd Number Literal Ellipsis c.args.strings.now in
    let written = two_written (roll-StringsOf Space MandatorySpace Separator ListEnd Number Literal Ellipsis) (out-StringsOf Space MandatorySpace Separator ListEnd Number Literal Ellipsis) (out-roll-StringsOf Space MandatorySpace Separator ListEnd Number Literal Ellipsis) (λ f. record { row = c.lay_string_row.new.row; last = f.last; end = f.end }) (λ f. record { row = f.row; last = c.lay_string.new.string; end = f.end }) o in
    let last = ap (λ f. items (view_string texts f.last)) (out-roll-StringsOf Space MandatorySpace Separator ListEnd Number Literal Ellipsis (record { row = c.lay_string_row.new.row; last = o.last; end = o.end })) in
    strings_same texts c.args.strings.now _ (record { row = c.lay_string_row.new.row; last = c.lay_string.new.string; end = o.end }) written c.lay_string_row.ensures.items (c.lay_string.ensures.items ∙ last)

pub returns-clause-laid : goal.returns-clause-laid
returns-clause-laid c =
    let o = out-StringsOf Space MandatorySpace Separator ListEnd Number Literal Ellipsis c.args.strings.now in
    let roll = roll-StringsOf Space MandatorySpace Separator ListEnd Number Literal Ellipsis in
    let out = out-StringsOf Space MandatorySpace Separator ListEnd Number Literal Ellipsis in
    let back = out-roll-StringsOf Space MandatorySpace Separator ListEnd Number Literal Ellipsis in
    let written = three_written roll out back (λ f. record { row = c.lay_string_row.new.row; last = f.last; end = f.end }) (λ f. record { row = f.row; last = c.lay_string.new.string; end = f.end }) (λ f. record { row = f.row; last = f.last; end = c.lay_end.new.end }) o in
    let two = after_two roll out back (λ f. record { row = c.lay_string_row.new.row; last = f.last; end = f.end }) (λ f. record { row = f.row; last = c.lay_string.new.string; end = f.end }) o in
    let last = ap (λ m. laid m (view_string texts (out (roll (record { row = c.lay_string_row.new.row; last = o.last; end = o.end }))).last)) c.in_chunk.ensures ∙ ap (λ f. laid (in_chunk c.args.layout) (view_string texts f.last)) (back (record { row = c.lay_string_row.new.row; last = o.last; end = o.end })) in
    on_ok c.lay_end.result (λ e. strings_laid texts c.args.layout c.args.strings.now _ (record { row = c.lay_string_row.new.row; last = c.lay_string.new.string; end = c.lay_end.new.end }) written c.in_ok-lay_string_row.ensures.laid (c.in_ok-lay_string.ensures.laid ∙ last) (e ∙ ap (λ f. respaced AtEnd Last c.args.layout (list_end_bytes f.end)) two)) c.lay_end.ensures.laid

pub returns-clause-items : goal.returns-clause-items
returns-clause-items c =
    let o = out-StringsOf Space MandatorySpace Separator ListEnd Number Literal Ellipsis c.args.strings.now in
    let roll = roll-StringsOf Space MandatorySpace Separator ListEnd Number Literal Ellipsis in
    let out = out-StringsOf Space MandatorySpace Separator ListEnd Number Literal Ellipsis in
    let back = out-roll-StringsOf Space MandatorySpace Separator ListEnd Number Literal Ellipsis in
    let written = three_written roll out back (λ f. record { row = c.lay_string_row.new.row; last = f.last; end = f.end }) (λ f. record { row = f.row; last = c.lay_string.new.string; end = f.end }) (λ f. record { row = f.row; last = f.last; end = c.lay_end.new.end }) o in
    let last = ap (λ f. items (view_string texts f.last)) (back (record { row = c.lay_string_row.new.row; last = o.last; end = o.end })) in
    strings_same texts c.args.strings.now _ (record { row = c.lay_string_row.new.row; last = c.lay_string.new.string; end = c.lay_end.new.end }) written c.lay_string_row.ensures.items (c.lay_string.ensures.items ∙ last)
