use Rattle.std.proofs.Common.{◌≡◌, ◌&&◌, true, false, length, map, vec_len, is_none, sym, ap, ◌∙◌}
use Rattle.std.proofs.lemmas.Bool.{eqb-true, eq-eqb}
use Rattle.std.proofs.lemmas.List.{length-map}
use Rattle.cbor_edn_model.specs.tree.Trees.{items}
use Rattle.cbor_edn_core.specs.tree.View.{view_piece, seen_piece}
use Rattle.cbor_edn_model.specs.tree.TreeLeaves.{texts}
use Rattle.cbor_edn_model.specs.cbor.Meaning.{piece_indicator}
use Rattle.cbor_edn_model.specs.internal.Encoding.{no_indicators}
use Rattle.cbor_edn_model.proofs.lemmas.cbor.MeaningSteps.{given}
use Rattle.cbor_edn_model.proofs.lemmas.cbor.StringEncodes.{one_indicator, indicators_told, none_is, both_are, second_is_not}
use Rattle.cbor_edn_core.proofs.cbor.encode.string_indicator.Goals as goal
use Rattle.cbor_edn_core.proofs.cbor.encode.string_indicator.Goals.{else-is_none-via-then-is_none+else-have_no_indicators, else-is_none-via-else-is_none}

pub returns-then-is_empty : goal.returns-then-is_empty
returns-then-is_empty c =
    let string = c.args.string.now in
    let empty : length string.row.items ≡ 0 = sym string.row.ok.0 ∙ eqb-true (vec_len string.row) 0 (sym c.if-is_empty.ensures) in
    one_indicator (map (seen_piece texts) string.row.items) (view_piece texts string.last) (simp length-map empty) ∙ ap given (sym c.piece_indicator-indicator.ensures)

pub returns-then-have_no_indicators : goal.returns-then-have_no_indicators
returns-then-have_no_indicators c =
    let string = c.args.string.now in
    let row = no_indicators (map (seen_piece texts) string.row.items) in
    let last = is_none (piece_indicator (items (view_piece texts string.last))) in
    let some : length (map (seen_piece texts) string.row.items) ≡ 0 → ⊥ = λ e. let empty = simp length-map at e in let f = eq-eqb (vec_len string.row) 0 (string.row.ok.0 ∙ empty) in let g = c.if-is_empty.ensures in cc in
    let a : row ≡ true = ap (λ xs. no_indicators (map (seen_piece texts) xs)) (sym c.deref.ensures.value) ∙ sym c.have_no_indicators.ensures ∙ c.if-have_no_indicators.true in
    let b : last ≡ true = ap is_none (sym c.piece_indicator-indicator.ensures) ∙ none_is c.piece_indicator-indicator.result true c.if-is_none.ensures in
    indicators_told (map (seen_piece texts) string.row.items) (view_piece texts string.last) true some (both_are row last true true a b)

pub returns-else-is_none : goal.returns-else-is_none
returns-else-is_none c =
    let string = c.args.string.now in
    let row = no_indicators (map (seen_piece texts) string.row.items) in
    let last = is_none (piece_indicator (items (view_piece texts string.last))) in
    let some : length (map (seen_piece texts) string.row.items) ≡ 0 → ⊥ = λ e. let empty = simp length-map at e in let f = eq-eqb (vec_len string.row) 0 (string.row.ok.0 ∙ empty) in let g = c.if-is_empty.ensures in cc in
    let is_given : (row && last) ≡ false = elim c.else-is_none.branch [
      | else-is_none-via-then-is_none+else-have_no_indicators w ↦ ap (λ b. b && last) (ap (λ xs. no_indicators (map (seen_piece texts) xs)) (sym w.deref.ensures.value) ∙ sym w.have_no_indicators.ensures ∙ w.if-have_no_indicators.false)
      | else-is_none-via-else-is_none w ↦ second_is_not row last (ap is_none (sym c.piece_indicator-indicator.ensures) ∙ none_is c.piece_indicator-indicator.result false w.if-is_none.ensures)
    ] in
    indicators_told (map (seen_piece texts) string.row.items) (view_piece texts string.last) false some is_given
