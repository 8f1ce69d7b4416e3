use Rattle.std.proofs.Common.{◌≡◌, ◌<◌, ◌^◌, FitsSigned, w64, unsigned_abs, None, string_bytes, subst, sym, ap, ◌∙◌, rules, arith}
use Rattle.std.proofs.lemmas.Int.{ints}
use Rattle.cbor_edn_parts.specs.number.Number.{IsNumber}
use Rattle.cbor_edn_model.specs.tree.Trees.{NumberTree}
use Rattle.cbor_edn_core.specs.tree.View.{item_tree}
use Rattle.cbor_edn_application.proofs.InstantNumbers.{is_number, number_found, found_is, number_is}
use Rattle.cbor_edn_application.proofs.time.number.number.Goals as goal

pub unwrap-requires : goal.unwrap-requires
unwrap-requires c =
    let fits : FitsSigned w64 c.args.instant.seconds = search rules in
    let small : unsigned_abs c.args.instant.seconds < 2 ^ 64 = omega (arith, ints) in
    number_found c.as_str.result.now c.in_ok-number.number c.in_ok-number.ensures.none
    (subst IsNumber (sym c.as_str.ensures.value) (is_number (string_bytes c.in_ok-text.text) c.args.instant.seconds c.args.instant.nanoseconds c.in_ok-text.ensures small))

pub returns : goal.returns
returns c =
    let fits : FitsSigned w64 c.args.instant.seconds = search rules in
    let small : unsigned_abs c.args.instant.seconds < 2 ^ 64 = omega (arith, ints) in
    found_is (λ t. item_tree t ≡ NumberTree c.as_str.result.now None) c.in_ok-number.number c.unwrap.result c.unwrap.ensures c.in_ok-number.ensures.some
    ∙ ap (λ t. NumberTree t None) (c.as_str.ensures.value ∙ number_is (string_bytes c.in_ok-text.text) c.args.instant.seconds c.args.instant.nanoseconds c.in_ok-text.ensures small c.args.instant.in_second)
