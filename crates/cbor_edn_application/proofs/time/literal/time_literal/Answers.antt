use Rattle.std.proofs.Common.{◌≡◌, string_bytes, ap, ◌∙◌}
use Rattle.std.proofs.lemmas.Result.{IfOk-weaker}
use Rattle.cbor_edn_times_and_addresses.specs.internal.TimeComputing.{time_text}
use Rattle.cbor_edn_times_and_addresses.proofs.TimeComputedText.{printed_computed}
use Rattle.cbor_edn_conversions.specs.Conversions.{literal_tree}
use Rattle.cbor_edn_conversions.specs.Times.{time_prefix}
use Rattle.cbor_edn_application.proofs.time.literal.time_literal.Goals as goal

pub returns : goal.returns
returns c =
    let text : c.as_str.result.now ≡ time_text c.args.instant.seconds c.args.instant.nanoseconds =
    c.as_str.ensures.value ∙ (printed_computed c.args.instant.seconds c.args.instant.nanoseconds c.requires c.args.instant.in_second (string_bytes c.in_ok-text.text)).0 c.in_ok-text.ensures in
    IfOk-weaker c.literal.result _ _ (λ t is. is ∙ (ap (λ p. literal_tree p c.as_str.result.now) c.time_prefix.ensures.text ∙ ap (literal_tree (time_prefix c.args.wrap)) text)) c.literal.ensures
