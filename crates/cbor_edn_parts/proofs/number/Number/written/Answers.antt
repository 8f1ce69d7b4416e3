use Rattle.std.proofs.Common.{◌∙◌}
use Rattle.std.proofs.lemmas.Bool.{false≢true}
use Rattle.cbor_edn_parts.proofs.lemmas.number.NumberTexts.{number_texts}
use Rattle.cbor_edn_parts.proofs.number.Number.written.Goals as goal

pub returns-then-not-is_number-clause-none : goal.returns-then-not-is_number-clause-none
returns-then-not-is_number-clause-none c = λ _ is. false≢true (c.if-not-is_number.ensures ∙ (number_texts c.args.text.now).0 is)
