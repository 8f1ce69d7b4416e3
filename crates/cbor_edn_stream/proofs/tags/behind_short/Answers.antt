use Rattle.std.proofs.Common.{◌/◌, ap, Some, ◌∙◌, arith}
use Rattle.cbor_edn_model.specs.declared.cbor.heads.Width.TheVariants.{Immediate}
use Rattle.cbor_edn_model.specs.internal.CborReading.{head_at}
use Rattle.cbor_edn_stream.specs.Heads.{behind_content}
use Rattle.cbor_edn_stream.proofs.lemmas.Heads.{short_read}
use Rattle.cbor_edn_stream.proofs.tags.behind_short.Goals as goal

pub returns-clause-value : goal.returns-clause-value
returns-clause-value c = (
  _,
  _,
  _,
  ap head_at c.in-Some.ensures.cases.0 ∙ short_read c.in-Some.first.now c.in-Some.behind.now (omega (arith, c.if-count-ge24.false)),
  c.if-major-eq-TAG.false,
  c.behind_content.ensures.value ∙ ap (λ n. behind_content (c.in-Some.first.now / 32) (Some (Immediate, n)) c.in-Some.behind.now) c.from.ensures,
)
