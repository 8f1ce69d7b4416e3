use Rattle.std.proofs.Common.{◌∙◌, sym, ap, arith}
use Rattle.std.proofs.lemmas.Result.{err_from_is_err_and}
use Rattle.cbor_edn_parts.specs.base.Buffer.{buffer_bytes}
use Rattle.cbor_edn_parts.specs.declared.space.policy.DelimiterPolicy.{DelimiterPolicy}
use Rattle.cbor_edn_model.specs.layout.Layout.{layout}
use Rattle.cbor_edn_core.proofs.lemmas.cbor.Decodes.{is_empty, sequence_fails_refused, sequence_fails_deep}
use Rattle.cbor_edn_stream.proofs.lemmas.Sequences.{elements_fail, sequence_printed, nothing_printed}
use Rattle.cbor_edn_stream.proofs.print.print_cbor.Goals as goal

pub returns-in_err-print_until-clause-refused : goal.returns-in_err-print_until-clause-refused
returns-in_err-print_until-clause-refused c =
    let p = err_from_is_err_and c.from_residual.result c.from_residual.ensures.1 in
    rw (p.1, p.2) (sequence_fails_refused c.args.limit c.args.bytes.now (Unit {0}) c.in_err-print_until.field-0.0 (elements_fail c.args.limit c.args.bytes.now c.in_err-print_until.field-0.0 c.in_err-print_until.ensures.value))

pub returns-in_err-print_until-clause-too_deep : goal.returns-in_err-print_until-clause-too_deep
returns-in_err-print_until-clause-too_deep c =
    let p = err_from_is_err_and c.from_residual.result c.from_residual.ensures.1 in
    rw (p.1, p.2) (sequence_fails_deep c.args.limit c.args.bytes.now (Unit {0}) c.in_err-print_until.field-0.0 (λ i. omega (arith, c.type_inv.bytes i)) (elements_fail c.args.limit c.args.bytes.now c.in_err-print_until.field-0.0 c.in_err-print_until.ensures.value))

pub returns-then-is_empty-clause-accepted : goal.returns-then-is_empty-clause-accepted
returns-then-is_empty-clause-accepted c = nothing_printed c.args.limit c.args.bytes.now (buffer_bytes c.args.out.now) (is_empty c.args.bytes.now (sym c.is_empty.ensures ∙ c.if-is_empty.true))

pub returns-clause-accepted : goal.returns-clause-accepted
returns-clause-accepted c =
    sequence_printed (λ r. r.now) c.args.limit c.args.bytes.now c.of-layout.result (buffer_bytes c.args.out.now) (buffer_bytes c.print_until.new.out) c.in_ok-print_until.field-0 (λ i. omega (arith, c.type_inv.bytes i))
    (c.of-layout.ensures ∙ ap (λ (p : DelimiterPolicy). layout p) c.indented.ensures) c.in_ok-print_until.ensures.value
