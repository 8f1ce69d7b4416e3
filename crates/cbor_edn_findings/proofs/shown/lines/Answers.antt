use Rattle.std.proofs.Common.{IfOk, refl, rules}
use Rattle.std.specs.Prelude.{string_bytes}
use Rattle.std.specs.Str.{chars}
use Rattle.std.proofs.lemmas.Result.{IfOk-weaker}
use Rattle.cbor_edn_terminal.specs.Terminal.{shown_text, IsHarmlessInLines}
use Rattle.cbor_edn_findings.specs.Shown.{IsTold}
use Rattle.cbor_edn_findings.proofs.ToldLines.{told_acts_on_nothing}
use Rattle.cbor_edn_findings.proofs.shown.lines.Goals as goal

pub returns-in-InText-clause-acts_on_nothing : goal.returns-in-InText-clause-acts_on_nothing
returns-in-InText-clause-acts_on_nothing c =
    let told : IfOk c.format.result (λ s. IsTold (shown_text (chars c.args.name.now)) c.args.finding.now (string_bytes s)) = search rules in
    IfOk-weaker c.format.result _ (λ s. IsHarmlessInLines (string_bytes s)) (λ s t. told_acts_on_nothing (shown_text (chars c.args.name.now)) c.args.finding.now (string_bytes s) (_, refl) t) told

pub returns-in-InBytes-clause-acts_on_nothing : goal.returns-in-InBytes-clause-acts_on_nothing
returns-in-InBytes-clause-acts_on_nothing c =
    let told : IfOk c.format-in-InBytes.result (λ s. IsTold (shown_text (chars c.args.name.now)) c.args.finding.now (string_bytes s)) = search rules in
    IfOk-weaker c.format-in-InBytes.result _ (λ s. IsHarmlessInLines (string_bytes s)) (λ s t. told_acts_on_nothing (shown_text (chars c.args.name.now)) c.args.finding.now (string_bytes s) (_, refl) t) told

pub returns-clause-acts_on_nothing : goal.returns-clause-acts_on_nothing
returns-clause-acts_on_nothing c =
    let told : IfOk c.format-in-Nowhere.result (λ s. IsTold (shown_text (chars c.args.name.now)) c.args.finding.now (string_bytes s)) = search rules in
    IfOk-weaker c.format-in-Nowhere.result _ (λ s. IsHarmlessInLines (string_bytes s)) (λ s t. told_acts_on_nothing (shown_text (chars c.args.name.now)) c.args.finding.now (string_bytes s) (_, refl) t) told
