use Rattle.std.specs.Prelude.{string_bytes}
use Rattle.std.proofs.lemmas.Result.{on_ok_weaker}
use Rattle.cbor_edn_findings.proofs.ToldLines.{one_shown}
use Rattle.cbor_edn_findings.proofs.shown.push_near.Goals as goal

pub returns-then-is_near : goal.returns-then-is_near
returns-then-is_near c = on_ok_weaker c.push_shown.result (λ e. one_shown (string_bytes c.args.out.now) _ c.args.character e) c.push_shown.ensures
