use Rattle.std.proofs.Common.{◌∙◌, ap, arith}
use Rattle.std.proofs.lemmas.Bool.{leb-true, leb-false}
use Rattle.cbor_edn_model.specs.visit.Visits.{answered}
use Rattle.cbor_edn_model.proofs.lemmas.visit.VisitsOfParts.{ends_err, ends_ok}
use Rattle.cbor_edn_core.proofs.visit.seek.end.Goals as goal

pub returns-in_err-put_answer : goal.returns-in_err-put_answer
returns-in_err-put_answer g c =
    ends_err c.from_residual.result c.from_residual.ensures.0 (λ z. c.in_err-put_answer.ensures.had_comment (c.element_answer.ensures ∙ z)) c.in_err-put_answer.ensures.out_of_memory

pub returns : goal.returns
returns g c =
    ends_ok _ (λ z. c.in_ok-put_answer.ensures.had_memory (c.element_answer.ensures ∙ z)) (c.in_ok-put_answer.ensures.put ∙ ap (λ a. answered a (g.X.TakesComment.bytes c.args.space.now)) c.element_answer.ensures)
    (λ e. omega (arith, c.item_depth.ensures, leb-true _ _ e)) (λ e. omega (arith, c.item_depth.ensures, leb-false _ _ e))
