use Rattle.std.proofs.Common.{◌≡◌, ◌≢◌, None, Some, refl, sym, ap, ◌∙◌, subst}
use Rattle.cbor_edn_parts.specs.Leaves.{space_bytes}
use Rattle.cbor_edn_model.specs.visit.Visits.{Call, no_handler, spent, fine, no_memory, answered}
use Rattle.cbor_edn_core.specs.visit.Callbacks.{answer_of, key_answer, handler_of, Spends, none, spends}
use Rattle.cbor_edn_core.specs.tree.View.{item_tree}
use Rattle.cbor_edn_core.proofs.lemmas.visit.ElementVisits.{unspent, pair_refused, pair_passed, pair_handled, cut_short}
use Rattle.cbor_edn_core.proofs.visit.map.visit_pair.Goals as goal

pub returns-in_err-put_answer : goal.returns-in_err-put_answer
returns-in_err-put_answer g c =
    let p = c.args.pair.now in
    let told = c.call-told.result in
    let k = item_tree p.key in
    let l = item_tree c.call-told.new.item in
    let u = unspent {look = item_tree} {handles = g.H.MapValueHandler.handles} (handler_of told) in
    let asked : key_answer told ≢ fine = λ e. c.in_err-put_answer.ensures.had_comment (c.answer_and_handler-parts.ensures.answer ∙ e) in
    record {
      visited = (
        record { at_key = record { before = k; answer = key_answer told; after = l }; handler = u.0 },
        record { shown = _; begins = refl; answer = told; answers = refl; left = _; leaves = refl; called = c.call-told.ensures.called; spending = u.1 },
        rw (cut_short c.from_residual.result c.from_residual.ensures.0) (pair_refused k l (item_tree p.value) (space_bytes p.before_colon) (space_bytes c.put_answer.new.space) (space_bytes p.after_colon) _ (key_answer told) u.0 asked u.2 c.in_err-put_answer.ensures.out_of_memory),
      );
    }

pub returns-in-None : goal.returns-in-None
returns-in-None g c =
    let p = c.args.pair.now in
    let told = c.call-told.result in
    let k = item_tree p.key in
    let l = item_tree c.call-told.new.item in
    let is : handler_of told ≡ None = sym c.answer_and_handler-parts.ensures.handler ∙ c.in-None.is in
    let had : key_answer told ≢ no_memory = λ e. c.in_ok-put_answer.ensures.had_memory (c.answer_and_handler-parts.ensures.answer ∙ e) in
    let put : space_bytes c.put_answer.new.space ≡ answered (key_answer told) (space_bytes p.before_colon) = c.in_ok-put_answer.ensures.put ∙ ap (λ a. answered a (space_bytes p.before_colon)) c.answer_and_handler-parts.ensures.answer in
    record {
      visited = (
        record { at_key = record { before = k; answer = key_answer told; after = l }; handler = no_handler },
        record { shown = _; begins = refl; answer = told; answers = refl; left = _; leaves = refl; called = c.call-told.ensures.called; spending = subst (λ o. Spends item_tree g.H.MapValueHandler.handles o no_handler) (sym is) none },
        pair_passed k l (item_tree p.value) (space_bytes p.before_colon) (space_bytes c.put_answer.new.space) (space_bytes p.after_colon) _ (key_answer told) had put,
      );
    }

pub returns-in-Some : goal.returns-in-Some
returns-in-Some g c =
    let p = c.args.pair.now in
    let told = c.call-told.result in
    let handled = c.handle-answer.result in
    let k = item_tree p.key in
    let l = item_tree c.call-told.new.item in
    let d : Call = record { before = item_tree p.value; answer = answer_of handled; after = item_tree c.handle-answer.new.value } in
    let is : handler_of told ≡ Some c.in-Some.handler = sym c.answer_and_handler-parts.ensures.handler ∙ c.in-Some.is in
    let had : key_answer told ≢ no_memory = λ e. c.in_ok-put_answer.ensures.had_memory (c.answer_and_handler-parts.ensures.answer ∙ e) in
    let put : space_bytes c.put_answer.new.space ≡ answered (key_answer told) (space_bytes p.before_colon) = c.in_ok-put_answer.ensures.put ∙ ap (λ a. answered a (space_bytes p.before_colon)) c.answer_and_handler-parts.ensures.answer in
    let met = subst (λ h. g.H.MapValueHandler.handles h p.value handled c.handle-answer.new.value) c.in-Some.handler-is c.handle-answer.ensures in
    let behind = c.put_answer-in-Some.ensures in
    record {
      visited = (
        record { at_key = record { before = k; answer = key_answer told; after = l }; handler = spent d },
        record { shown = _; begins = refl; answer = told; answers = refl; left = _; leaves = refl; called = c.call-told.ensures.called; spending = subst (λ o. Spends item_tree g.H.MapValueHandler.handles o (spent d)) (sym is) (spends {c = d} met refl refl refl) },
        pair_handled k l (item_tree p.value) (item_tree c.handle-answer.new.value) (space_bytes p.before_colon) (space_bytes c.put_answer.new.space) (space_bytes p.after_colon) _ _ (key_answer told) (answer_of handled) c.put_answer-in-Some.result had put behind.had_memory behind.put behind.had_comment behind.out_of_memory,
      );
    }
