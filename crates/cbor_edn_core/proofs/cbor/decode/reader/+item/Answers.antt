use Rattle.std.proofs.Common.{◌≡◌, ◌-◌, map, arith, Some, None, ap, ◌∙◌}
use Rattle.std.proofs.lemmas.Result.{err_from_is_err_and}
use Rattle.std.proofs.lemmas.List.{map_push}
use Rattle.cbor_edn_model.specs.declared.cbor.decode.head.Stop.TheVariants.{Break}
use Rattle.cbor_edn_core.specs.tree.View.{item_tree, view_pair}
use Rattle.cbor_edn_model.specs.tree.TreeLeaves.{texts}
use Rattle.cbor_edn_core.specs.internal.RowBuilder.{grown}
use Rattle.cbor_edn_model.specs.internal.CborReading.{past_stop, item_at, pair_at, trees}
use Rattle.cbor_edn_model.proofs.lemmas.cbor.CborAgain.{item_at_ok}
use Rattle.cbor_edn_model.proofs.lemmas.cbor.CborTurns.{goes_on, fails, is_done, until_more, until_fails, until_done, item_fails}
use Rattle.cbor_edn_core.proofs.cbor.decode.reader.+item.Goals as goal

pub decode_item-returns-in_err-head-clause-value : goal.decode_item-returns-in_err-head-clause-value
decode_item-returns-in_err-head-clause-value t c =
    let p = err_from_is_err_and c.from_residual.result c.from_residual.ensures.1 in
    rw (p.1, p.2) (item_fails trees c.in_err-head.field-0.0 c.args.limit c.args.bytes.now c.in_err-head.ensures.value)

pub decode_item-returns-clause-value : goal.decode_item-returns-clause-value
decode_item-returns-clause-value t c =
    rw (item_at_ok trees c.args.limit c.args.bytes.now c.in_ok-head.rest.now c.in_ok-head.head c.in_ok-head.ensures.value) c.decode_behind_head.ensures.value

pub decode_items-returns-in_err-item-clause-value : goal.decode_items-returns-in_err-item-clause-value
decode_items-returns-in_err-item-clause-value t c =
    let p = err_from_is_err_and c.from_residual.result c.from_residual.ensures.1 in
    rw (p.1, p.2) (fails c.in_err-item.field-0.0 (item_at trees c.args.limit) (map item_tree (grown c.loop.found)) c.args.count c.loop.counter c.loop.rest.now _ c.loop-test.true c.in_err-item.ensures.value c.loop.invariant.read)

pub decode_items-loop-preserved : goal.decode_items-loop-preserved
decode_items-loop-preserved t c =
    let x = c.in_ok-item.item in
    let pushed = ap (map item_tree) c.in_ok-push.ensures ∙ map_push item_tree (grown c.loop.found) x in
    let less = c.in_ok-item.ensures.shorter in
    record {
      read = rw pushed (goes_on (item_at trees c.args.limit) (map item_tree (grown c.loop.found)) c.args.count c.loop.counter c.loop.rest.now c.in_ok-item.after.now (item_tree x) _ c.loop-test.true c.in_ok-item.ensures.value c.loop.invariant.read);
      shorter = omega (arith, less, c.loop.invariant.shorter);
    }

pub decode_items-returns-clause-value : goal.decode_items-returns-clause-value
decode_items-returns-clause-value t c = is_done (item_at trees c.args.limit) (map item_tree (grown c.loop.found)) c.args.count c.loop.counter c.loop.rest.now _ c.loop-test.false c.loop.invariant.read

pub decode_items_until-returns-in-Some-clause-value : goal.decode_items_until-returns-in-Some-clause-value
decode_items_until-returns-in-Some-clause-value t c =
    let so_far = c.turns.invariant.read in
    let found : past_stop c.args.stop c.turns.rest.now ≡ Some c.in-Some.after.now = grind arith in
    until_done c.args.stop (item_at trees c.args.limit) (map item_tree (grown c.turns.found)) so_far.0 c.turns.rest.now c.in-Some.after.now _ (omega (arith, so_far.1)) found so_far.2

pub decode_items_until-returns-in_err-item-in-None-clause-value : goal.decode_items_until-returns-in_err-item-in-None-clause-value
decode_items_until-returns-in_err-item-in-None-clause-value t c =
    let so_far = c.turns.invariant.read in
    let going : past_stop c.args.stop c.turns.rest.now ≡ None = grind arith in
    let p = err_from_is_err_and c.from_residual.result c.from_residual.ensures.1 in
    rw (p.1, p.2) (until_fails c.args.stop c.in_err-item-in-None.field-0.0 (item_at trees c.args.limit) (map item_tree (grown c.turns.found)) so_far.0 c.turns.rest.now _ (omega (arith, so_far.1)) going c.in_err-item-in-None.ensures.value so_far.2)

pub decode_items_until-turns-preserved : goal.decode_items_until-turns-preserved
decode_items_until-turns-preserved t c =
    let so_far = c.turns.invariant.read in
    let x = c.in_ok-item-in-None.item in
    let going : past_stop c.args.stop c.turns.rest.now ≡ None = grind arith in
    let pushed = ap (map item_tree) c.in_ok-push-in-None.ensures ∙ map_push item_tree (grown c.turns.found) x in
    let less = c.in_ok-item-in-None.ensures.shorter in
    record {
      read = (so_far.0 - 1, omega (arith, so_far.1, less), rw pushed (until_more c.args.stop (item_at trees c.args.limit) (map item_tree (grown c.turns.found)) so_far.0 c.turns.rest.now c.in_ok-item-in-None.after.now (item_tree x) _ (omega (arith, so_far.1)) going c.in_ok-item-in-None.ensures.value so_far.2));
      shorter = omega (arith, less, c.turns.invariant.shorter);
    }

pub decode_pairs-returns-in-Err-clause-value : goal.decode_pairs-returns-in-Err-clause-value
decode_pairs-returns-in-Err-clause-value t c = fails c.in-Err.fault (pair_at trees (item_at trees c.args.limit)) (map (view_pair texts) (grown c.loop.found)) c.args.count c.loop.counter c.loop.rest.now _ c.loop-test.true c.in-Err.ensures.value c.loop.invariant.read

pub decode_pairs-loop-preserved : goal.decode_pairs-loop-preserved
decode_pairs-loop-preserved t c =
    let x = c.in-Ok.read.0 in
    let pushed = ap (map (view_pair texts)) c.in_default.ensures ∙ map_push (view_pair texts) (grown c.loop.found) x in
    let less = c.in-Ok.ensures.shorter in
    record {
      read = rw pushed (goes_on (pair_at trees (item_at trees c.args.limit)) (map (view_pair texts) (grown c.loop.found)) c.args.count c.loop.counter c.loop.rest.now c.in-Ok.read.1.now (view_pair texts x) _ c.loop-test.true c.in-Ok.ensures.value c.loop.invariant.read);
      shorter = omega (arith, less, c.loop.invariant.shorter);
    }

pub decode_pairs-returns-clause-value : goal.decode_pairs-returns-clause-value
decode_pairs-returns-clause-value t c = is_done (pair_at trees (item_at trees c.args.limit)) (map (view_pair texts) (grown c.loop.found)) c.args.count c.loop.counter c.loop.rest.now _ c.loop-test.false c.loop.invariant.read

pub decode_pairs_until-returns-in-Some-clause-value : goal.decode_pairs_until-returns-in-Some-clause-value
decode_pairs_until-returns-in-Some-clause-value t c =
    let so_far = c.turns.invariant.read in
    let found : past_stop Break c.turns.rest.now ≡ Some c.in-Some.after.now = grind arith in
    until_done Break (pair_at trees (item_at trees c.args.limit)) (map (view_pair texts) (grown c.turns.found)) so_far.0 c.turns.rest.now c.in-Some.after.now _ (omega (arith, so_far.1)) found so_far.2

pub decode_pairs_until-returns-in-Err-clause-value : goal.decode_pairs_until-returns-in-Err-clause-value
decode_pairs_until-returns-in-Err-clause-value t c =
    let so_far = c.turns.invariant.read in
    let going : past_stop Break c.turns.rest.now ≡ None = grind arith in
    until_fails Break c.in-Err.fault (pair_at trees (item_at trees c.args.limit)) (map (view_pair texts) (grown c.turns.found)) so_far.0 c.turns.rest.now _ (omega (arith, so_far.1)) going c.in-Err.ensures.value so_far.2

pub decode_pairs_until-turns-preserved : goal.decode_pairs_until-turns-preserved
decode_pairs_until-turns-preserved t c =
    let so_far = c.turns.invariant.read in
    let x = c.in-Ok.read.0 in
    let going : past_stop Break c.turns.rest.now ≡ None = grind arith in
    let pushed = ap (map (view_pair texts)) c.in_default.ensures ∙ map_push (view_pair texts) (grown c.turns.found) x in
    let less = c.in-Ok.ensures.shorter in
    record {
      read = (so_far.0 - 1, omega (arith, so_far.1, less), rw pushed (until_more Break (pair_at trees (item_at trees c.args.limit)) (map (view_pair texts) (grown c.turns.found)) so_far.0 c.turns.rest.now c.in-Ok.read.1.now (view_pair texts x) _ (omega (arith, so_far.1)) going c.in-Ok.ensures.value so_far.2));
      shorter = omega (arith, less, c.turns.invariant.shorter);
    }
