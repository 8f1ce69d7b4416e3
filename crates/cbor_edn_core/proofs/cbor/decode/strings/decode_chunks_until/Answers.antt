use Rattle.std.proofs.Common.{◌≡◌, ◌-◌, map, arith, Some, None, ap, ◌∙◌}
use Rattle.std.proofs.lemmas.Result.{err_from_is_err_and}
use Rattle.std.proofs.lemmas.List.{map_push}
use Rattle.cbor_edn_model.specs.declared.cbor.decode.head.Stop.TheVariants.{Break}
use Rattle.cbor_edn_core.specs.tree.View.{view_string}
use Rattle.cbor_edn_model.specs.tree.TreeLeaves.{texts}
use Rattle.cbor_edn_core.specs.internal.RowBuilder.{grown}
use Rattle.cbor_edn_model.specs.internal.CborReading.{past_stop}
use Rattle.cbor_edn_model.proofs.lemmas.cbor.CborStrings.{one}
use Rattle.cbor_edn_model.proofs.lemmas.cbor.CborTurns.{until_more, until_fails, until_done}
use Rattle.cbor_edn_core.proofs.cbor.decode.strings.decode_chunks_until.Goals as goal

pub returns-in-Some-clause-value : goal.returns-in-Some-clause-value
returns-in-Some-clause-value c =
    let so_far = c.turns.invariant.read in
    let found : past_stop Break c.turns.rest.now ≡ Some c.in-Some.after.now = grind arith in
    until_done Break (one c.args.kind) (map (view_string texts) (grown c.turns.found)) so_far.0 c.turns.rest.now c.in-Some.after.now _ (omega (arith, so_far.1)) found so_far.2

pub returns-in_err-string-in-None-clause-value : goal.returns-in_err-string-in-None-clause-value
returns-in_err-string-in-None-clause-value c =
    let so_far = c.turns.invariant.read in
    let going : past_stop Break c.turns.rest.now ≡ None = grind arith in
    let p = err_from_is_err_and c.from_residual.result c.from_residual.ensures.1 in
    rw (p.1, p.2) (until_fails Break c.in_err-string-in-None.field-0.0 (one c.args.kind) (map (view_string texts) (grown c.turns.found)) so_far.0 c.turns.rest.now _ (omega (arith, so_far.1)) going c.in_err-string-in-None.ensures.value so_far.2)

pub turns-preserved : goal.turns-preserved
turns-preserved c =
    let so_far = c.turns.invariant.read in
    let x = c.in_ok-string-in-None.string in
    let going : past_stop Break c.turns.rest.now ≡ None = grind arith in
    let pushed = ap (map (view_string texts)) c.in_ok-push-in-None.ensures ∙ map_push (view_string texts) (grown c.turns.found) x in
    let less = c.in_ok-string-in-None.ensures.shorter in
    record {
      read = (so_far.0 - 1, omega (arith, so_far.1, less), rw pushed (until_more Break (one c.args.kind) (map (view_string texts) (grown c.turns.found)) so_far.0 c.turns.rest.now c.in_ok-string-in-None.after.now (view_string texts x) _ (omega (arith, so_far.1)) going c.in_ok-string-in-None.ensures.value so_far.2));
      shorter = omega (arith, less, c.turns.invariant.shorter);
    }
