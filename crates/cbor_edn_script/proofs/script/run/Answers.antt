-- The edit in hand is the first of those that are left.
use Rattle.std.proofs.Common.{zero, suc, length, ap, arith, rules}
use Rattle.std.proofs.lemmas.Grind.{common_steps}
use Rattle.cbor_edn_core.specs.tree.View.{sequence_tree}
use Rattle.cbor_edn_script.specs.Edits.{AreEdited}
use Rattle.cbor_edn_script.proofs.EditsOnItems.{edits_items}
use Rattle.cbor_edn_script.proofs.SpelledIsRead.{sequence_reads_back}
use Rattle.cbor_edn_script.proofs.EditTurns.{edited_first, begun_later, begun_first}
use Rattle.cbor_edn_script.proofs.script.run.Goals as goal

pub loop-edit-preserved : goal.loop-edit-preserved
loop-edit-preserved c =
    let before = sequence_tree c.loop-edit.sequence in
    let after = sequence_tree c.apply.new.sequence in
    record {
      counted = omega (arith, ap length c.in-Some.ensures.steps.0, c.loop-edit.invariant.counted);
      edited = λ v rest. c.loop-edit.invariant.edited v (edited_first c.in-Some.ensures.steps.0 before after v c.in-Ok.ensures.edited rest);
      begun = λ n v rest. begun_later c.in-Some.ensures.steps.0 c.args.edits.items c.loop-edit.done n before after v (sequence_tree c.args.sequence.now) c.in-Ok.ensures.edited rest (c.loop-edit.invariant.begun (suc n) v);
    }

pub returns-in-Err-clause-out_of_memory : goal.returns-in-Err-clause-out_of_memory
returns-in-Err-clause-out_of_memory c =
    let after = sequence_tree c.apply.new.sequence in
    begun_first c.in-Some.ensures.steps.0 c.args.edits.items c.loop-edit.done (sequence_tree c.loop-edit.sequence) after (sequence_tree c.args.sequence.now) c.in-Err.ensures.begun (c.loop-edit.invariant.begun zero after)

pub returns-clause-items : goal.returns-clause-items
returns-clause-items c =
    let done : AreEdited c.args.edits.items (sequence_tree c.args.sequence.now) (sequence_tree c.loop-edit.sequence) = first_of (search rules, grind (arith, common_steps)) in
    edits_items c.args.edits.items (sequence_tree c.args.sequence.now) (sequence_tree c.loop-edit.sequence) done

pub returns-in-Err-clause-read_back : goal.returns-in-Err-clause-read_back
returns-in-Err-clause-read_back c = sequence_reads_back c.apply.new.sequence

pub returns-clause-read_back : goal.returns-clause-read_back
returns-clause-read_back c = sequence_reads_back c.loop-edit.sequence
