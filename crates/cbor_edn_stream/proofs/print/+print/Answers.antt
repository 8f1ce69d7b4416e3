use Rattle.std.proofs.Common.{◌≡◌, ◌<◌, ◌-◌, [], ℕ, suc, length}
use Rattle.cbor_edn_parts.specs.base.Buffer.{buffer_bytes}
use Rattle.cbor_edn_model.specs.tree.Items.{entries_of}
use Rattle.cbor_edn_model.specs.internal.CborReading.{trees, many, until, argument_indicator}
use Rattle.cbor_edn_stream.specs.Printed.{bracketed, entry_at, list_by, nested_major}
use Rattle.std.proofs.Common.{arith, refl, sym, ap, ◌∙◌}
use Rattle.std.proofs.lemmas.List.{append-nil}
use Rattle.std.proofs.lemmas.Result.{err_from_is_err_and}
use Rattle.cbor_edn_model.proofs.lemmas.cbor.CborTurns.{fails, until_fails}
use Rattle.cbor_edn_stream.proofs.lemmas.Turns.{front_none, entry_item, list_fails, fault_told, list_printed, pair_fails, pair_printed, tag_printed, head_is, inside_printed, several_many, several_open, stopped_at_once, empty_printed}
use Rattle.cbor_edn_model.proofs.lemmas.cbor.CborOutcomes.{many_none}
use Rattle.cbor_edn_stream.proofs.lemmas.Lines.{nested_at, known_written, front_wider, front_written}
use Rattle.cbor_edn_model.proofs.lemmas.cbor.CborTurns.{item_fails}
use Rattle.std.proofs.Common.{subst}
use Rattle.cbor_edn_model.specs.internal.CborReading.{DecoderFails}
use Rattle.cbor_edn_stream.proofs.lemmas.Loops.{many_on, many_last, until_on, until_last}
use Rattle.cbor_edn_core.specs.tree.View.{item_tree}
use Rattle.cbor_edn_model.specs.internal.CborReading.{item_at}
use Rattle.cbor_edn_stream.proofs.print.+print.Goals as goal

-- src/print.rt:285:1
pub print_entry-returns-in-Array-clause-value : goal.print_entry-returns-in-Array-clause-value
print_entry-returns-in-Array-clause-value t c =
    rw c.in-Array.is (entry_item (λ r. r.now) c.args.layout c.args.limit c.args.bytes.now (buffer_bytes c.args.out.now) (buffer_bytes c.print_item.new.out) c.print_item.result c.print_item.ensures.value)

-- src/print.rt:285:1
pub print_entry-returns-in-Map-clause-value : goal.print_entry-returns-in-Map-clause-value
print_entry-returns-in-Map-clause-value t c =
    rw c.in-Map.is c.print_pair.ensures.value

-- src/print.rt:175:1
pub print_inside-returns-in_ok-print_empty-in-Some-default-eq0-clause-value :
    goal.print_inside-returns-in_ok-print_empty-in-Some-default-eq0-clause-value
print_inside-returns-in_ok-print_empty-in-Some-default-eq0-clause-value t c =
    empty_printed c.args.layout (bracketed c.args.list) (argument_indicator c.args.argument) _ c.args.bytes.now (buffer_bytes c.args.out.now) (buffer_bytes c.print_empty.new.out)
    (several_many (bracketed c.args.list) c.args.limit c.args.argument c.in-Some-default-eq0.field-0-0 c.in-Some-default-eq0.field-0-1 c.args.bytes.now c.in-Some-default-eq0.is ∙ ap (λ n. many (entry_at (bracketed c.args.list) c.args.limit) n c.args.bytes.now) (grind arith) ∙ many_none (entry_at (bracketed c.args.list) c.args.limit) c.args.bytes.now) (grind arith)

-- src/print.rt:175:1
pub print_inside-returns-in_ok-print_front-in-Some-clause-value :
    goal.print_inside-returns-in_ok-print_front-in-Some-clause-value
print_inside-returns-in_ok-print_front-in-Some-clause-value t c =
    rw (several_many (bracketed c.args.list) c.args.limit c.args.argument c.in-Some.field-0-0 c.in-Some.count c.args.bytes.now c.in-Some.is)
    (inside_printed (λ r. r.now) c.args.layout (bracketed c.args.list) (argument_indicator c.args.argument) (buffer_bytes c.args.out.now) (buffer_bytes c.print_front.new.out) (buffer_bytes c.print_many.new.out) c.print_many.result (many (entry_at (bracketed c.args.list) c.args.limit) c.in-Some.count c.args.bytes.now) (grind arith) c.print_many.ensures.value)

-- src/print.rt:175:1
pub print_inside-returns-in_ok-print_empty-in-Some-past_stop-clause-value :
    goal.print_inside-returns-in_ok-print_empty-in-Some-past_stop-clause-value
print_inside-returns-in_ok-print_empty-in-Some-past_stop-clause-value t c =
    empty_printed c.args.layout (bracketed c.args.list) (argument_indicator c.args.argument) _ c.in-Some-past_stop.after.now (buffer_bytes c.args.out.now) (buffer_bytes c.print_empty-in-Some-past_stop.new.out)
    (several_open (bracketed c.args.list) c.args.limit c.args.argument c.args.bytes.now c.in-None.is ∙ stopped_at_once (bracketed c.args.list) c.args.limit (length c.args.bytes.now) c.args.bytes.now c.in-Some-past_stop.after.now (grind arith)) (grind arith)

-- src/print.rt:175:1
pub print_inside-returns-in_ok-print_front-in-None-past_stop-clause-value :
    goal.print_inside-returns-in_ok-print_front-in-None-past_stop-clause-value
print_inside-returns-in_ok-print_front-in-None-past_stop-clause-value t c =
    rw (several_open (bracketed c.args.list) c.args.limit c.args.argument c.args.bytes.now c.in-None.is)
    (inside_printed (λ r. r.now) c.args.layout (bracketed c.args.list) (argument_indicator c.args.argument) (buffer_bytes c.args.out.now) (buffer_bytes c.print_front-in-None-past_stop.new.out) (buffer_bytes c.print_until.new.out) c.print_until.result _ (grind arith) c.print_until.ensures.value)

-- src/print.rt:150:22
pub print_list-returns-in_err-rest-clause-value : goal.print_list-returns-in_err-rest-clause-value
print_list-returns-in_err-rest-clause-value t c =
    let p = err_from_is_err_and c.from_residual-in_err-rest.result c.from_residual-in_err-rest.ensures.1 in
    let deeper : c.args.limit ≡ suc (c.args.limit - 1) = omega (arith, c.if-limit-eq0.false) in
    rw (p.1, p.2) (subst (λ (n : ℕ). DecoderFails c.in_err-rest.field-0.0 (list_by (bracketed c.args.list) n c.args.argument c.args.bytes.now)) (sym deeper) (list_fails (bracketed c.args.list) (c.args.limit - 1) c.args.argument c.args.bytes.now c.in_err-rest.field-0.0 c.in_err-rest.ensures.value))

-- src/print.rt:132:1
pub print_list-returns-clause-value : goal.print_list-returns-clause-value
print_list-returns-clause-value t c =
    let p = c.in_ok-rest.ensures.value in
    list_printed c.args.parts (bracketed c.args.list) c.args.limit c.args.argument c.args.bytes.now c.in_ok-rest.rest.now (buffer_bytes c.args.out.now) (buffer_bytes c.push_str.new.self) (buffer_bytes c.print_inside.new.out) (buffer_bytes c.push_str-2.new.self) p.0 (omega (arith, c.if-limit-eq0.false)) p.1 (grind arith) p.2 (grind arith)

-- src/print.rt:239:5
pub print_many-loop-init : goal.print_many-loop-init
print_many-loop-init t c =
    record { read = ([], front_none (many (entry_at (bracketed c.args.list) c.args.limit) (c.args.count - 0) c.args.bytes.now) ∙ ap (λ n. many (entry_at (bracketed c.args.list) c.args.limit) n c.args.bytes.now) (omega arith), sym (append-nil (buffer_bytes c.args.out.now))); low = c.requires; shorter = omega arith }

-- src/print.rt:240:27
pub print_many-returns-in_err-after-clause-value :
    goal.print_many-returns-in_err-after-clause-value
print_many-returns-in_err-after-clause-value t c =
    let so_far = c.loop.invariant.read in
    let p = err_from_is_err_and c.from_residual.result c.from_residual.ensures.1 in
    rw (p.1, p.2) (fails c.in_err-after.field-0.0 (entry_at (bracketed c.args.list) c.args.limit) so_far.0 c.args.count c.loop.counter c.loop.rest.now _ c.loop.invariant.low c.in_err-after.ensures.value so_far.1)

-- src/print.rt:239:5
pub print_many-loop-preserved : goal.print_many-loop-preserved
print_many-loop-preserved t c =
    let entry = c.in_ok-after.ensures.value in
    let less = c.in_ok-after.ensures.shorter in
    record {
      read = many_on (entries_of (bracketed c.args.list)) c.args.layout (entry_at (bracketed c.args.list) c.args.limit) c.args.count c.loop.counter _ c.loop.rest.now c.in_ok-after.after.now (buffer_bytes c.args.out.now) (buffer_bytes c.loop.out) (buffer_bytes c.print_entry.new.out) (buffer_bytes c.print_separator.new.out) c.loop.invariant.low c.loop.invariant.read entry (grind arith);
      low = grind arith;
      shorter = grind arith;
    }

-- src/print.rt:246:23
pub print_many-returns-in_err-after-2-clause-value :
    goal.print_many-returns-in_err-after-2-clause-value
print_many-returns-in_err-after-2-clause-value t c =
    let so_far = c.loop.invariant.read in
    let p = err_from_is_err_and c.from_residual-in_err-after-2.result c.from_residual-in_err-after-2.ensures.1 in
    rw (p.1, p.2) (fails c.in_err-after-2.field-0.0 (entry_at (bracketed c.args.list) c.args.limit) so_far.0 c.args.count c.loop.counter c.loop.rest.now _ c.loop.invariant.low c.in_err-after-2.ensures.value so_far.1)

-- src/print.rt:224:1
pub print_many-returns-clause-value : goal.print_many-returns-clause-value
print_many-returns-clause-value t c =
    let entry = c.in_ok-after-2.ensures.value in
    many_last (entries_of (bracketed c.args.list)) c.args.layout (entry_at (bracketed c.args.list) c.args.limit) c.args.count c.loop.counter _ c.loop.rest.now c.in_ok-after-2.after.now (buffer_bytes c.args.out.now) (buffer_bytes c.loop.out) (buffer_bytes c.print_entry-2.new.out) (buffer_bytes c.print_end.new.out) c.loop.invariant.low (omega (arith, c.loop-test.false)) c.loop.invariant.read entry (grind arith)

-- src/print.rt:314:22
pub print_pair-returns-in_err-rest-clause-value : goal.print_pair-returns-in_err-rest-clause-value
print_pair-returns-in_err-rest-clause-value t c =
    let p = err_from_is_err_and c.from_residual.result c.from_residual.ensures.1 in
    rw (p.1, p.2) (pair_fails c.in_err-rest.field-0.0 c.args.limit c.args.bytes.now c.in_err-rest.ensures.value)

-- src/print.rt:303:1
pub print_pair-returns-clause-value : goal.print_pair-returns-clause-value
print_pair-returns-clause-value t c =
    let p = c.in_ok-rest.ensures.value in
    pair_printed (λ r. r.now) c.args.layout c.args.limit c.args.bytes.now c.in_ok-rest.rest.now (buffer_bytes c.args.out.now) (buffer_bytes c.print_item.new.out) (buffer_bytes c.print_space.new.out) (buffer_bytes c.push_str.new.self) (buffer_bytes c.print_space-2.new.out) (buffer_bytes c.print_item-2.new.out) p.0 c.print_item-2.result p.1 p.2 (grind arith) (grind arith) (grind arith) c.print_item-2.ensures.value

-- src/print.rt:268:5
pub print_until-turns-init : goal.print_until-turns-init
print_until-turns-init t c =
    record { read = ([], suc (length c.args.bytes.now), omega arith, front_none (until c.args.stop (entry_at (bracketed c.args.list) c.args.limit) (suc (length c.args.bytes.now)) c.args.bytes.now), sym (append-nil (buffer_bytes c.args.out.now))); going = c.requires; shorter = omega arith }

-- src/print.rt:269:27
pub print_until-returns-in_err-after-clause-value :
    goal.print_until-returns-in_err-after-clause-value
print_until-returns-in_err-after-clause-value t c =
    let so_far = c.turns.invariant.read in
    let p = err_from_is_err_and c.from_residual.result c.from_residual.ensures.1 in
    rw (p.1, p.2) (until_fails c.args.stop c.in_err-after.field-0.0 (entry_at (bracketed c.args.list) c.args.limit) so_far.0 so_far.1 c.turns.rest.now _ (omega (arith, so_far.2)) c.turns.invariant.going c.in_err-after.ensures.value so_far.3)

-- src/print.rt:275:17
pub print_until-returns-in-Some-clause-value : goal.print_until-returns-in-Some-clause-value
print_until-returns-in-Some-clause-value t c =
    let entry = c.in_ok-after.ensures.value in
    let less : length c.in_ok-after.after.now < length c.turns.rest.now = grind arith in
    until_last (entries_of (bracketed c.args.list)) c.args.layout (entry_at (bracketed c.args.list) c.args.limit) c.args.stop _ c.turns.rest.now c.in_ok-after.after.now c.in-Some.behind.now (buffer_bytes c.args.out.now) (buffer_bytes c.turns.out) (buffer_bytes c.print_entry.new.out) (buffer_bytes c.print_end.new.out) c.turns.invariant.going less (grind arith) c.turns.invariant.read entry (grind arith)

-- src/print.rt:268:5
pub print_until-turns-preserved : goal.print_until-turns-preserved
print_until-turns-preserved t c =
    let entry = c.in_ok-after.ensures.value in
    let less : length c.in_ok-after.after.now < length c.turns.rest.now = grind arith in
    record {
      read = until_on (entries_of (bracketed c.args.list)) c.args.layout (entry_at (bracketed c.args.list) c.args.limit) c.args.stop _ c.turns.rest.now c.in_ok-after.after.now (buffer_bytes c.args.out.now) (buffer_bytes c.turns.out) (buffer_bytes c.print_entry.new.out) (buffer_bytes c.print_separator.new.out) c.turns.invariant.going less c.turns.invariant.read entry (grind arith);
      going = grind arith;
      shorter = omega (arith, less, c.turns.invariant.shorter);
    }

pub print_nested-returns-in_ok-print_item-in-Ok-clause-value : goal.print_nested-returns-in_ok-print_item-in-Ok-clause-value
print_nested-returns-in_ok-print_item-in-Ok-clause-value t c =
    front_written c.args.layout c.args.limit c.min.result c.args.bytes.now c.split_at.result.0.now c.in-Ok.after.now c.split_at-in-Ok.result.1.now (buffer_bytes c.args.out.now) (buffer_bytes c.print_item.new.out) (item_tree c.in-Ok.item)
    (λ i. omega (arith, c.type_inv.bytes i)) c.split_at.ensures.front c.in-Ok.ensures.value c.split_at-in-Ok.ensures.back (grind arith)

pub print_nested-returns-in-Err-Told-clause-value : goal.print_nested-returns-in-Err-Told-clause-value
print_nested-returns-in-Err-Told-clause-value t c =
    known_written (λ r. r.now) c.args.layout c.of_parts-parts.result c.args.limit c.args.bytes.now (buffer_bytes c.args.out.now) (buffer_bytes c.print_parts-in-Err-Told.new.out) c.print_parts-in-Err-Told.result
    (front_wider c.args.layout c.of_parts-parts.result c.args.limit c.min.result c.args.bytes.now c.split_at.result.0.now c.in-Err-Told.field-0-0 (λ i. omega (arith, c.type_inv.bytes i)) (cc) (omega arith) c.split_at.ensures.front
    (fault_told c.in-Err-Told.field-0 c.in-Err-Told.field-0-0 (item_at trees c.args.limit c.split_at.result.0.now) c.in-Err-Told.field-0-is c.in-Err-Told.ensures.value) c.of_parts-parts.ensures)
    (rw (nested_at c.args.limit c.in-Some.nested c.in_ok-major.argument c.args.bytes.now c.in_ok-major.behind.now
    (head_is c.args.bytes.now c.in_ok-major.behind.now c.in_ok-major.major (nested_major c.in-Some.nested) c.in_ok-major.argument c.in_ok-major.argument c.in_ok-major.ensures.value (sym c.in-Some.ensures) refl)) c.print_parts-in-Err-Told.ensures.value)

pub print_nested-returns-in-Some-known_parts-clause-value : goal.print_nested-returns-in-Some-known_parts-clause-value
print_nested-returns-in-Some-known_parts-clause-value t c =
    known_written (λ r. r.now) c.args.layout c.in-Some-known_parts.parts c.args.limit c.args.bytes.now (buffer_bytes c.args.out.now) (buffer_bytes c.print_parts.new.out) c.print_parts.result (c.in-Some-known_parts.ensures c.args.limit)
    (rw (nested_at c.args.limit c.in-Some.nested c.in_ok-major.argument c.args.bytes.now c.in_ok-major.behind.now
    (head_is c.args.bytes.now c.in_ok-major.behind.now c.in_ok-major.major (nested_major c.in-Some.nested) c.in_ok-major.argument c.in_ok-major.argument c.in_ok-major.ensures.value (sym c.in-Some.ensures) refl)) c.print_parts.ensures.value)

pub print_tag-returns-clause-value : goal.print_tag-returns-clause-value
print_tag-returns-clause-value t c =
    let p = c.in_ok-rest.ensures.value in
    tag_printed c.args.parts c.args.limit c.args.argument c.in-Some.field-0-0 c.in-Some.number c.args.bytes.now c.in_ok-rest.rest.now (buffer_bytes c.args.out.now) (buffer_bytes c.print_opener.new.out) (buffer_bytes c.push_str.new.self) (buffer_bytes c.print_space.new.out)
    (buffer_bytes c.print_item.new.out) (buffer_bytes c.print_space-2.new.out) (buffer_bytes c.push_str-2.new.self) p.0 c.in-Some.is (omega (arith, c.if-limit-eq0.false)) p.1 (grind arith) (grind arith) (grind arith) p.2 (grind arith) (grind arith)

pub print_nested-returns-in_err-major-clause-value : goal.print_nested-returns-in_err-major-clause-value
print_nested-returns-in_err-major-clause-value t c =
    let p = err_from_is_err_and c.from_residual.result c.from_residual.ensures.1 in
    rw (p.1, p.2) (item_fails trees c.in_err-major.field-0.0 c.args.limit c.args.bytes.now c.in_err-major.ensures.value)
