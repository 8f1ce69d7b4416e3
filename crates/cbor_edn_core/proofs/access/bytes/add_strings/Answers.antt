use Rattle.std.proofs.Common.{ℕ, ◌+◌, List, Option, map, drop, subst, arith}
use Rattle.std.proofs.lemmas.List.{drop_all}
use Rattle.std.proofs.lemmas.Result.{err_from_is_err_and}
use Rattle.cbor_edn_parts.specs.Leaves.{list_end_bytes}
use Rattle.cbor_edn_core.specs.tree.View.{seen_string, view_string}
use Rattle.cbor_edn_core.specs.declared.access.TypeMismatch.TheVariants.{Bytes}
use Rattle.cbor_edn_core.specs.declared.tree.StringsOf.{out-StringsOf}
use Rattle.cbor_edn_core.proofs.lemmas.tree.Views.{view_strings_is}
use Rattle.cbor_edn_model.specs.access.Accessed.{pieces_bytes, chunk}
use Rattle.cbor_edn_model.specs.tree.Items.{Strings}
use Rattle.cbor_edn_model.specs.tree.TreeLeaves.{texts}
use Rattle.cbor_edn_model.specs.tree.Trees.{Tree, OneEntry, ChunkTree}
use Rattle.cbor_edn_model.proofs.lemmas.access.AddedBytes.{AddsLeft, none_added, next_added, next_stops, last_added, strings_made}
use Rattle.cbor_edn_model.proofs.lemmas.cbor.CborEncodes.{rest_at}
use Rattle.cbor_edn_core.proofs.access.bytes.add_strings.Goals as goal

abbrev bytes : Tree (OneEntry Strings) × List ℕ → Option (List ℕ)
bytes q = pieces_bytes (chunk q.0)

pub loop-string-init : goal.loop-string-init
loop-string-init c = none_added Bytes bytes (pieces_bytes (view_string texts (out-StringsOf _ _ _ _ _ _ _ c.args.strings.now).last)) (map (seen_string texts) c.deref-string-items.result.now) c.args.out.now.items

pub returns-in_err-add_string : goal.returns-in_err-add_string
returns-in_err-add_string c =
    let row = c.deref-string-items.result.now in
    let x = c.loop-string-item.result in
    let i = c.loop-string.string-index in
    let strings = out-StringsOf _ _ _ _ _ _ _ c.args.strings.now in
    let last = pieces_bytes (view_string texts strings.last) in
    let p = err_from_is_err_and c.from_residual.result c.from_residual.ensures.1 in
    rw (p.1, p.2, view_strings_is texts c.args.strings.now, strings_made (map (seen_string texts) strings.row.items) (ChunkTree (view_string texts strings.last)) (list_end_bytes strings.end), ← c.deref-string-items.ensures.value)
    (next_stops Bytes bytes last (seen_string texts x) (map (seen_string texts) (drop (i + 1) row)) (map (seen_string texts) row) c.args.out.now.items c.loop-string.out.items c.add_string.new.out.items c.in_err-add_string.field-0.0 c.in_err-add_string.ensures
    (subst (λ left. AddsLeft Bytes bytes last left (map (seen_string texts) row) c.loop-string.out.items c.args.out.now.items) (rest_at (seen_string texts) row i x c.loop-string-test.true c.loop-string-item.is) c.loop-string.invariant))

pub loop-string-preserved : goal.loop-string-preserved
loop-string-preserved c =
    let row = c.deref-string-items.result.now in
    let x = c.loop-string-item.result in
    let i = c.loop-string.string-index in
    let last = pieces_bytes (view_string texts (out-StringsOf _ _ _ _ _ _ _ c.args.strings.now).last) in
    next_added Bytes bytes last (seen_string texts x) (map (seen_string texts) (drop (i + 1) row)) (map (seen_string texts) row) c.args.out.now.items c.loop-string.out.items c.add_string.new.out.items c.in_ok-add_string.ensures
    (subst (λ left. AddsLeft Bytes bytes last left (map (seen_string texts) row) c.loop-string.out.items c.args.out.now.items) (rest_at (seen_string texts) row i x c.loop-string-test.true c.loop-string-item.is) c.loop-string.invariant)

pub returns : goal.returns
returns c =
    let row = c.deref-string-items.result.now in
    let strings = out-StringsOf _ _ _ _ _ _ _ c.args.strings.now in
    let last = pieces_bytes (view_string texts strings.last) in
    rw (view_strings_is texts c.args.strings.now, strings_made (map (seen_string texts) strings.row.items) (ChunkTree (view_string texts strings.last)) (list_end_bytes strings.end), ← c.deref-string-items.ensures.value)
    (last_added Bytes bytes last (map (seen_string texts) row) c.args.out.now.items c.loop-string.out.items c.add_string-2.new.out.items c.add_string-2.result c.add_string-2.ensures
    (subst (λ left. AddsLeft Bytes bytes last (map (seen_string texts) left) (map (seen_string texts) row) c.loop-string.out.items c.args.out.now.items) (drop_all c.loop-string.string-index row (omega arith)) c.loop-string.invariant))
