use Rattle.std.proofs.Common.{◌≡◌, ℕ, ◌+◌, ◌-◌, ◌≤◌, true, false, ltb, take, length, ap, arith}
use Rattle.std.proofs.lemmas.Bool.{ltb-true, ltb-false}
use Rattle.cbor_edn_stream.specs.Heads.{chunk_columns}
use Rattle.cbor_edn_stream.proofs.lemmas.ChunkWidths.{left_behind, ends_narrow, ends_wide, refused_wide, open_wide, chunk_wide, chunk_long, shown_is}
use Rattle.cbor_edn_stream.proofs.columns.do_chunks_fit.Goals.{then-left-count-via-then-left-count, then-left-count-via-else-left-count+then-behind-count}
use Rattle.cbor_edn_stream.proofs.columns.do_chunks_fit.Goals as goal

pub returns-then-is_some-clause-narrow : goal.returns-then-is_some-clause-narrow
returns-then-is_some-clause-narrow c = λ (some : ltb 0 c.chunks.left ≡ true). ends_narrow c.args.kind c.args.bytes.now c.chunks.rest.now c.args.columns c.chunks.left c.requires (λ none. grind arith) (ltb-true 0 c.chunks.left some) c.chunks.invariant.so_far

pub returns-then-is_some-clause-wide : goal.returns-then-is_some-clause-wide
returns-then-is_some-clause-wide c = λ (none_left : ltb 0 c.chunks.left ≡ false). ends_wide c.args.kind c.args.bytes.now c.chunks.rest.now c.args.columns c.chunks.left c.requires (λ none. grind arith) (omega (arith, ltb-false 0 c.chunks.left none_left)) c.chunks.invariant.so_far

pub returns-in-Err-Told-clause-wide : goal.returns-in-Err-Told-clause-wide
returns-in-Err-Told-clause-wide c = λ _.
    refused_wide c.args.kind c.args.bytes.now c.chunks.rest.now c.args.columns c.chunks.left c.in-Err-Told.field-0-0 c.requires (grind arith) (grind arith) c.chunks.invariant.so_far

pub returns-in_default-clause-wide : goal.returns-in_default-clause-wide
returns-in_default-clause-wide c = λ _.
    open_wide c.args.kind c.args.bytes.now c.chunks.rest.now c.in-Ok.head.1.now c.args.columns c.chunks.left c.in-Ok.head.0.0 c.in-Ok.head.0.1 c.requires (grind arith) c.in-Ok.ensures.value c.in_default.is c.chunks.invariant.so_far

pub returns-then-left-count-clause-wide : goal.returns-then-left-count-clause-wide
returns-then-left-count-clause-wide c = λ _.
    chunk_wide c.args.kind c.args.bytes.now c.chunks.rest.now c.in-Ok.head.1.now c.args.columns c.chunks.left c.in-Ok.head.0.0 c.in-Ok.head.0.1 c.in-Some.field-0-0 c.in-Some.count c.requires (grind arith) c.in-Ok.ensures.value c.in-Some.is
    (λ le. elim c.then-left-count.branch [
      | then-left-count-via-then-left-count w ↦ (let h = chunk_long c.args.kind c.in-Some.field-0-0 c.in-Some.count c.in-Ok.head.1.now le in omega (arith, h, w.if-left-count.true))
      | then-left-count-via-else-left-count+then-behind-count w ↦ absurd (omega (arith, w.if-behind-count.true, le))
    ]) c.chunks.invariant.so_far

pub returns-then-left-shown-clause-wide : goal.returns-then-left-shown-clause-wide
returns-then-left-shown-clause-wide c = λ _.
    chunk_wide c.args.kind c.args.bytes.now c.chunks.rest.now c.in-Ok.head.1.now c.args.columns c.chunks.left c.in-Ok.head.0.0 c.in-Ok.head.0.1 c.in-Some.field-0-0 c.in-Some.count c.requires (grind arith) c.in-Ok.ensures.value c.in-Some.is
    (λ le.
    let shown = shown_is c.args.kind c.in-Some.field-0-0 c.in-Some.count c.in-Ok.head.0.1 c.indicator_of.result c.split_at.result.0.now c.in-Ok.head.1.now c.literal_len.result _ c.saturating_add-shown.result c.in-Some.is c.indicator_of.ensures c.split_at.ensures.front le
    c.literal_len.ensures (ap (λ (n : ℕ). n + 2) c.indicator_len-separated.ensures) c.saturating_add-shown.ensures in
    omega (arith, shown, c.if-left-shown.true)) c.chunks.invariant.so_far

pub chunks-preserved : goal.chunks-preserved
chunks-preserved c =
    let le : c.in-Some.count ≤ length c.in-Ok.head.1.now = omega (arith, c.if-behind-count.false) in
    let shown = shown_is c.args.kind c.in-Some.field-0-0 c.in-Some.count c.in-Ok.head.0.1 c.indicator_of.result c.split_at.result.0.now c.in-Ok.head.1.now c.literal_len.result _ c.saturating_add-shown.result c.in-Some.is c.indicator_of.ensures c.split_at.ensures.front le
    c.literal_len.ensures (ap (λ (n : ℕ). n + 2) c.indicator_len-separated.ensures) c.saturating_add-shown.ensures in
    let all : chunk_columns c.args.kind (c.in-Some.field-0-0, take c.in-Some.count c.in-Ok.head.1.now) ≡ c.saturating_add-shown.result = omega (arith, shown, c.if-left-shown.false, c.chunks.invariant.within) in
    record {
      so_far = left_behind c.args.kind c.args.bytes.now c.chunks.rest.now c.in-Ok.head.1.now c.split_at.result.1.now (c.args.columns - 2) c.chunks.left (c.chunks.left - c.saturating_add-shown.result) c.in-Ok.head.0.0 c.in-Ok.head.0.1 c.in-Some.field-0-0 c.in-Some.count
          (grind arith) c.in-Ok.ensures.value c.in-Some.is c.split_at.ensures.back (omega (arith, all, c.if-left-shown.false)) (omega (arith, all)) c.chunks.invariant.so_far;
      within = omega (arith, c.chunks.invariant.within);
    }
