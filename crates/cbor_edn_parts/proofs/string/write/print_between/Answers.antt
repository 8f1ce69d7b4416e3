use Rattle.std.proofs.Common.{◌≡◌, ◌↔◌, IsTrue, ◌<◌, ◌-◌, ◌++◌, ◌∷◌, [], length, get_or, drop, take, refl, ap, ◌∙◌, subst, rules, arith}
use Rattle.std.specs.Prelude.{encode_utf8, string_bytes}
use Rattle.std.proofs.lemmas.List.{take_all}
use Rattle.std.proofs.lemmas.Str.{IsCharBoundary-start, IsCharBoundary-after_ascii}
use Rattle.cbor_edn_parts.specs.string.Contents.{escaped, all_escaped}
use Rattle.cbor_edn_parts.proofs.lemmas.string.EscapedParts.{escaped_small, plain_waits, other_written}
use Rattle.cbor_edn_parts.proofs.string.write.print_between.Goals as goal
use Rattle.cbor_edn_parts.proofs.string.write.print_between.Goals.{then-not-stands_for_itself+in_ok-push_str+in_ok-print_escaped, else-not-stands_for_itself}

pub bytes-init : goal.bytes-init
bytes-init c = record { order = omega arith; begins = IsCharBoundary-start c.args.text.now c.utf8.text; written = refl }

pub range-requires-clause-start_le_end : goal.range-requires-clause-start_le_end
range-requires-clause-start_le_end c = c.bytes.invariant.order

pub range-requires-clause-start_boundary : goal.range-requires-clause-start_boundary
range-requires-clause-start_boundary c = λ _. c.bytes.invariant.begins

pub range_from-requires : goal.range_from-requires
range_from-requires c = λ _. c.bytes.invariant.begins

pub bytes-preserved : goal.bytes-preserved
bytes-preserved c =
    let t = c.args.text.now in
    let at = c.bytes.at in
    let within : at < length t = rw c.as_bytes-byte-items.ensures.value at c.bytes-test.true in
    let test : IsTrue c.stands_for_itself.result ↔ (escaped (get_or t at 0) ≡ get_or t at 0 ∷ []) = rw c.as_bytes-byte-items.ensures.value at c.stands_for_itself.ensures in
    elim c.if-not-stands_for_itself.branch [
      | then-not-stands_for_itself+in_ok-push_str+in_ok-print_escaped w ↦
          let small = escaped_small (get_or t at 0) (λ e. let is = test.1 e in let no = w.if-not-stands_for_itself.true in cc) in
          let byte : w.from.result ≡ get_or t at 0 = w.from.ensures ∙ ap (λ xs. get_or xs at 0) c.as_bytes-byte-items.ensures.value in
          let waited : string_bytes w.push_str.new.self ≡ string_bytes c.bytes.literal ++ take (at - c.bytes.from) (drop c.bytes.from t) = w.in_ok-push_str.ensures.bytes ∙ ap (λ xs. string_bytes c.bytes.literal ++ xs) w.range.ensures.value in
          let written : string_bytes w.print_escaped.new.text ≡ (string_bytes c.bytes.literal ++ take (at - c.bytes.from) (drop c.bytes.from t)) ++ all_escaped (encode_utf8 (get_or t at 0)) =
          w.in_ok-print_escaped.ensures ∙ (ap (λ xs. xs ++ all_escaped (encode_utf8 w.from.result)) waited ∙ ap (λ b. (string_bytes c.bytes.literal ++ take (at - c.bytes.from) (drop c.bytes.from t)) ++ all_escaped (encode_utf8 b)) byte) in
          rw (w.from-is, w.literal-is) (record {
            order = omega arith;
            begins = IsCharBoundary-after_ascii t at c.utf8.text within small;
            written = other_written t c.bytes.from at c.bytes.invariant.order within _ _ c.bytes.invariant.written (string_bytes w.print_escaped.new.text) small written;
          })
      | else-not-stands_for_itself w ↦
          rw (w.from-is, w.literal-is) (record {
            order = omega arith;
            begins = c.bytes.invariant.begins;
            written = plain_waits t c.bytes.from at c.bytes.invariant.order within _ _ c.bytes.invariant.written (test.0 w.if-not-stands_for_itself.false);
          })
    ]

pub returns : goal.returns
returns c =
    let t = c.args.text.now in
    let all : take c.bytes.at t ≡ t = take_all c.bytes.at t (rw c.as_bytes-byte-items.ensures.value at c.bytes-test.false) in
    let whole : string_bytes c.bytes.literal ++ drop c.bytes.from t ≡ string_bytes c.args.literal.now ++ all_escaped t =
    subst (λ x. string_bytes c.bytes.literal ++ drop c.bytes.from x ≡ string_bytes c.args.literal.now ++ all_escaped x) all c.bytes.invariant.written in
    rw (← whole, ← c.range_from.ensures.value) (search rules)
