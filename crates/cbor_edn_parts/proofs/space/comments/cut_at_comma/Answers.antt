use Rattle.std.proofs.Common.{◌≡◌, ◌<◌, ◌≤◌, ◌++◌, length, get_or, take, true, false, sym, ap, ◌∙◌}
use Rattle.std.proofs.Math.Nat.{sub-zero}
use Rattle.std.proofs.lemmas.List.{drop_all, take_all, append-nil}
use Rattle.cbor_edn_parts.specs.internal.CommentReading.{is_comma, past, up_to_comma, past_comma}
use Rattle.cbor_edn_parts.proofs.lemmas.space.CommentScans.{front_on, front_found, behind_on, behind_found, after_comma_here}
use Rattle.cbor_edn_parts.proofs.space.comments.cut_at_comma.Goals as goal

pub range_from-requires : goal.range_from-requires
range_from-requires c =
    let lt : c.bytes.at < length c.args.text.now = rw c.as_bytes-byte-items.ensures.value at c.bytes-test.true in
    let comma : is_comma c.bytes.within (get_or c.args.text.now c.bytes.at 0) ≡ true = rw c.as_bytes-byte-items.ensures.value at (sym c.is_comma.ensures ∙ c.if-is_comma.true) in
    λ _. after_comma_here c.args.text.now c.bytes.within c.bytes.at c.utf8.text lt comma

pub returns-then-is_comma-clause-before : goal.returns-then-is_comma-clause-before
returns-then-is_comma-clause-before c =
    let lt : c.bytes.at < length c.args.text.now = rw c.as_bytes-byte-items.ensures.value at c.bytes-test.true in
    let comma : is_comma c.bytes.within (get_or c.args.text.now c.bytes.at 0) ≡ true = rw c.as_bytes-byte-items.ensures.value at (sym c.is_comma.ensures ∙ c.if-is_comma.true) in
    rw (c.range.ensures.value, sub-zero) (sym (c.bytes.invariant.before ∙ front_found c.args.text.now c.bytes.within c.bytes.at lt comma))

pub returns-then-is_comma-clause-after : goal.returns-then-is_comma-clause-after
returns-then-is_comma-clause-after c =
    let lt : c.bytes.at < length c.args.text.now = rw c.as_bytes-byte-items.ensures.value at c.bytes-test.true in
    let comma : is_comma c.bytes.within (get_or c.args.text.now c.bytes.at 0) ≡ true = rw c.as_bytes-byte-items.ensures.value at (sym c.is_comma.ensures ∙ c.if-is_comma.true) in
    c.range_from.ensures.value ∙ sym (c.bytes.invariant.after ∙ behind_found c.args.text.now c.bytes.within c.bytes.at lt comma)

pub bytes-preserved : goal.bytes-preserved
bytes-preserved c =
    let lt : c.bytes.at < length c.args.text.now = rw c.as_bytes-byte-items.ensures.value at c.bytes-test.true in
    let on : c.past-within.result ≡ past c.bytes.within (get_or c.args.text.now c.bytes.at 0) = rw c.as_bytes-byte-items.ensures.value at c.past-within.ensures in
    let other : is_comma c.bytes.within (get_or c.args.text.now c.bytes.at 0) ≡ false = rw c.as_bytes-byte-items.ensures.value at (sym c.is_comma.ensures ∙ c.if-is_comma.false) in
    rw on (record {
      before = c.bytes.invariant.before ∙ front_on c.args.text.now c.bytes.within c.bytes.at lt other;
      after = c.bytes.invariant.after ∙ behind_on c.args.text.now c.bytes.within c.bytes.at lt other;
    })

pub returns-clause-before : goal.returns-clause-before
unfolding up_to_comma
returns-clause-before c =
    let end : length c.args.text.now ≤ c.bytes.at = rw c.as_bytes-byte-items.ensures.value at c.bytes-test.false in
    sym (c.bytes.invariant.before ∙ (ap (λ t. take c.bytes.at c.args.text.now ++ up_to_comma c.bytes.within t) (drop_all c.bytes.at c.args.text.now end) ∙ (append-nil (take c.bytes.at c.args.text.now) ∙ take_all c.bytes.at c.args.text.now end)))

pub returns-clause-after : goal.returns-clause-after
unfolding past_comma
returns-clause-after c =
    let end : length c.args.text.now ≤ c.bytes.at = rw c.as_bytes-byte-items.ensures.value at c.bytes-test.false in
    sym (c.bytes.invariant.after ∙ ap (past_comma c.bytes.within) (drop_all c.bytes.at c.args.text.now end))
