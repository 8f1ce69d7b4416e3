use Rattle.std.proofs.Common.{◌≡◌, ◌<◌, length, get_or, true, false, refl, sym, ap, ◌∙◌}
use Rattle.std.proofs.lemmas.List.{drop_all}
use Rattle.std.proofs.lemmas.Str.{IsCharBoundary-start}
use Rattle.cbor_edn_parts.specs.internal.CommentReading.{is_blank, from_first}
use Rattle.cbor_edn_parts.proofs.lemmas.space.CommentScans.{first_blank, first_other, after_blank}
use Rattle.cbor_edn_parts.proofs.space.comments.from_first.Goals as goal

pub bytes-init : goal.bytes-init
bytes-init c = record { place = IsCharBoundary-start c.args.text.now c.utf8.text; rest = refl }

pub returns-then-not-is_blank : goal.returns-then-not-is_blank
returns-then-not-is_blank c =
    let lt : c.bytes.at < length c.args.text.now = rw c.as_bytes-byte-items.ensures.value at c.bytes-test.true in
    let other : is_blank (get_or c.args.text.now c.bytes.at 0) ≡ false = rw c.as_bytes-byte-items.ensures.value at (sym c.is_blank.ensures ∙ c.if-not-is_blank.true) in
    c.range_from.ensures.value ∙ sym (c.bytes.invariant.rest ∙ first_other c.args.text.now c.bytes.at lt other)

pub bytes-preserved : goal.bytes-preserved
bytes-preserved c =
    let lt : c.bytes.at < length c.args.text.now = rw c.as_bytes-byte-items.ensures.value at c.bytes-test.true in
    let blank : is_blank (get_or c.args.text.now c.bytes.at 0) ≡ true = rw c.as_bytes-byte-items.ensures.value at (sym c.is_blank.ensures ∙ c.if-not-is_blank.false) in
    record {
      place = after_blank c.args.text.now c.bytes.at c.utf8.text lt blank;
      rest = c.bytes.invariant.rest ∙ first_blank c.args.text.now c.bytes.at lt blank;
    }

pub returns : goal.returns
unfolding from_first
returns c =
    let all = drop_all c.bytes.at c.args.text.now (rw c.as_bytes-byte-items.ensures.value at c.bytes-test.false) in
    sym (c.bytes.invariant.rest ∙ ap from_first all)
