use Rattle.std.proofs.Common.{ℕ, ◌≡◌, ◌<◌, ◌≤◌, List, [], length, get_or, drop, true, refl, sym, ap, ◌∙◌, arith}
use Rattle.std.proofs.lemmas.List.{drop_all}
use Rattle.std.proofs.lemmas.Str.{IsCharBoundary-after_ascii}
use Rattle.cbor_edn_parts.specs.space.Spacing.{comments_before, comments_after}
use Rattle.cbor_edn_parts.specs.internal.CommentReading.{from_first, to_last, comments_of, is_comma, before_comma, after_comma, up_to_comma, past_comma}
use Rattle.cbor_edn_parts.specs.declared.space.SpaceState.TheVariants.{Between}
use Rattle.cbor_edn_parts.proofs.lemmas.space.CommentScans.{front_found, behind_found}
use Rattle.cbor_edn_parts.proofs.lemmas.space.CommentTexts.{front_first, behind_first}
use Rattle.cbor_edn_parts.proofs.space.comments.comments_in_parts.Goals as goal

before : (x rest front : List ℕ) → rest ≡ from_first x → front ≡ before_comma rest → to_last Between front ≡ comments_before x
before x rest front e f = ap (to_last Between) (f ∙ (ap before_comma e ∙ sym (front_first x)))

after : (x rest back : List ℕ) → rest ≡ from_first x → back ≡ after_comma rest → comments_of back ≡ comments_after x
after x rest back e f = ap comments_of (f ∙ (ap after_comma e ∙ sym (behind_first x)))

nothing : (rest : List ℕ) → length rest ≤ 0 → ([] ≡ before_comma rest) × ([] ≡ after_comma rest)
unfolding up_to_comma past_comma
nothing rest none = let e : rest ≡ [] = drop_all 0 rest none in rw e (refl, refl)

comma : (rest : List ℕ) → 0 < length rest → get_or rest 0 0 ≡ 44 → ([] ≡ before_comma rest) × (drop 1 rest ≡ after_comma rest)
comma rest some is =
    let e : is_comma Between (get_or rest 0 0) ≡ true = rw is refl in
    (sym (front_found rest Between 0 some e), sym (behind_found rest Between 0 some e))

pub range_from-requires : goal.range_from-requires
range_from-requires c =
    let rest = c.from_first-rest.result.now in
    let ascii : get_or rest 0 0 < 128 = rw (← c.as_bytes.ensures.value) (omega arith) in
    let some : 0 < length rest = rw (← c.as_bytes.ensures.value) (omega arith) in
    λ _. IsCharBoundary-after_ascii rest 0 c.from_first-rest.utf8 some ascii

pub returns-in-empty-clause-before : goal.returns-in-empty-clause-before
unfolding to_last
returns-in-empty-clause-before c =
    let rest = c.from_first-rest.result.now in
    let none : length rest ≤ 0 = rw (← c.as_bytes.ensures.value) (omega arith) in
    before c.args.text.now rest [] c.from_first-rest.ensures (nothing rest none).0

pub returns-in-empty-clause-after : goal.returns-in-empty-clause-after
unfolding to_last from_first
returns-in-empty-clause-after c =
    let rest = c.from_first-rest.result.now in
    let none : length rest ≤ 0 = rw (← c.as_bytes.ensures.value) (omega arith) in
    after c.args.text.now rest [] c.from_first-rest.ensures (nothing rest none).1

pub returns-in-44-clause-before : goal.returns-in-44-clause-before
unfolding to_last
returns-in-44-clause-before c =
    let rest = c.from_first-rest.result.now in
    let some : 0 < length rest = rw (← c.as_bytes.ensures.value) (omega arith) in
    let is : get_or rest 0 0 ≡ 44 = rw (← c.as_bytes.ensures.value) (omega arith) in
    before c.args.text.now rest [] c.from_first-rest.ensures (comma rest some is).0

pub returns-in-44-clause-after : goal.returns-in-44-clause-after
returns-in-44-clause-after c =
    let rest = c.from_first-rest.result.now in
    let some : 0 < length rest = rw (← c.as_bytes.ensures.value) (omega arith) in
    let is : get_or rest 0 0 ≡ 44 = rw (← c.as_bytes.ensures.value) (omega arith) in
    c.comments.ensures ∙ after c.args.text.now rest c.range_from.result.now c.from_first-rest.ensures (c.range_from.ensures.value ∙ (comma rest some is).1)

pub returns-in_default-clause-before : goal.returns-in_default-clause-before
returns-in_default-clause-before c =
    c.to_last.ensures ∙ before c.args.text.now c.from_first-rest.result.now _ c.from_first-rest.ensures c.cut_at_comma.ensures.before

pub returns-in_default-clause-after : goal.returns-in_default-clause-after
returns-in_default-clause-after c =
    c.comments-in_default.ensures ∙ after c.args.text.now c.from_first-rest.result.now _ c.from_first-rest.ensures c.cut_at_comma.ensures.after
