use Rattle.std.proofs.Common.{◌≡◌, ◌∷◌, ◌++◌, [], ℕ, List, refl, ap, sym, ◌∙◌, append_assoc, rules}
use Rattle.std.specs.Prelude.{encode_utf8, string_bytes}
use Rattle.std.specs.Str.{encode_utf8_all}
use Rattle.std.proofs.lemmas.List.{append-nil, map-id}
use Rattle.std.proofs.lemmas.Iterator.{YieldsList-from_chars}
use Rattle.std.proofs.lemmas.Iterator.Consumers.{YieldsList-end}
use Rattle.std.proofs.lemmas.Str.{encodes-chars, encodes-append}
use Rattle.cbor_edn_parts.specs.Written.{all_single_escaped}
use Rattle.cbor_edn_parts.proofs.lemmas.string.WrittenLiterals.{all_single_escaped-append, all_plain_single}
use Rattle.cbor_edn_parts.proofs.string.application.print_single_quoted.Goals as goal

encoded : (cs : List ℕ) (c : ℕ) → encode_utf8_all (cs ++ (c ∷ [])) ≡ encode_utf8_all cs ++ encode_utf8 c
encoded cs c = encodes-append cs (c ∷ []) ∙ ap (λ xs. encode_utf8_all cs ++ xs) (append-nil (encode_utf8 c))

pub returns-then-is_plain : goal.returns-then-is_plain
returns-then-is_plain c = rw (all_plain_single c.args.text.now (c.if-is_plain.ensures.0 refl)) (search rules)

pub loop-character-preserved : goal.loop-character-preserved
loop-character-preserved c =
    let old = string_bytes c.args.literal.now in
    let before = c.loop-character.yielded in
    c.in_ok-print_single_escaped.ensures ∙ ap (λ xs. xs ++ all_single_escaped (encode_utf8 c.in-Some.character)) c.loop-character.invariant
    ∙ append_assoc old (all_single_escaped (encode_utf8_all before)) (all_single_escaped (encode_utf8 c.in-Some.character))
    ∙ ap (λ xs. old ++ xs) (sym (all_single_escaped-append (encode_utf8_all before) (encode_utf8 c.in-Some.character)) ∙ ap all_single_escaped (sym (encoded before c.in-Some.character)))

pub returns : goal.returns
returns c =
    let t = YieldsList-end (YieldsList-from_chars c.args.text.now c.utf8.text cc) c.loop-character.yielded _ c.loop-character.yielded_by _ _ c.in-None.is c.next.ensures.steps in
    let all = ap encode_utf8_all (sym (map-id c.loop-character.yielded) ∙ t.0) ∙ encodes-chars c.args.text.now c.utf8.text in
    c.loop-character.invariant ∙ ap (λ xs. string_bytes c.args.literal.now ++ all_single_escaped xs) all
