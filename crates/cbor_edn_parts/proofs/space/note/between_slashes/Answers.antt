use Rattle.std.proofs.Common.{◌∷◌, ◌++◌, [], map, ap, sym, ◌∙◌}
use Rattle.std.specs.Prelude.{encode_utf8}
use Rattle.std.specs.Str.{encode_utf8_all}
use Rattle.std.proofs.lemmas.List.{map-id}
use Rattle.std.proofs.lemmas.Iterator.{YieldsList-from_chars}
use Rattle.std.proofs.lemmas.Iterator.Consumers.{YieldsList-end}
use Rattle.std.proofs.lemmas.Str.{encodes-chars}
use Rattle.cbor_edn_parts.specs.space.Notes.{cleaned}
use Rattle.cbor_edn_parts.proofs.lemmas.space.NoteTexts.{cleaned_more}
use Rattle.cbor_edn_parts.proofs.space.note.between_slashes.Goals as goal

pub loop-character-preserved : goal.loop-character-preserved
loop-character-preserved c =
    c.in_ok-push.ensures.bytes
    ∙ ap (λ xs. xs ++ encode_utf8 c.cleaned.result) c.loop-character.invariant
    ∙ ap (λ d. 47 ∷ 32 ∷ (map cleaned (encode_utf8_all c.loop-character.yielded) ++ encode_utf8 d)) c.cleaned.ensures
    ∙ ap (λ xs. 47 ∷ 32 ∷ xs) (sym (cleaned_more c.loop-character.yielded c.in-Some.character))

pub returns : goal.returns
returns c =
    let t = YieldsList-end (YieldsList-from_chars c.args.comment.now c.utf8.comment cc) c.loop-character.yielded _ c.loop-character.yielded_by _ _ c.in-None.is c.next.ensures.steps in
    let all = ap encode_utf8_all (sym (map-id c.loop-character.yielded) ∙ t.0) ∙ encodes-chars c.args.comment.now c.utf8.comment in
    c.in_ok-push_str.ensures.bytes ∙ ap (λ xs. xs ++ (32 ∷ 47 ∷ [])) (c.loop-character.invariant ∙ ap (λ xs. 47 ∷ 32 ∷ map cleaned xs) all)
