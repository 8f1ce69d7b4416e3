use Rattle.std.proofs.Common.{◌∷◌, ◌++◌, map, ap, sym, ◌∙◌, arith}
use Rattle.std.specs.Prelude.{encode_utf8}
use Rattle.std.specs.Str.{encode_utf8_all}
use Rattle.std.proofs.lemmas.List.{map-id}
use Rattle.std.proofs.lemmas.Iterator.{YieldsList-from_chars}
use Rattle.std.proofs.lemmas.Iterator.Consumers.{YieldsList-end}
use Rattle.std.proofs.lemmas.Str.{encodes-chars, encode_ascii}
use Rattle.cbor_edn_parts.specs.space.Notes.{cleaned, hash_lines}
use Rattle.cbor_edn_parts.proofs.lemmas.space.NoteTexts.{lines_more}
use Rattle.cbor_edn_parts.proofs.space.note.behind_hashes.Goals as goal

pub loop-character-init : goal.loop-character-init
unfolding hash_lines
loop-character-init c = c.in_ok-text.ensures.ok

pub loop-character-preserved : goal.loop-character-preserved
loop-character-preserved c =
    c.in_ok-print_behind_hash.ensures
    ∙ ap (λ xs. xs ++ hash_lines (map cleaned (encode_utf8 c.in-Some.character))) c.loop-character.invariant
    ∙ ap (λ xs. 35 ∷ 32 ∷ xs) (sym (lines_more c.loop-character.yielded c.in-Some.character))

pub returns : goal.returns
returns c =
    let t = YieldsList-end (YieldsList-from_chars c.args.comment.now c.utf8.comment cc) c.loop-character.yielded _ c.loop-character.yielded_by _ _ c.in-None.is c.next.ensures.steps in
    let all = ap encode_utf8_all (sym (map-id c.loop-character.yielded) ∙ t.0) ∙ encodes-chars c.args.comment.now c.utf8.comment in
    c.in_ok-push.ensures.bytes
    ∙ ap (λ xs. xs ++ encode_utf8 10) (c.loop-character.invariant ∙ ap (λ xs. 35 ∷ 32 ∷ hash_lines (map cleaned xs)) all)
    ∙ ap (λ xs. 35 ∷ 32 ∷ (hash_lines (map cleaned c.args.comment.now) ++ xs)) (encode_ascii 10 (omega arith))
