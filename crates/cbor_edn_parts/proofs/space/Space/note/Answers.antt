use Rattle.std.proofs.Common.{◌≡◌, true, false, sym, ap, ◌∙◌, subst}
use Rattle.std.specs.Prelude.{string_bytes}
use Rattle.cbor_edn_parts.specs.space.Notes.{has_slash, noted}
use Rattle.cbor_edn_parts.specs.internal.SpaceTokens.{is_space}
use Rattle.cbor_edn_parts.proofs.lemmas.string.StringLiterals.{bytes_all}
use Rattle.cbor_edn_parts.proofs.lemmas.space.NoteSpaces.{notes_are_space}
use Rattle.cbor_edn_parts.proofs.lemmas.space.NoteTexts.{slash_found}
use Rattle.cbor_edn_parts.proofs.lemmas.space.SpaceTexts.{optional_texts}
use Rattle.cbor_edn_parts.proofs.space.Space.note.Goals as goal
use Rattle.cbor_edn_parts.proofs.space.Space.note.Goals.{Joined-contains, then-contains+in_ok-text, else-contains+in_ok-text-2}

bytes : (c : goal.Joined-contains) → string_bytes c.if-contains.text ≡ noted c.args.comment.now
unfolding noted
bytes c =
    let found : c.contains.result ≡ has_slash c.args.comment.now = c.contains.ensures.value ∙ (slash_found c.as_bytes.result.now ∙ ap has_slash c.as_bytes.ensures.value) in
    elim c.if-contains.branch [
      | then-contains+in_ok-text w ↦
          let some : has_slash c.args.comment.now ≡ true = sym found ∙ w.if-contains.true in
          rw (w.text-is, some) w.in_ok-text.ensures
      | else-contains+in_ok-text-2 w ↦
          let none : has_slash c.args.comment.now ≡ false = sym found ∙ w.if-contains.false in
          rw (w.text-is, none) w.in_ok-text-2.ensures
    ]

pub invariant_of-result : goal.invariant_of-result
invariant_of-result c = record {
  spelled = subst (λ t. is_space t ≡ true) (sym (c.in_ok-text-3.ensures ∙ bytes (goal.at.invariant_of-result c).Joined-contains)) ((optional_texts (noted c.args.comment.now)).0 (notes_are_space c.args.comment.now (bytes_all c.args.comment.now c.type_inv.comment)).0);
}

pub returns : goal.returns
returns c = c.in_ok-text-3.ensures ∙ bytes (goal.at.returns c).Joined-contains
