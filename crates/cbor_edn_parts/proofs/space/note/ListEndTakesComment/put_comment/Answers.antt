use Rattle.std.proofs.Common.{◌≡◌, ◌++◌, true, sym, ap, ◌∙◌, subst}
use Rattle.cbor_edn_parts.specs.Leaves.{list_end_bytes}
use Rattle.cbor_edn_parts.specs.space.Notes.{noted}
use Rattle.cbor_edn_parts.specs.space.Spacing.{AtEnd}
use Rattle.cbor_edn_parts.specs.internal.SpaceTokens.{is_list_end}
use Rattle.cbor_edn_parts.proofs.lemmas.string.StringLiterals.{bytes_all}
use Rattle.cbor_edn_parts.proofs.lemmas.space.NoteSpaces.{notes_in_front}
use Rattle.cbor_edn_parts.proofs.space.note.ListEndTakesComment.put_comment.Goals as goal

pub invariant_of-self : goal.invariant_of-self
invariant_of-self c =
    let x = list_end_bytes c.args.self.now in
    let bytes : is_list_end (noted c.args.comment.now ++ x) ≡ true = notes_in_front AtEnd c.args.comment.now x (bytes_all c.args.comment.now c.type_inv.comment) c.args.self.now.spelled in
    record { spelled = subst (λ t. is_list_end t ≡ true) (sym (c.in_ok-text.ensures ∙ ap (λ y. noted c.args.comment.now ++ y) c.as_str.ensures)) bytes }
