use Rattle.cbor_edn_parts.proofs.lemmas.space.CommentTexts.{one_comments_of, cut_at_comma}
use Rattle.cbor_edn_parts.proofs.lemmas.space.Spacings.{spaced_stays, spaced_forgets}
use Rattle.cbor_edn_parts.proofs.lemmas.space.NoteSpaces as parts
use Rattle.cbor_edn_parts.proofs.laws.space_layouts.Goals as goal

pub returns : goal.returns
returns c = record {
  comments = one_comments_of;
  comma = cut_at_comma;
  kinds = spaced_stays;
  columns = spaced_forgets;
  notes = parts.notes_are_space;
  in_front = parts.notes_in_front;
}
