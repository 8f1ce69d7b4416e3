use Rattle.std.proofs.Common.{length, ap, ◌∙◌, ◌-◌, ◌^◌}
use Rattle.std.specs.Prelude.{min, max}
use Rattle.cbor_edn_parts.specs.internal.CommentReading.{comments_of}
use Rattle.cbor_edn_parts.specs.Leaves.{mandatory_bytes}
use Rattle.cbor_edn_parts.specs.internal.Columns.{column_length}
use Rattle.cbor_edn_parts.proofs.lemmas.space.ColumnLengths.{mandatory_length}
use Rattle.cbor_edn_parts.proofs.space.MandatorySpace.spaced_len.Goals as goal

pub returns : goal.returns
returns c =
    let comments = c.comments-comments.ensures ∙ ap comments_of c.as_str.ensures in
    let columns = c.column_len.ensures ∙ ap (λ t. min (column_length c.args.spacing (length t)) (2 ^ 64 - 1)) comments in
    c.max.ensures ∙ ap (λ n. max n 1) columns ∙ mandatory_length c.args.spacing (mandatory_bytes c.args.self.now)
