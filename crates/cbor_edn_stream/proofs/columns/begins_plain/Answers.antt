use Rattle.std.proofs.Common.{◌≡◌, ◌∷◌, [], ℕ, List, subst}
use Rattle.std.specs.Prelude.{All}
use Rattle.cbor_edn_parts.specs.string.Contents.{escaped}
use Rattle.cbor_edn_stream.proofs.lemmas.Narrow.{plain_short}
use Rattle.cbor_edn_stream.proofs.columns.begins_plain.Goals as goal

pub returns : goal.returns
returns c = λ plain. plain_short c.args.count c.args.bytes.now (subst (λ (l : List ℕ). All (λ b. escaped b ≡ b ∷ []) l) c.split_at.ensures.front (c.is_plain.ensures plain))
