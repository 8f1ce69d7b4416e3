-- What the literals of decoded strings stand for.
use Rattle.std.proofs.Common.{◌≡◌, ℕ, List, [], Some, refl}
use Rattle.cbor_edn_parts.specs.string.Contents.{kind_literal, empty_literal}
use Rattle.cbor_edn_parts.specs.internal.ContentReading.{literal_content}
use Rattle.cbor_edn_parts.specs.internal.LiteralTokens.{quoted_of, prefix_of, decoded}
use Rattle.cbor_edn_parts.specs.declared.string.StringKind.{StringKind}
use Rattle.cbor_edn_parts.specs.declared.string.StringKind.TheVariants.{Bytes, Text}
use Rattle.cbor_edn_parts.proofs.lemmas.string.StringLiterals.{hex_stands, text_stands}
use Rattle.cbor_edn_model.specs.cbor.Value.{AreBytes}

pub literal_again : (k : StringKind) (bs : List ℕ) → AreBytes bs → literal_content (kind_literal k bs) ≡ Some (k, bs)
literal_again Bytes bs fit = hex_stands bs fit
literal_again Text bs fit = text_stands bs fit

pub empty_again : (k : StringKind) → literal_content (empty_literal k) ≡ Some (k, [])
unfolding quoted_of prefix_of decoded
empty_again Bytes = refl
empty_again Text = refl
