-- What the visits of the crate call at each tag, and at each literal.
use Rattle.cbor_edn_conversions.specs.Addresses.{resolve_address, pretty_address}
use Rattle.cbor_edn_conversions.specs.All.{resolve_all, pretty_all}
use Rattle.cbor_edn_conversions.specs.Annotations.{commenting, comment_lang}
use Rattle.cbor_edn_conversions.specs.Bignums.{pretty_bignum}
use Rattle.cbor_edn_conversions.specs.MessageClaims.{message_claims}
use Rattle.cbor_edn_conversions.specs.Tag999.{to_tag999}
use Rattle.cbor_edn_conversions.specs.Times.{resolve_time, pretty_time}
use Rattle.cbor_edn_application.specs.Acts.{Act}
use Rattle.cbor_edn_application.specs.declared.visits.TagAct.{TagAct}
use Rattle.cbor_edn_application.specs.declared.visits.TagAct.TheVariants as tag
use Rattle.cbor_edn_application.specs.declared.visits.LiteralAct.{LiteralAct}
use Rattle.cbor_edn_application.specs.declared.visits.LiteralAct.TheVariants as literal

abbrev pub tag_act : TagAct → Act
tag_act tag.Prettify = pretty_all
tag_act tag.Addresses = pretty_address
tag_act tag.Times = pretty_time
tag_act tag.Bignums = pretty_bignum
tag_act tag.Languages = comment_lang
tag_act tag.Messages = message_claims
tag_act (tag.Comment c) = commenting c.now

abbrev pub literal_act : LiteralAct → Act
literal_act literal.Resolve = resolve_all
literal_act literal.Addresses = resolve_address
literal_act literal.Times = resolve_time
literal_act literal.To999 = to_tag999
