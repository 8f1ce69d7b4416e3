use Rattle.std.proofs.Common.{sym, subst}
use Rattle.std.specs.String.{string_bytes}
use Rattle.cbor_edn.specs.Recoding.{IsTextOfItems}
use Rattle.cbor_edn_parts.specs.declared.base.nesting.TheConstants.{NESTING_LIMIT}
use Rattle.cbor_edn.proofs.RecodedTexts.{one_encoding_of_text}
use Rattle.cbor_edn.proofs.laws.recode.recoded_by_text.Goals as goal

pub read_and_encoded-requires : goal.read_and_encoded-requires
read_and_encoded-requires c = (c.args.bytes.now, subst (IsTextOfItems NESTING_LIMIT c.args.bytes.now) (sym c.as_str.ensures.value) c.in_ok-text.ensures.text)

pub returns-clause-same : goal.returns-clause-same
returns-clause-same c =
    one_encoding_of_text NESTING_LIMIT _ c.args.bytes.now (string_bytes c.in_ok-text.text)
    (subst (IsTextOfItems NESTING_LIMIT _) c.as_str.ensures.value c.in_ok-read_and_encoded.ensures) c.in_ok-text.ensures.text
