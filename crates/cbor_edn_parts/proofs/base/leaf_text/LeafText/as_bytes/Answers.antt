use Rattle.std.proofs.Common.{sym, subst}
use Rattle.std.specs.Str.{IsUtf8}
use Rattle.cbor_edn_parts.proofs.base.leaf_text.LeafText.as_bytes.Goals as goal

pub returns-in-Short-clause-utf8 : goal.returns-in-Short-clause-utf8
returns-in-Short-clause-utf8 c = subst (λ t. ∥ IsUtf8 t ∥₁) (sym c.as_bytes-in-Short.ensures) c.in-Short.text.utf8
