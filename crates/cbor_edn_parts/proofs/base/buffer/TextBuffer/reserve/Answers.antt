use Rattle.std.proofs.Common.{sym, subst}
use Rattle.std.specs.Str.{IsUtf8}
use Rattle.cbor_edn_parts.proofs.base.buffer.TextBuffer.reserve.Goals as goal

pub invariant_of-self : goal.invariant_of-self
invariant_of-self c = record { utf8 = subst (λ t. ∥ IsUtf8 t ∥₁) (sym c.reserve.ensures.items) c.args.self.now.utf8 }
