use Rattle.std.proofs.Common.{ℕ, List, sym, subst, ◌∙◌}
use Rattle.cbor_edn_parts.specs.Leaves.{literal_bytes}
use Rattle.cbor_edn_parts.specs.string.Literal.{IsLiteral, Prefixed}
use Rattle.cbor_edn_parts.proofs.lemmas.string.LiteralPrefixes.{prefix_empty, prefix_filled}
use Rattle.cbor_edn_parts.proofs.lemmas.string.Applications.{prefixed_read, unprefixed_read}
use Rattle.cbor_edn_parts.proofs.string.Literal.application_prefix.Goals as goal

pub returns-then-is_empty-clause-none : goal.returns-then-is_empty-clause-none
returns-then-is_empty-clause-none c = unprefixed_read (literal_bytes c.args.self.now) (sym c.prefix-prefix.ensures ∙ prefix_empty c.prefix-prefix.result.now c.if-is_empty.ensures)

pub returns-clause-found : goal.returns-clause-found
returns-clause-found c =
    let t = literal_bytes c.args.self.now in
    let read = prefixed_read t (rw (← c.prefix-prefix.ensures) (prefix_filled c.prefix-prefix.result.now c.if-is_empty.ensures)) c.args.self.now.spelled in
    subst (λ p. (v : List ℕ) × IsLiteral (Prefixed p) v t) (sym c.prefix-prefix.ensures) (_, read)
