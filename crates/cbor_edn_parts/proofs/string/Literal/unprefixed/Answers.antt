use Rattle.std.proofs.Common.{ℕ, ◌≡◌, ◌≤◌, ◌-◌, List, [], ◌∷◌, length, take, drop, get_or, refl, arith}
use Rattle.std.proofs.lemmas.List.{take_all}
use Rattle.cbor_edn_parts.specs.Leaves.{literal_bytes}
use Rattle.cbor_edn_parts.specs.internal.LiteralTokens.{quote_byte, prefix_of}
use Rattle.cbor_edn_parts.specs.internal.ContentReading.{behind_quote}
use Rattle.cbor_edn_parts.specs.declared.string.Quote.{Quote}
use Rattle.cbor_edn_parts.specs.declared.string.Quote.TheVariants.{Single, Double}
use Rattle.cbor_edn_parts.proofs.string.Literal.unprefixed.Goals as goal

-- a text that begins with a quote
record IsLone (t : List ℕ) : Type 0 where
  pub prefix : prefix_of t ≡ []
  pub behind : take (length t - 1) (drop 1 t) ≡ behind_quote t

all_behind : (c : ℕ) (t : List ℕ) → take (length (c ∷ t) - 1) t ≡ t
all_behind c t = take_all (length (c ∷ t) - 1) t (omega arith)

lone : (t : List ℕ) (q : Quote) → 1 ≤ length t → get_or t 0 0 ≡ quote_byte q → IsLone t
unfolding prefix_of
lone [] q some is = absurd (omega (arith, some))
lone (c ∷ t) Single some is = rw is (record { prefix = refl; behind = all_behind 39 t })
lone (c ∷ t) Double some is = rw is (record { prefix = refl; behind = all_behind 34 t })

pub returns-in-34-clause-prefix : goal.returns-in-34-clause-prefix
returns-in-34-clause-prefix c = rw (← c.as_str.ensures, ← c.as_bytes.ensures.value) (lone c.as_bytes.result.now Double c.in-34.len_at_least (omega arith)).prefix

pub returns-in-34-clause-quoted : goal.returns-in-34-clause-quoted
returns-in-34-clause-quoted c =
    let both : c.as_bytes.result.now ≡ literal_bytes c.args.self.now = cc in
    rw (← both) (lone c.as_bytes.result.now Double c.in-34.len_at_least (omega arith)).behind

pub returns-in-39-clause-prefix : goal.returns-in-39-clause-prefix
returns-in-39-clause-prefix c = rw (← c.as_str.ensures, ← c.as_bytes.ensures.value) (lone c.as_bytes.result.now Single c.in-39.len_at_least (omega arith)).prefix

pub returns-in-39-clause-quoted : goal.returns-in-39-clause-quoted
returns-in-39-clause-quoted c =
    let both : c.as_bytes.result.now ≡ literal_bytes c.args.self.now = cc in
    rw (← both) (lone c.as_bytes.result.now Single c.in-39.len_at_least (omega arith)).behind
