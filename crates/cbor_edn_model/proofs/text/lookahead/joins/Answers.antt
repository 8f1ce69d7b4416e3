use Rattle.std.proofs.Common.{ℕ, List, [], ◌∷◌, ◌≡◌, drop, false, Bool, refl, ◌∙◌}
use Rattle.std.specs.Prelude.{not}
use Rattle.std.proofs.lemmas.Bool.{ne_eqb}
use Rattle.cbor_edn_parts.specs.internal.Input.{text_bytes}
use Rattle.cbor_edn_model.specs.internal.BytesAt.{IsNotAt}
use Rattle.cbor_edn_model.specs.tree.Trees.{joins, starts_number}
use Rattle.cbor_edn_model.proofs.text.lookahead.joins.Goals as goal

behind_plus : (xs r : List ℕ) (b : Bool) → xs ≡ 43 ∷ r → b ≡ starts_number r → not b ≡ joins xs
unfolding joins
behind_plus xs r b here e = rw (here, e) refl

no_plus : (xs : List ℕ) → IsNotAt 43 xs → false ≡ joins xs
unfolding joins
no_plus [] n = refl
no_plus (c ∷ xs) n = rw (ne_eqb c 43 n) refl

pub returns-then-is_at-clause-value : goal.returns-then-is_at-clause-value
returns-then-is_at-clause-value c = behind_plus (drop c.args.at (text_bytes c.args.text.now)) _ _ (c.if-is_at.ensures.yes refl).0 c.starts_number.ensures.value

pub returns-else-is_at-clause-value : goal.returns-else-is_at-clause-value
returns-else-is_at-clause-value c = c.if-is_at.false ∙ no_plus (drop c.args.at (text_bytes c.args.text.now)) (c.is_at.ensures.no c.if-is_at.false)
