use Rattle.std.proofs.Common.{◌≡◌, ◌≢◌, [], ◌∷◌, List, ℕ, Ok, Err, Some, refl, sym}
use Rattle.std.proofs.lemmas.Bool.{false≢true}
use Rattle.cbor_edn_parts.specs.declared.base.indicator.Indicator.{Indicator}
use Rattle.cbor_edn_parts.specs.declared.base.error.ParseErrorKind.TheVariants.{Invalid}
use Rattle.cbor_edn_model.specs.internal.Reading.{list_head_of}
use Rattle.cbor_edn_model.specs.tree.Trees.{WithIndicator}
use Rattle.cbor_edn_model.proofs.text.lookahead.list_head_and_space.Goals as goal

no_space : (i : Indicator) (s : List ℕ) → s ≡ [] → list_head_of (Some i) s ≡ Err Invalid
unfolding list_head_of
no_space i s e = rw e

own_space : (i : Indicator) (s : List ℕ) → s ≢ [] → list_head_of (Some i) s ≡ Ok (WithIndicator i s, [])
unfolding list_head_of
own_space i [] n = absurd (n refl)
own_space i (c ∷ s) n = refl

pub returns-in-None-clause-some : goal.returns-in-None-clause-some
unfolding list_head_of
returns-in-None-clause-some c = rw c.in-None.is

pub returns-in-None-into_mandatory-clause-none : goal.returns-in-None-into_mandatory-clause-none
returns-in-None-into_mandatory-clause-none c = rw c.in-Some.is (no_space _ _ (c.in-None-into_mandatory.ensures.none.0 refl))

pub returns-in-Some-into_mandatory-clause-some : goal.returns-in-Some-into_mandatory-clause-some
returns-in-Some-into_mandatory-clause-some c =
    rw (c.in-Some.is, c.empty.ensures.bytes, c.in-Some-into_mandatory.ensures.same) (own_space c.in-Some.indicator _ (λ e. false≢true (sym (c.in-Some-into_mandatory.ensures.none.1 e))))
