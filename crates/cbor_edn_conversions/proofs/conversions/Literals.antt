-- The literals of times and addresses, and the values that the resolvers give them.
use Rattle.std.proofs.Common.{ℕ, ◌<◌, ◌≡◌, Bool, true, false, List, codes, All, Option, Some, None, Ok, refl, ap, ◌∙◌}
use Rattle.cbor_edn_parts.specs.declared.base.indicator.Indicator.{Indicator}
use Rattle.cbor_edn_parts.specs.string.Literal.{IsPrefix, Prefixed, IsLiteral}
use Rattle.cbor_edn_parts.specs.Written.{application_literal}
use Rattle.cbor_edn_parts.specs.internal.ContentReading.{is_supported_prefix, literal_content}
use Rattle.cbor_edn_parts.proofs.lemmas.string.PrefixTests.{prefix_test}
use Rattle.cbor_edn_parts.proofs.lemmas.string.WrittenLiterals.{application_is}
use Rattle.cbor_edn_model.specs.cbor.Meaning.{◌>>=◌, means, string_of}
use Rattle.cbor_edn_model.specs.tree.Trees.{Tree, OneItem, items}
use Rattle.cbor_edn_model.specs.cbor.Value.{Value}
use Rattle.cbor_edn_conversions.specs.Resolving.{Resolver, or_else, means_by, ResolvesApplications, ResolvesNoContent}
use Rattle.cbor_edn_conversions.proofs.resolving.ByPrefix.{by_prefix_applications, by_prefix_no_content, by_prefix_is}
use Rattle.cbor_edn_conversions.proofs.resolving.Turning.{either_applications, either_no_content}
use Rattle.cbor_edn_conversions.specs.Conversions.{Conversion, literal_tree}
use Rattle.cbor_edn_conversions.specs.Resolvers.{value_of, time_value, address_value, time_resolver, address_resolver, literal_resolver}
use Rattle.cbor_edn_conversions.specs.Times.{time_prefix, time_item, time_of_literal}
use Rattle.cbor_edn_conversions.specs.Addresses.{address_prefix, address_item, address_of_literal}

-- ---- the resolvers are of application literals

pub time_applications : ResolvesApplications time_resolver
time_applications = by_prefix_applications time_value

pub address_applications : ResolvesApplications address_resolver
address_applications = by_prefix_applications address_value

pub all_applications : ResolvesApplications literal_resolver
all_applications = either_applications time_resolver address_resolver time_applications address_applications

pub time_no_content : ResolvesNoContent time_resolver
time_no_content = by_prefix_no_content time_value

pub address_no_content : ResolvesNoContent address_resolver
address_no_content = by_prefix_no_content address_value

pub all_no_content : ResolvesNoContent literal_resolver
all_no_content = either_no_content time_resolver address_resolver time_no_content address_no_content

-- ---- prefixes

pub time_prefix_is : (wrap : Bool) → IsPrefix (time_prefix wrap)
time_prefix_is true = (prefix_test (codes "DT")).1 refl
time_prefix_is false = (prefix_test (codes "dt")).1 refl

pub address_prefix_is : (wrap : Bool) → IsPrefix (address_prefix wrap)
address_prefix_is true = (prefix_test (codes "IP")).1 refl
address_prefix_is false = (prefix_test (codes "ip")).1 refl

pub time_unsupported : (wrap : Bool) → is_supported_prefix (time_prefix wrap) ≡ false
time_unsupported true = refl
time_unsupported false = refl

pub address_unsupported : (wrap : Bool) → is_supported_prefix (address_prefix wrap) ≡ false
address_unsupported true = refl
address_unsupported false = refl

pub time_of_prefix : (wrap : Bool) (t : List ℕ) → time_of_literal (time_prefix wrap) t ≡ Some (time_item wrap t)
time_of_prefix true t = refl
time_of_prefix false t = refl

pub address_of_prefix : (wrap : Bool) (t : List ℕ) → address_of_literal (address_prefix wrap) t ≡ Some (address_item wrap t)
address_of_prefix true t = refl
address_of_prefix false t = refl

pub no_address_of_time : (wrap : Bool) (t : List ℕ) → address_of_literal (time_prefix wrap) t ≡ None
no_address_of_time true t = refl
no_address_of_time false t = refl

pub no_time_of_address : (wrap : Bool) (t : List ℕ) → time_of_literal (address_prefix wrap) t ≡ None
no_time_of_address true t = refl
no_time_of_address false t = refl

-- ---- values of literals

module _ (p t x : List ℕ) (i : Option Indicator) (is : IsLiteral (Prefixed p) t x) where
  pub time_given : is_supported_prefix p ≡ false → time_resolver x i ≡ time_value p t
  time_given not = by_prefix_is time_value p t x i is not

  pub address_given : is_supported_prefix p ≡ false → address_resolver x i ≡ address_value p t
  address_given not = by_prefix_is address_value p t x i is not

  pub all_given : is_supported_prefix p ≡ false → literal_resolver x i ≡ or_else (time_value p t) (address_value p t)
  all_given not = ap (λ o. or_else o (address_resolver x i)) (time_given not) ∙ ap (λ o. or_else (time_value p t) o) (address_given not)

pub or_nothing : (o : Option Value) → or_else o None ≡ o
or_nothing None = refl
or_nothing (Some v) = refl

-- The resolver gives literals of these prefixes the values of what they become.
abbrev pub Gives : (Bool → List ℕ) → (Bool → List ℕ → Conversion) → Resolver → Type 0
Gives prefix item R = (wrap : Bool) (t x : List ℕ) (i : Option Indicator) → IsLiteral (Prefixed (prefix wrap)) t x → R x i ≡ value_of (Some (item wrap t))

abbrev pub GivesTimes : Resolver → Type 0
GivesTimes R = Gives time_prefix time_item R

abbrev pub GivesAddresses : Resolver → Type 0
GivesAddresses R = Gives address_prefix address_item R

pub time_gives : GivesTimes time_resolver
time_gives wrap t x i is = time_given (time_prefix wrap) t x i is (time_unsupported wrap) ∙ ap value_of (time_of_prefix wrap t)

pub address_gives : GivesAddresses address_resolver
address_gives wrap t x i is = address_given (address_prefix wrap) t x i is (address_unsupported wrap) ∙ ap value_of (address_of_prefix wrap t)

pub all_gives_times : GivesTimes literal_resolver
all_gives_times wrap t x i is =
    all_given (time_prefix wrap) t x i is (time_unsupported wrap)
    ∙ (ap (λ o. or_else (time_value (time_prefix wrap) t) (value_of o)) (no_address_of_time wrap t) ∙ (or_nothing (time_value (time_prefix wrap) t) ∙ ap value_of (time_of_prefix wrap t)))

pub all_gives_addresses : GivesAddresses literal_resolver
all_gives_addresses wrap t x i is =
    all_given (address_prefix wrap) t x i is (address_unsupported wrap)
    ∙ (ap (λ o. or_else (value_of o) (address_value (address_prefix wrap) t)) (no_time_of_address wrap t) ∙ ap value_of (address_of_prefix wrap t))

-- ---- literals that are written

module _ (R : Resolver) where
  -- The item of a literal means what the resolver gives.
  literal_means : (p t : List ℕ) (v : Value) → R (application_literal p t) None ≡ Some v → means_by R (items (literal_tree p t)) ≡ Some v
  unfolding means_by items
  literal_means p t v e = ap (λ o. or_else o (literal_content (application_literal p t) >>= λ c. string_of c None)) e

  -- A literal of these prefixes means what the item that it becomes does.
  pub tree_means : (prefix : Bool → List ℕ) (item : Bool → List ℕ → Conversion) → ((wrap : Bool) → IsPrefix (prefix wrap)) → Gives prefix item R → (wrap : Bool) (t : List ℕ) (w : Tree OneItem) (v : Value) → All (λ b. b < 256) t
      → item wrap t ≡ Ok w → means (items w) ≡ Some v → means_by R (items (literal_tree (prefix wrap) t)) ≡ Some v
  tree_means prefix item prefix_is gives wrap t w v bytes is e =
      literal_means (prefix wrap) t v (gives wrap t _ None (application_is (prefix wrap) t (prefix_is wrap) bytes) ∙ (ap (λ c. value_of (Some c)) is ∙ e))
