-- What literals become means what they stood for.
use Rattle.std.proofs.Common.{ℕ, ◌≡◌, ◌⊎◌, inl, inr, Bool, true, false, cond, ◌&&◌, not, List, Option, Some, None, Ok, Err, refl, sym, ap, ◌∙◌, subst}
use Rattle.std.proofs.lemmas.Bool.{cases_Bool}
use Rattle.cbor_edn_parts.specs.declared.base.indicator.Indicator.{Indicator}
use Rattle.cbor_edn_parts.specs.declared.string.Quote.TheVariants as quotes
use Rattle.cbor_edn_parts.specs.declared.string.QuotedState.TheVariants as part
use Rattle.cbor_edn_parts.specs.string.Literal.{Prefixed, IsLiteral}
use Rattle.cbor_edn_parts.specs.internal.ContentReading.{same, is_supported_prefix, is_supported, behind_quote, literal_content}
use Rattle.cbor_edn_parts.specs.internal.LiteralTokens.{is_literal, prefix_of, decoded}
use Rattle.cbor_edn_parts.proofs.lemmas.string.Applications.{one_application, prefixed_read, unprefixed_read}
use Rattle.cbor_edn_parts.proofs.lemmas.string.LiteralTexts.{literal_test}
use Rattle.cbor_edn_parts.proofs.lemmas.string.LiteralContents.{content_is, content_of}
use Rattle.cbor_edn_parts.proofs.lemmas.string.LiteralPrefixes.{same-found}
use Rattle.cbor_edn_model.specs.tree.Items.{Item, Node, Number, Float, Listed, Tagged, Named, Simple, String, Stream, LastPiece, Plus, Literal, Ellipsis, Embedded}
use Rattle.cbor_edn_model.specs.cbor.Meaning.{◌>>=◌, means, string_of}
use Rattle.cbor_edn_model.specs.visit.Seeking.{CallArguments, number, prefix_and_text, IsApplication}
use Rattle.cbor_edn_model.specs.tree.Trees.{Tree, OneItem, items}
use Rattle.cbor_edn_model.specs.cbor.Value.{Value}
use Rattle.cbor_edn_model.proofs.lemmas.cbor.MeaningSteps.{bind}
use Rattle.cbor_edn_conversions.specs.Resolving.{Resolver, or_else, no_resolver, by_prefix, means_by, ResolvesNoContent}
use Rattle.cbor_edn_conversions.specs.VisitedItems.{IsApplicationNode}
use Rattle.cbor_edn_conversions.proofs.resolving.ByPrefix.{by_prefix_is}
use Rattle.cbor_edn_conversions.proofs.resolving.OnItems.{application_node}
use Rattle.cbor_edn_conversions.proofs.resolving.Resolved.{more_means}
use Rattle.cbor_edn_conversions.specs.Conversions.{Conversion, reply, and_then, of_prefixes}
use Rattle.cbor_edn_conversions.specs.Resolvers.{TurnsTo, value_of, time_value, address_value, time_resolver, address_resolver, literal_resolver}
use Rattle.cbor_edn_conversions.specs.Times.{time_prefix, time_item, time_of_literal, resolve_time}
use Rattle.cbor_edn_conversions.specs.Addresses.{address_prefix, address_item, address_of_literal, resolve_address}
use Rattle.cbor_edn_conversions.specs.All.{resolve_all}
use Rattle.cbor_edn_conversions.proofs.conversions.Literals.{time_no_content, address_no_content, all_no_content, no_address_of_time, no_time_of_address, time_unsupported, address_unsupported, or_nothing}

-- ---- one literal

-- the item is a literal with this prefix and this text
record LiteralItem (y : Node Item) (p t : List ℕ) : Type 0 where
  pub text : List ℕ
  pub indicator : Option Indicator
  pub is : y ≡ String (LastPiece (Literal text indicator))
  pub literal : IsLiteral (Prefixed p) t text

node_is : (y : Node Item) (p t : List ℕ) → IsApplicationNode y (prefix_and_text p t) → LiteralItem y p t
node_is (String (LastPiece (Literal x i))) p t h = record { text = x; indicator = i; is = refl; literal = h }
node_is (String (LastPiece (Ellipsis x))) p t h = absurd h
node_is (String (LastPiece (Embedded m i))) p t h = absurd h
node_is (String (Plus q w)) p t h = absurd h
node_is (Number x i) p t h = absurd h
node_is (Float f i) p t h = absurd h
node_is (Listed k i m) p t h = absurd h
node_is (Tagged n i w) p t h = absurd h
node_is (Named b) p t h = absurd h
node_is (Simple w) p t h = absurd h
node_is (Stream m) p t h = absurd h

module _ (B A : Resolver) (no_content : ResolvesNoContent A) (w : Tree OneItem) (x : List ℕ) (i : Option Indicator) (is : items w ≡ String (LastPiece (Literal x i))) where
  plain : Option Value
  plain = literal_content x >>= λ c. string_of c i

  -- where the literal is left as it is, the resolvers agree,
  left_turns : B x i ≡ A x i → TurnsTo B A w w
  unfolding means_by
  left_turns agree u e = ap (λ y. means_by A y) is ∙ (sym (ap (λ o. or_else o (literal_content x >>= λ c. string_of c i)) agree) ∙ (sym (ap (λ y. means_by B y) is) ∙ e))

  -- and where it becomes another item, it stood for what this means.
  becomes_turns : (v : Tree OneItem) (o : Option Value) → means (items v) ≡ o → B x i ≡ o → literal_content x ≡ None → TurnsTo B A w v
  unfolding means_by
  becomes_turns v None value given none u e =
      let nothing : None ≡ Some u = sym (ap (λ y. means_by B y) is ∙ (ap (λ o. or_else o (literal_content x >>= λ c. string_of c i)) given ∙ ap (λ o. bind o (λ c. string_of c i)) none)) ∙ e in
      absurd cc
  becomes_turns v (Some y) value given none u e =
      let same : Some y ≡ Some u = sym (ap (λ y. means_by B y) is ∙ ap (λ o. or_else o (literal_content x >>= λ c. string_of c i)) given) ∙ e in
      more_means A no_content (items v) y value ∙ same

  -- what a conversion of the literal leaves
  conversion_turns : (o : Option Conversion) → (o ≡ None → B x i ≡ A x i) → ((c : Conversion) → o ≡ Some c → (B x i ≡ value_of o) × (A x i ≡ None) × (literal_content x ≡ None)) → TurnsTo B A w (reply w o).1
  conversion_turns None none some = left_turns (none refl)
  conversion_turns (Some (Err e)) none some = let h = some (Err e) refl in left_turns (h.0 ∙ sym h.1)
  conversion_turns (Some (Ok v)) none some = let h = some (Ok v) refl in becomes_turns v (means (items v)) refl h.0 h.2

-- The same by one resolver, which gives the literal what it becomes means.
conversion_keeps : (R : Resolver) → ResolvesNoContent R → (w : Tree OneItem) (x : List ℕ) (i : Option Indicator) → items w ≡ String (LastPiece (Literal x i))
    → (o : Option Conversion) → ((c : Conversion) → o ≡ Some c → (R x i ≡ value_of o) × (literal_content x ≡ None)) → TurnsTo R R w (reply w o).1
conversion_keeps R no_content w x i is None some u e = e
conversion_keeps R no_content w x i is (Some (Err t)) some u e = e
conversion_keeps R no_content w x i is (Some (Ok v)) some u e = let h = some (Ok v) refl in becomes_turns R R no_content w x i is v (means (items v)) refl h.0 h.1 u e

-- ---- what the resolvers give a literal

module _ (F : List ℕ → List ℕ → Option Value) where
  -- nothing where the prefix says a content
  by_prefix_none : (p t x : List ℕ) (i : Option Indicator) → IsLiteral (Prefixed p) t x → is_supported_prefix p ≡ true → by_prefix F x i ≡ None
  by_prefix_none p t x i is supported =
      let read : is_literal x ≡ true = (literal_test x).0 (Prefixed p, t, is) in
      let named : prefix_of x ≡ p = (one_application p t (prefix_of x) (decoded quotes.Single part.Between (behind_quote x)) x is (prefixed_read x (λ none. unprefixed_read x none p t is) read)).0 in
      let told : is_supported x ≡ true = ap is_supported_prefix named ∙ supported in
      ap (λ b. cond (b && not (is_supported x)) (F (prefix_of x) (decoded quotes.Single part.Between (behind_quote x))) None) read
      ∙ ap (λ b. cond (true && not b) (F (prefix_of x) (decoded quotes.Single part.Between (behind_quote x))) None) told

  by_prefix_gives : ((p t : List ℕ) → is_supported_prefix p ≡ true → F p t ≡ None) → (p t x : List ℕ) (i : Option Indicator) → IsLiteral (Prefixed p) t x → by_prefix F x i ≡ F p t
  by_prefix_gives none p t x i is =
      elim (cases_Bool (is_supported_prefix p)) [
        | inl supported ↦ by_prefix_none p t x i is supported ∙ sym (none p t supported)
        | inr no_content ↦ by_prefix_is F p t x i is no_content
      ]

-- ---- which literals are converted

module _ (prefix : Bool → List ℕ) (item : Bool → List ℕ → Conversion) where
  record OfPrefix (p : List ℕ) : Type 0 where
    pub wrap : Bool
    pub is : p ≡ prefix wrap

  which_by : (p t : List ℕ) (a b : Bool) → same p (prefix false) ≡ a → same p (prefix true) ≡ b → OfPrefix p ⊎ (of_prefixes prefix item p t ≡ None)
  which_by p t true b e f = inl (record { wrap = false; is = same-found p (prefix false) e })
  which_by p t false true e f = inl (record { wrap = true; is = same-found p (prefix true) f })
  which_by p t false false e f = inr (rw (e, f) refl)

  which : (p t : List ℕ) → OfPrefix p ⊎ (of_prefixes prefix item p t ≡ None)
  which p t = which_by p t _ _ refl refl

  -- none of those that say a content is,
  unsupported_none : ((wrap : Bool) → is_supported_prefix (prefix wrap) ≡ false) → (p t : List ℕ) → is_supported_prefix p ≡ true → value_of (of_prefixes prefix item p t) ≡ None
  unsupported_none unsupported p t supported =
      elim (which p t) [
        | inl h ↦ (let both : true ≡ false = sym supported ∙ (ap is_supported_prefix h.is ∙ unsupported h.wrap) in absurd cc)
        | inr none ↦ ap value_of none
      ]

  -- and one that is has no content, and is none of the other conversion.
  converted_alone : ((wrap : Bool) (t : List ℕ) → content_of (Prefixed (prefix wrap)) t ≡ None) → (other : List ℕ → List ℕ → Option Conversion) → ((wrap : Bool) (t : List ℕ) → other (prefix wrap) t ≡ None)
      → (p t x : List ℕ) → IsLiteral (Prefixed p) t x → (c : Conversion) → of_prefixes prefix item p t ≡ Some c → (other p t ≡ None) × (literal_content x ≡ None)
  converted_alone no_content other apart p t x is c e =
      elim (which p t) [
        | inl h ↦ (ap (λ q. other q t) h.is ∙ apart h.wrap t, content_is (Prefixed p) t x is ∙ (ap (λ q. content_of (Prefixed q) t) h.is ∙ no_content h.wrap t))
        | inr none ↦ (let both : None ≡ Some c = sym none ∙ e in absurd cc)
      ]

time_content : (wrap : Bool) (t : List ℕ) → content_of (Prefixed (time_prefix wrap)) t ≡ None
time_content true t = refl
time_content false t = refl

address_content : (wrap : Bool) (t : List ℕ) → content_of (Prefixed (address_prefix wrap)) t ≡ None
address_content true t = refl
address_content false t = refl

module _ (p t x : List ℕ) (i : Option Indicator) (is : IsLiteral (Prefixed p) t x) where
  pub time_is : time_resolver x i ≡ time_value p t
  time_is = by_prefix_gives time_value (unsupported_none time_prefix time_item time_unsupported) p t x i is

  pub address_is : address_resolver x i ≡ address_value p t
  address_is = by_prefix_gives address_value (unsupported_none address_prefix address_item address_unsupported) p t x i is

  all_is : literal_resolver x i ≡ or_else (time_value p t) (address_value p t)
  all_is = ap (λ o. or_else o (address_resolver x i)) time_is ∙ ap (λ o. or_else (time_value p t) o) address_is

  -- a time literal is no address literal, and has no content
  time_some : (c : Conversion) → time_of_literal p t ≡ Some c → (address_of_literal p t ≡ None) × (literal_content x ≡ None)
  time_some c e = converted_alone time_prefix time_item time_content address_of_literal no_address_of_time p t x is c e

  address_some : (c : Conversion) → address_of_literal p t ≡ Some c → (time_of_literal p t ≡ None) × (literal_content x ≡ None)
  address_some c e = converted_alone address_prefix address_item address_content time_of_literal no_time_of_address p t x is c e

  -- so both resolvers give it what it becomes means
  all_of_time : (c : Conversion) → time_of_literal p t ≡ Some c → literal_resolver x i ≡ time_value p t
  all_of_time c e = ap (λ o. or_else (time_resolver x i) o) (address_is ∙ ap value_of (time_some c e).0) ∙ (or_nothing (time_resolver x i) ∙ time_is)

  all_of_address : (c : Conversion) → address_of_literal p t ≡ Some c → literal_resolver x i ≡ address_value p t
  all_of_address c e = ap (λ o. or_else o (address_resolver x i)) (time_is ∙ ap value_of (address_some c e).0) ∙ address_is

-- ---- the calls

module _ (w : Tree OneItem) (p t : List ℕ) (l : LiteralItem (items w) p t) where
  abbrev x : List ℕ
  x = l.text

  abbrev i : Option Indicator
  i = l.indicator

  -- both resolvers, and the conversion of times
  time_of_all : TurnsTo literal_resolver address_resolver w (reply w (time_of_literal p t)).1
  time_of_all =
      conversion_turns literal_resolver address_resolver address_no_content w l.text l.indicator l.is (time_of_literal p t)
      (λ none. ap (λ o. or_else o (address_resolver x i)) (time_is p t x i l.literal ∙ ap value_of none))
      (λ c some. let h = time_some p t x i l.literal c some in (all_of_time p t x i l.literal c some, address_is p t x i l.literal ∙ ap value_of h.0, h.1))

  time_kept : TurnsTo literal_resolver literal_resolver w (reply w (time_of_literal p t)).1
  time_kept =
      conversion_keeps literal_resolver all_no_content w l.text l.indicator l.is (time_of_literal p t)
      (λ c some. (all_of_time p t x i l.literal c some, (time_some p t x i l.literal c some).1))

  time_alone : TurnsTo time_resolver no_resolver w (reply w (time_of_literal p t)).1
  time_alone =
      conversion_turns time_resolver no_resolver (λ x i v e. absurd cc) w l.text l.indicator l.is (time_of_literal p t)
      (λ none. time_is p t x i l.literal ∙ ap value_of none)
      (λ c some. (time_is p t x i l.literal, refl, (time_some p t x i l.literal c some).1))

  address_of_all : TurnsTo literal_resolver time_resolver w (reply w (address_of_literal p t)).1
  address_of_all =
      conversion_turns literal_resolver time_resolver time_no_content w l.text l.indicator l.is (address_of_literal p t)
      (λ none. ap (λ o. or_else (time_resolver x i) o) (address_is p t x i l.literal ∙ ap value_of none) ∙ or_nothing (time_resolver x i))
      (λ c some. let h = address_some p t x i l.literal c some in (all_of_address p t x i l.literal c some, time_is p t x i l.literal ∙ ap value_of h.0, h.1))

  address_kept : TurnsTo literal_resolver literal_resolver w (reply w (address_of_literal p t)).1
  address_kept =
      conversion_keeps literal_resolver all_no_content w l.text l.indicator l.is (address_of_literal p t)
      (λ c some. (all_of_address p t x i l.literal c some, (address_some p t x i l.literal c some).1))

  address_alone : TurnsTo address_resolver no_resolver w (reply w (address_of_literal p t)).1
  address_alone =
      conversion_turns address_resolver no_resolver (λ x i v e. absurd cc) w l.text l.indicator l.is (address_of_literal p t)
      (λ none. address_is p t x i l.literal ∙ ap value_of none)
      (λ c some. (address_is p t x i l.literal, refl, (address_some p t x i l.literal c some).1))

  -- a literal of times alone, or one of addresses
  all_by_time : (c : Conversion) → time_of_literal p t ≡ Some c → TurnsTo literal_resolver no_resolver w (reply w (time_of_literal p t)).1
  all_by_time c some =
      conversion_turns literal_resolver no_resolver (λ x i v e. absurd cc) w l.text l.indicator l.is (time_of_literal p t)
      (λ none. let both : None ≡ Some c = sym none ∙ some in absurd cc)
      (λ c some. (all_of_time p t x i l.literal c some, refl, (time_some p t x i l.literal c some).1))

  all_by_address : time_of_literal p t ≡ None → TurnsTo literal_resolver no_resolver w (reply w (address_of_literal p t)).1
  all_by_address none_of_time =
      let reads : literal_resolver x i ≡ address_value p t = ap (λ o. or_else o (address_resolver x i)) (time_is p t x i l.literal ∙ ap value_of none_of_time) ∙ address_is p t x i l.literal in
      conversion_turns literal_resolver no_resolver (λ x i v e. absurd cc) w l.text l.indicator l.is (address_of_literal p t)
      (λ none. reads ∙ ap value_of none)
      (λ c some. (reads, refl, (address_some p t x i l.literal c some).1))

  -- one conversion behind the other: one of them does nothing
  none_then : (o : Option Conversion) → (and_then (reply w o) (λ v. reply v None)).1 ≡ (reply w o).1
  none_then None = refl
  none_then (Some (Err e)) = refl
  none_then (Some (Ok v)) = refl

  all_by : (o : Option Conversion) → time_of_literal p t ≡ o → TurnsTo literal_resolver no_resolver w (and_then (reply w o) (λ v. reply v (address_of_literal p t))).1
  all_by None is = all_by_address is
  all_by (Some c) is =
      let none = (time_some p t x i l.literal c is).0 in
      let same : (reply w (time_of_literal p t)).1 ≡ (and_then (reply w (Some c)) (λ v. reply v (address_of_literal p t))).1 = ap (λ o. (reply w o).1) is ∙ (sym (none_then (Some c)) ∙ ap (λ o. (and_then (reply w (Some c)) (λ v. reply v o)).1) (sym none)) in
      subst (TurnsTo literal_resolver no_resolver w) same (all_by_time c is)

  all_of_both : TurnsTo literal_resolver no_resolver w (and_then (reply w (time_of_literal p t)) (λ v. reply v (address_of_literal p t))).1
  all_of_both = all_by (time_of_literal p t) refl

-- ---- by the arguments of a call

called_literal : (w : Tree OneItem) (p t : List ℕ) → IsApplication w (prefix_and_text p t) → LiteralItem (items w) p t
called_literal w p t h = node_is (items w) p t ((application_node w (prefix_and_text p t)).0 h)

pub time_resolved : (a : CallArguments) (w : Tree OneItem) → IsApplication w a → TurnsTo literal_resolver address_resolver w (resolve_time a w).1
unfolding resolve_time
time_resolved (number n) w h = absurd h
time_resolved (prefix_and_text p t) w h = time_of_all w p t (called_literal w p t h)

pub time_resolved_kept : (a : CallArguments) (w : Tree OneItem) → IsApplication w a → TurnsTo literal_resolver literal_resolver w (resolve_time a w).1
unfolding resolve_time
time_resolved_kept (number n) w h = absurd h
time_resolved_kept (prefix_and_text p t) w h = time_kept w p t (called_literal w p t h)

pub time_resolved_alone : (a : CallArguments) (w : Tree OneItem) → IsApplication w a → TurnsTo time_resolver no_resolver w (resolve_time a w).1
unfolding resolve_time
time_resolved_alone (number n) w h = absurd h
time_resolved_alone (prefix_and_text p t) w h = time_alone w p t (called_literal w p t h)

pub address_resolved : (a : CallArguments) (w : Tree OneItem) → IsApplication w a → TurnsTo literal_resolver time_resolver w (resolve_address a w).1
unfolding resolve_address
address_resolved (number n) w h = absurd h
address_resolved (prefix_and_text p t) w h = address_of_all w p t (called_literal w p t h)

pub address_resolved_kept : (a : CallArguments) (w : Tree OneItem) → IsApplication w a → TurnsTo literal_resolver literal_resolver w (resolve_address a w).1
unfolding resolve_address
address_resolved_kept (number n) w h = absurd h
address_resolved_kept (prefix_and_text p t) w h = address_kept w p t (called_literal w p t h)

pub address_resolved_alone : (a : CallArguments) (w : Tree OneItem) → IsApplication w a → TurnsTo address_resolver no_resolver w (resolve_address a w).1
unfolding resolve_address
address_resolved_alone (number n) w h = absurd h
address_resolved_alone (prefix_and_text p t) w h = address_alone w p t (called_literal w p t h)

pub all_resolved : (a : CallArguments) (w : Tree OneItem) → IsApplication w a → TurnsTo literal_resolver no_resolver w (resolve_all a w).1
unfolding resolve_time resolve_address
all_resolved (number n) w h = absurd h
all_resolved (prefix_and_text p t) w h = all_of_both w p t (called_literal w p t h)
