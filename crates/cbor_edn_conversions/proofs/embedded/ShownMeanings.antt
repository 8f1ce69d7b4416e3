-- Items of which literals are shown mean what they meant.
use Rattle.std.proofs.Common.{ℕ, zero, suc, ◌≡◌, List, [], Option, Some, None, All, refl, sym, ap, ◌∙◌, append-nil}
use Rattle.std.proofs.lemmas.List.Elements.{All-weaker}
use Rattle.cbor_edn_parts.specs.declared.base.indicator.Indicator.{Indicator}
use Rattle.cbor_edn_parts.specs.declared.string.StringKind.TheVariants.{Bytes}
use Rattle.cbor_edn_parts.specs.string.Contents.{Content}
use Rattle.cbor_edn_parts.specs.internal.ContentReading.{literal_content}
use Rattle.cbor_edn_model.specs.cbor.Meaning.{means, string_of}
use Rattle.cbor_edn_model.specs.cbor.Value.{Value, no_values, value, encoding, encodings}
use Rattle.cbor_edn_model.specs.tree.Trees.{Tree, OneItem, Seq, Standalone, StringTree, LastPieceTree, NumberTree, FloatTree, NamedTree, EnclosedTree, ListTree, StreamTree, LiteralTree, EllipsisTree, EmbeddedTree, PlusTree, StandaloneTree, items}
use Rattle.cbor_edn_model.specs.visit.Seeking.{SoughtCall}
use Rattle.cbor_edn_model.specs.visit.Visits.{whole}
use Rattle.cbor_edn_model.proofs.lemmas.cbor.Decoding.{item_means, items_mean}
use Rattle.cbor_edn_model.proofs.lemmas.cbor.MeaningSteps.{bind}
use Rattle.cbor_edn_conversions.specs.ConversionLaws.{IsOfApplications}
use Rattle.cbor_edn_conversions.specs.EmbeddedItems.{literal_item, with_literals, of_lone_literal, bytes_behind_prefix, structure_of, embedded_item, shown_or, shown, show_embedded}
use Rattle.cbor_edn_conversions.specs.EmbeddedLaws.{ShowKeeps, ShownMeans, ShownMeansAlone}
use Rattle.cbor_edn_conversions.specs.Resolving.{Resolver, or_else, no_resolver, means_by, TurnsExactly, AnswersBy}
use Rattle.cbor_edn_conversions.proofs.embedded.ShownNestings.{HoldsStructure, structure_is}
use Rattle.cbor_edn_conversions.proofs.embedded.ShownVisits.{show_leaves, show_given, shown_at_once}
use Rattle.cbor_edn_conversions.proofs.resolving.Existing.{literal_visits_exist}
use Rattle.cbor_edn_conversions.proofs.resolving.Resolved.{none_means, item_same}
use Rattle.cbor_edn_conversions.proofs.resolving.Turning.{literal_visits_keep_exactly}

abbrev pub bytes_content : List ℕ → Content
bytes_content bs = (Bytes, bs)

module _ (R : Resolver) (of_applications : IsOfApplications R) where
  -- ---- one literal

  -- an embedded item means the string of the encoding of what it means
  embedded_means : (w : Tree OneItem) (i : Option Indicator) (v : Value) → means_by R (items w) ≡ Some v → means_by R (items (embedded_item w i)) ≡ string_of (bytes_content (encoding v)) i
  unfolding items means_by
  embedded_means w i v e =
      ap (λ o. bind (bind (bind o (λ x. Some (value x no_values))) (λ vs. Some (bytes_content (encodings vs)))) (λ c. string_of c i)) e
      ∙ ap (λ bs. string_of (bytes_content bs) i) (append-nil (encoding v))

  or_plain : (o : Option Value) (p : Option Value) → o ≡ None → or_else o p ≡ p
  or_plain o p e = ap (λ q. or_else q p) e

  no_value : (x : List ℕ) (i : Option Indicator) (bs : List ℕ) → literal_content x ≡ Some (bytes_content bs) → (o : Option Value) → R x i ≡ o → R x i ≡ None
  no_value x i bs content None e = e
  no_value x i bs content (Some v) e = let none = of_applications.1 x i v e in absurd cc

  literal_means : (x : List ℕ) (i : Option Indicator) (bs : List ℕ) → literal_content x ≡ Some (bytes_content bs) → means_by R (items (literal_item x i)) ≡ string_of (bytes_content bs) i
  unfolding items means_by
  literal_means x i bs content =
      or_plain (R x i) (bind (literal_content x) (λ c. string_of c i)) (no_value x i bs content (R x i) refl)
      ∙ ap (λ o. bind o (λ c. string_of c i)) content

  abbrev Same : List ℕ → Option Indicator → Tree OneItem → Type 0
  Same x i w = means_by R (items w) ≡ means_by R (items (literal_item x i))

  or_same : (limit : ℕ) (x : List ℕ) (i : Option Indicator) (inside : Tree OneItem → Tree OneItem) → ((w : Tree OneItem) → means_by R (items (inside w)) ≡ means_by R (items w))
      → (o : Option (Tree OneItem)) → ((w : Tree OneItem) → o ≡ Some w → HoldsStructure limit x w) → Same x i (shown_or x i inside o)
  or_same limit x i inside keeps None holds = refl
  or_same limit x i inside keeps (Some w) holds =
      let h = holds w refl in
      let v = h.holds.value in
      let means_value : means_by R (items w) ≡ Some v = ap (λ y. means_by R y) h.holds.same_items ∙ (item_same R of_applications.0 v ∙ item_means v h.holds.fits) in
      embedded_means (inside w) i v (keeps w ∙ means_value)
      ∙ (ap (λ bs. string_of (bytes_content bs) i) (sym h.holds.encoded) ∙ sym (literal_means x i h.bytes h.behind.content))

  -- ---- calls and visits, where literals keep what they mean

  module _ (levels limit : ℕ) (same : (x : List ℕ) (i : Option Indicator) → Same x i (shown levels limit x i)) where
    lone_keeps : (w : Tree OneItem) → means_by R (items (of_lone_literal (shown levels limit) w)) ≡ means_by R (items w)
    lone_keeps (StringTree (LastPieceTree (LiteralTree x i))) = same x i
    lone_keeps (StringTree (LastPieceTree (EllipsisTree x))) = refl
    lone_keeps (StringTree (LastPieceTree (EmbeddedTree w i))) = refl
    lone_keeps (StringTree (PlusTree p s t w)) = refl
    lone_keeps (NumberTree x i) = refl
    lone_keeps (FloatTree f i) = refl
    lone_keeps (NamedTree b) = refl
    lone_keeps (EnclosedTree l w) = refl
    lone_keeps (ListTree k w) = refl
    lone_keeps (StreamTree s m) = refl

    call_keeps : (c : SoughtCall) → AnswersBy (show_embedded levels limit) c → TurnsExactly R R c
    call_keeps c good = sym (ap (λ w. means_by R (items w)) (good.1 ∙ show_leaves levels limit c.arguments c.before) ∙ lone_keeps c.before)

    calls_keep : (cs : List SoughtCall) → All (AnswersBy (show_embedded levels limit)) cs → All (TurnsExactly R R) cs
    calls_keep cs all = All-weaker (AnswersBy (show_embedded levels limit)) (TurnsExactly R R) call_keeps cs all

    standalone_keeps : (w : Tree Standalone) → means_by R (items (with_literals (shown levels limit) w)) ≡ means_by R (items w)
    standalone_keeps w =
        let (v, cs, all, visit) = (literal_visits_exist (show_embedded levels limit) (show_given levels limit)).0 w in
        let left : v ≡ with_literals (shown levels limit) w = (shown_at_once levels limit cs all).0 w v visit in
        sym ((literal_visits_keep_exactly R cs whole (calls_keep cs all)).0 w v visit ∙ ap (λ y. means_by R (items y)) left)

    sequence_keeps : (w : Tree Seq) → means_by R (items (with_literals (shown levels limit) w)) ≡ means_by R (items w)
    sequence_keeps w =
        let (v, cs, all, visit) = (literal_visits_exist (show_embedded levels limit) (show_given levels limit)).1 w in
        let left : v ≡ with_literals (shown levels limit) w = (shown_at_once levels limit cs all).1 w v visit in
        sym ((literal_visits_keep_exactly R cs whole (calls_keep cs all)).1 w v visit ∙ ap (λ y. means_by R (items y)) left)

    -- the same of an item
    alone_keeps : (w : Tree OneItem) → means_by R (items (with_literals (shown levels limit) w)) ≡ means_by R (items w)
    unfolding items with_literals
    alone_keeps w = standalone_keeps (StandaloneTree [] w [])

  -- ---- to all levels

  pub shown_same : (levels limit : ℕ) (x : List ℕ) (i : Option Indicator) → Same x i (shown levels limit x i)
  unfolding shown
  shown_same zero limit x i = refl
  shown_same (suc levels) zero x i = refl
  shown_same (suc levels) (suc limit) x i =
      or_same limit x i _ (λ w. alone_keeps levels _ (shown_same levels _) w) (structure_of limit (bytes_behind_prefix x)) (λ w e. structure_is limit x w e)

pub show_keeps : ShowKeeps
show_keeps R of_applications levels limit c good = call_keeps R of_applications levels limit (shown_same R of_applications levels limit) c good

pub shown_means : ShownMeans
shown_means R of_applications levels limit = (standalone_keeps R of_applications levels limit (shown_same R of_applications levels limit), sequence_keeps R of_applications levels limit (shown_same R of_applications levels limit))

none_of_applications : IsOfApplications no_resolver
none_of_applications = (λ x i plain. refl, λ x i v e. absurd cc)

standalone_alone : (levels limit : ℕ) (w : Tree Standalone) → means (items (with_literals (shown levels limit) w)) ≡ means (items w)
standalone_alone levels limit w = sym (none_means (items (with_literals (shown levels limit) w))) ∙ ((shown_means no_resolver none_of_applications levels limit).0 w ∙ none_means (items w))

sequence_alone : (levels limit : ℕ) (w : Tree Seq) → means (items (with_literals (shown levels limit) w)) ≡ means (items w)
sequence_alone levels limit w = sym (none_means (items (with_literals (shown levels limit) w))) ∙ ((shown_means no_resolver none_of_applications levels limit).1 w ∙ none_means (items w))

pub shown_means_alone : ShownMeansAlone
shown_means_alone levels limit = (
  standalone_alone levels limit,
  sequence_alone levels limit,
  λ v fits w e. standalone_alone levels limit w ∙ (ap means e ∙ item_means v fits),
  λ vs fit w e. sequence_alone levels limit w ∙ (ap means e ∙ items_mean vs fit),
)
