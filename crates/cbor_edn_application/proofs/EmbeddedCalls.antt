-- What functions over trees make of literals that hold CBOR.
use Rattle.std.proofs.Common.{ℕ, ◌-◌, ◌^◌, ◌≡◌, ◌≢◌, ◌⊎◌, inl, inr, ◌||◌, List, [], Option, Some, None, min, refl, sym, ap, ◌∙◌, arith}
use Rattle.std.specs.Prelude.{is_some, option_and_then}
use Rattle.cbor_edn_parts.specs.declared.base.indicator.Indicator.{Indicator}
use Rattle.cbor_edn_model.specs.access.Accessed.{tag_head, array_items, map_items, item_bytes}
use Rattle.cbor_edn_model.specs.cbor.Decoded.{IsDecoded, NoneIs, IsTooDeepEncoding}
use Rattle.cbor_edn_model.specs.cbor.Value.{AreBytes, Enc}
use Rattle.cbor_edn_model.specs.declared.cbor.decode.CborError.{CborError}
use Rattle.cbor_edn_model.specs.declared.cbor.decode.CborError.TheVariants.{OutOfData, Reserved, MissingArgument, OtherChunk, OpenChunk, OpenNumber, MisplacedBreak, InvalidSimple, FloatOutOfScope, MissingBytes, InvalidUtf8, DataAfter, TooDeep}
use Rattle.cbor_edn_model.specs.declared.text.opener.OpenerKind.TheVariants as opener
use Rattle.cbor_edn_model.specs.tree.Items.{Array, Map, nesting}
use Rattle.cbor_edn_model.specs.tree.Trees.{Tree, OneItem, Seq, NumberTree, FloatTree, NamedTree, EnclosedTree, ListTree, StringTree, StreamTree, ElementTree, LastTree, SequenceTree, items, tree_nesting}
use Rattle.cbor_edn_model.specs.visit.Seeking.{CallArguments, IsApplication}
use Rattle.cbor_edn_model.specs.visit.Visits.{fine, whole}
use Rattle.cbor_edn_model.proofs.lemmas.text.Spelled.{nested}
use Rattle.cbor_edn_core.specs.tree.Embedding.{embedded_tree, literal_indicator}
use Rattle.cbor_edn_conversions.specs.EmbeddedItems.{with_literals, decoded_item, is_structure, if_structure, structure_of, shown, show_embedded}
use Rattle.cbor_edn_conversions.proofs.embedded.DecodedItems.{decoded_item_is}
use Rattle.cbor_edn_conversions.proofs.embedded.ShownCalls.{nothing_shown, not_shown, is_shown}
use Rattle.cbor_edn_conversions.proofs.embedded.ShownVisits.{lone_of, shown_at_once}
use Rattle.cbor_edn_application.specs.Acts.{ActsBy, IsVisited}

-- ---- what is decoded

is_too_deep : (e : CborError) → (e ≡ TooDeep) ⊎ (e ≢ TooDeep)
is_too_deep OutOfData = inr (λ is. absurd cc)
is_too_deep Reserved = inr (λ is. absurd cc)
is_too_deep MissingArgument = inr (λ is. absurd cc)
is_too_deep OtherChunk = inr (λ is. absurd cc)
is_too_deep OpenChunk = inr (λ is. absurd cc)
is_too_deep OpenNumber = inr (λ is. absurd cc)
is_too_deep MisplacedBreak = inr (λ is. absurd cc)
is_too_deep InvalidSimple = inr (λ is. absurd cc)
is_too_deep FloatOutOfScope = inr (λ is. absurd cc)
is_too_deep MissingBytes = inr (λ is. absurd cc)
is_too_deep InvalidUtf8 = inr (λ is. absurd cc)
is_too_deep DataAfter = inr (λ is. absurd cc)
is_too_deep TooDeep = inl refl

module _ (limit : ℕ) (bytes : List ℕ) (fit : AreBytes bytes) where
  pub decoded_some : (w : Tree OneItem) → IsDecoded limit (Enc bytes) w → decoded_item limit bytes ≡ Some w
  decoded_some w d = (decoded_item_is limit bytes fit w).1 d

  no_decoded : (e : CborError) → (e ≢ TooDeep → NoneIs (Enc bytes)) → (e ≡ TooDeep → IsTooDeepEncoding limit bytes (Enc bytes)) → (w : Tree OneItem) → IsDecoded limit (Enc bytes) w → ⊥
  no_decoded e refused deep w d =
      elim (is_too_deep e) [
        | inl is ↦ (let beyond = (deep is).1 d.value d.encoded in let within = d.within in absurd (omega (arith, beyond, within)))
        | inr other ↦ refused other d.value d.encoded
      ]

  pub decoded_none : (e : CborError) → (e ≢ TooDeep → NoneIs (Enc bytes)) → (e ≡ TooDeep → IsTooDeepEncoding limit bytes (Enc bytes)) → decoded_item limit bytes ≡ None
  decoded_none e refused deep = by_answer (decoded_item limit bytes) refl
    where
      by_answer : (o : Option (Tree OneItem)) → decoded_item limit bytes ≡ o → decoded_item limit bytes ≡ None
      by_answer None is = is
      by_answer (Some w) is = absurd (no_decoded e refused deep w ((decoded_item_is limit bytes fit w).0 is))

-- ---- structures

pub structure_tests : (w : Tree OneItem) → is_structure w ≡ (is_some (tag_head w) || is_some (array_items w)) || is_some (map_items w)
structure_tests (NumberTree x i) = refl
structure_tests (FloatTree f i) = refl
structure_tests (NamedTree b) = refl
structure_tests (EnclosedTree (opener.Tag i n) w) = refl
structure_tests (EnclosedTree opener.Simple w) = refl
structure_tests (ListTree Array w) = refl
structure_tests (ListTree Map w) = refl
structure_tests (StringTree w) = refl
structure_tests (StreamTree ms m) = refl

-- the structure in bytes, by what they are decoded as
pub structure_by : (limit : ℕ) (o : Option (List ℕ)) (bytes : List ℕ) (q : Option (Tree OneItem)) → o ≡ Some bytes → q ≡ decoded_item limit bytes → structure_of limit o ≡ option_and_then if_structure q
structure_by limit o bytes q is e = ap (structure_of limit) is ∙ ap (λ p. option_and_then if_structure p) (sym e)

-- ---- what a visit leaves of a sequence of one item

abbrev pub one : Tree OneItem → Tree Seq
one w = SequenceTree [] (LastTree (ElementTree w) [])

one_left : (levels limit : ℕ) (w : Tree OneItem) → with_literals (shown levels limit) (one w) ≡ one (with_literals (shown levels limit) w)
unfolding with_literals
one_left levels limit w = refl

pub inside_shown : (levels limit : ℕ) (w : Tree OneItem) (u v : Tree Seq) → u ≡ one w → IsVisited IsApplication (show_embedded levels limit) u whole v → v ≡ one (with_literals (shown levels limit) w)
inside_shown levels limit w u v e h = (shown_at_once levels limit h.0 h.1).1 u v h.2 ∙ (ap (λ (t : Tree Seq). with_literals (shown levels limit) t) e ∙ one_left levels limit w)

pub room_is : (limit n k : ℕ) (w : Tree OneItem) → ((m : ℕ) → n ≡ min m (2 ^ 64 - 1) → k ≡ limit - m) → n ≡ min (tree_nesting w) (2 ^ 64 - 1) → k ≡ limit - nesting (items w)
room_is limit n k w room e = room (tree_nesting w) e ∙ ap (λ m. limit - m) (nested w)

pub room_in : (limit n k : ℕ) (w : Tree Seq) → ((m : ℕ) → n ≡ min m (2 ^ 64 - 1) → k ≡ limit - m) → n ≡ min (tree_nesting w) (2 ^ 64 - 1) → k ≡ limit - nesting (items w)
room_in limit n k w room e = room (tree_nesting w) e ∙ ap (λ m. limit - m) (nested w)

-- ---- one call

show_fine : (levels limit : ℕ) (a : CallArguments) (w : Tree OneItem) → fine ≡ (show_embedded levels limit a w).0
unfolding show_embedded
show_fine levels limit a w = refl

module _ (levels limit : ℕ) (w : Tree OneItem) where
  pub stays_without : (levels ≡ 0) ⊎ (limit ≡ 0) → (a : CallArguments) → IsApplication w a → ActsBy (show_embedded levels limit) a w fine w
  stays_without none a is = (show_fine levels limit a w, sym (nothing_shown levels limit w a is none))

  indicator_by : (a : CallArguments) (is : IsApplication w a) → literal_indicator w ≡ Some (lone_of w a is).indicator
  indicator_by a is = ap literal_indicator (lone_of w a is).is

  pub stays_other : literal_indicator w ≡ None → (a : CallArguments) → IsApplication w a → ActsBy (show_embedded levels limit) a w fine w
  stays_other none a is = let some = indicator_by a is in absurd cc

  pub stays_undecoded : levels ≢ 0 → limit ≢ 0 → structure_of (limit - 1) (item_bytes w) ≡ None → (a : CallArguments) → IsApplication w a → ActsBy (show_embedded levels limit) a w fine w
  stays_undecoded some room none a is = (show_fine levels limit a w, sym (not_shown levels limit w a is some room none))

  abbrev some_of : Option Indicator → Option (Option Indicator)
  some_of i = Some i

  some_indicator : (i j : Option Indicator) → some_of i ≡ some_of j → i ≡ j
  some_indicator i j e = cc

  pub becomes_embedded : (c v : Tree OneItem) (u : Tree Seq) (i : Option Indicator) (k : ℕ) → levels ≢ 0 → limit ≢ 0 → structure_of (limit - 1) (item_bytes w) ≡ Some c → literal_indicator w ≡ Some i
      → k ≡ limit - 1 - nesting (items c) → u ≡ one (with_literals (shown (levels - 1) k) c) → v ≡ embedded_tree u i → (a : CallArguments) → IsApplication w a → ActsBy (show_embedded levels limit) a w fine v
  becomes_embedded c v u i k some room structure indicator room_left left made a is =
      let same : i ≡ (lone_of w a is).indicator = some_indicator i (lone_of w a is).indicator (sym indicator ∙ indicator_by a is) in (
        show_fine levels limit a w,
        made ∙ (ap (λ t. embedded_tree t i) (left ∙ ap (λ n. one (with_literals (shown (levels - 1) n) c)) room_left)
            ∙ (ap (λ j. embedded_tree (one (with_literals (shown (levels - 1) (limit - 1 - nesting (items c))) c)) j) same
            ∙ sym (is_shown levels limit w c a is some room structure))),
      )
