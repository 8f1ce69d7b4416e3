-- A whole visit whose calls show literals leaves each item that is one literal as it is shown.
use Rattle.std.proofs.Common.{ℕ, zero, suc, ◌<◌, ◌≤◌, ◌≡◌, ◌⊎◌, inl, inr, List, [], Option, Some, None, All, refl, sym, ap, ◌∙◌, subst, arith}
use Rattle.std.proofs.lemmas.List.Elements.{All-head, All-tail}
use Rattle.cbor_edn_parts.specs.declared.base.indicator.Indicator.{Indicator}
use Rattle.cbor_edn_parts.specs.string.Literal.{Prefixed, IsLiteral}
use Rattle.cbor_edn_model.specs.access.Accessed.{IsApplicationPiece}
use Rattle.cbor_edn_model.specs.declared.text.opener.OpenerKind.TheVariants as opener
use Rattle.cbor_edn_model.specs.tree.Items.{Row}
use Rattle.cbor_edn_model.specs.visit.Depth.{depth}
use Rattle.cbor_edn_model.specs.visit.Seeking.{CallArguments, number, prefix_and_text, IsApplication, SoughtCall, VisitItem, passed, entered, stayed, refused, not_called, VisitParts, of_number, of_float, of_name, of_tag, of_simple, of_list, of_string, of_stream, of_literal, of_ellipsis, of_embedded, of_last_piece, of_pieces, of_pieces_cut, of_none_inside, of_all_inside, of_last, of_more, of_more_cut, of_nothing, of_sequence, of_standalone, VisitEntry, of_element, of_pair, of_pair_cut, of_chunk}
use Rattle.cbor_edn_model.specs.tree.Trees.{Rule, Tree, OneItem, OnePiece, OneString, OneEntry, Inside, Rest, Seq, Standalone, NumberTree, FloatTree, NamedTree, EnclosedTree, ListTree, StringTree, StreamTree, LiteralTree, EllipsisTree, EmbeddedTree, LastPieceTree, PlusTree, ElementTree, PairTree, ChunkTree, FullTree, LastTree, MoreTree, SequenceTree, StandaloneTree}
use Rattle.cbor_edn_model.specs.visit.Visits.{fine, answered, Ending, whole}
use Rattle.cbor_edn_conversions.specs.Conversions.{Reply}
use Rattle.cbor_edn_conversions.specs.EmbeddedItems.{OfLiteral, literal_item, with_literals, of_lone_literal, bytes_behind_prefix, structure_of, shown_or, shown, show_embedded}
use Rattle.cbor_edn_conversions.specs.EmbeddedLaws.{ShowGiven, ShownAtOnce}
use Rattle.cbor_edn_conversions.specs.Resolving.{AnswersBy}
use Rattle.cbor_edn_conversions.proofs.embedded.LiteralBytes.{no_bytes_behind}
use Rattle.cbor_edn_conversions.proofs.resolving.Keeping.{all_split}

-- ---- what is called at

-- the item is one literal, with a prefix
pub record IsLone (w : Tree OneItem) : Type 0 where
  pub text : List ℕ
  pub indicator : Option Indicator
  pub is : w ≡ literal_item text indicator

abbrev given_string : Tree OneString → Option (Tree OneString)
given_string w = Some w

last_is : (l m : Tree OnePiece) → given_string (LastPieceTree l) ≡ given_string (LastPieceTree m) → l ≡ m
last_is l m e = cc

pub lone_of : (w : Tree OneItem) (a : CallArguments) → IsApplication w a → IsLone w
lone_of w (number n) h = absurd h
lone_of (StringTree (LastPieceTree (LiteralTree x i))) (prefix_and_text p t) h = record { text = x; indicator = i; is = refl }
lone_of (StringTree (LastPieceTree (EllipsisTree x))) (prefix_and_text p t) h = absurd (subst (λ l. IsApplicationPiece l p t) (sym (last_is (EllipsisTree x) h.0 h.1)) h.2)
lone_of (StringTree (LastPieceTree (EmbeddedTree w i))) (prefix_and_text p t) h = absurd (subst (λ l. IsApplicationPiece l p t) (sym (last_is (EmbeddedTree w i) h.0 h.1)) h.2)
lone_of (StringTree (PlusTree q s u w)) (prefix_and_text p t) h = let e = h.1 in absurd cc
lone_of (NumberTree x i) (prefix_and_text p t) h = let e = h.1 in absurd cc
lone_of (FloatTree f i) (prefix_and_text p t) h = let e = h.1 in absurd cc
lone_of (NamedTree b) (prefix_and_text p t) h = let e = h.1 in absurd cc
lone_of (EnclosedTree l w) (prefix_and_text p t) h = let e = h.1 in absurd cc
lone_of (ListTree k w) (prefix_and_text p t) h = let e = h.1 in absurd cc
lone_of (StreamTree s m) (prefix_and_text p t) h = let e = h.1 in absurd cc

-- ---- the visit

module _ (f : OfLiteral) (plain : (x : List ℕ) (i : Option Indicator) → ((p t : List ℕ) → IsLiteral (Prefixed p) t x → ⊥) → f x i ≡ literal_item x i)
    (deeper : (x : List ℕ) (i : Option Indicator) → (f x i ≡ literal_item x i) ⊎ (0 < depth (f x i))) where
  -- what is in an item, without a call at the item itself
  abbrev inside : Tree OneItem → Tree OneItem
  inside (StringTree w) = StringTree (with_literals f w)
  inside w = with_literals f w

  abbrev part_left : (k : Rule) → Tree k → Tree k
  part_left OneItem w = inside w
  part_left OnePiece w = with_literals f w
  part_left OneString w = with_literals f w
  part_left (OneEntry k) w = with_literals f w
  part_left (Inside k) w = with_literals f w
  part_left (Rest k) w = with_literals f w
  part_left Seq w = with_literals f w
  part_left Standalone w = with_literals f w

  not_called_at : (w : Tree OneItem) → ((a : CallArguments) → IsApplication w a → ⊥) → inside w ≡ with_literals f w
  unfolding with_literals
  not_called_at (StringTree (LastPieceTree (LiteralTree x i))) none = sym (plain x i (λ p t is. none (prefix_and_text p t) (LiteralTree x i, refl, is)))
  not_called_at (StringTree (LastPieceTree (EllipsisTree x))) none = refl
  not_called_at (StringTree (LastPieceTree (EmbeddedTree w i))) none = refl
  not_called_at (StringTree (PlusTree p s t w)) none = refl
  not_called_at (NumberTree x i) none = refl
  not_called_at (FloatTree g i) none = refl
  not_called_at (NamedTree b) none = refl
  not_called_at (EnclosedTree l w) none = refl
  not_called_at (ListTree k w) none = refl
  not_called_at (StreamTree s m) none = refl

  literal_left : (x : List ℕ) (i : Option Indicator) → with_literals f (literal_item x i) ≡ f x i
  unfolding with_literals
  literal_left x i = refl

  inside_literal : (x : List ℕ) (i : Option Indicator) → inside (literal_item x i) ≡ literal_item x i
  unfolding with_literals
  inside_literal x i = refl

  -- what a call leaves is entered only where it is the literal as it was
  stays_literal : (x : List ℕ) (i : Option Indicator) → depth (f x i) ≤ depth (literal_item x i) → f x i ≡ literal_item x i
  unfolding depth
  stays_literal x i le =
      elim (deeper x i) [
        | inl same ↦ same
        | inr more ↦ absurd (omega (arith, le, more))
      ]

  module _ (act : CallArguments → Tree OneItem → Reply) (answers : (a : CallArguments) (w : Tree OneItem) → (act a w).0 ≡ fine) (leaves : (a : CallArguments) (w : Tree OneItem) → (act a w).1 ≡ of_lone_literal f w) where
    abbrev Good : SoughtCall → Type 0
    Good = AnswersBy act

    left_at : (c : SoughtCall) → Good c → IsApplication c.before c.arguments → (x : List ℕ) (i : Option Indicator) → c.before ≡ literal_item x i → (c.after ≡ f x i) × (with_literals f c.before ≡ f x i)
    left_at c good is x i e = (good.1 ∙ (leaves c.arguments c.before ∙ ap (of_lone_literal f) e), ap (λ (w : Tree OneItem). with_literals f w) e ∙ literal_left x i)

    space_left : (c : SoughtCall) (s : List ℕ) → Good c → answered c.answer s ≡ s
    space_left c s good = ap (λ n. answered n s) (good.0 ∙ answers c.arguments c.before)

    entered_left : (c : SoughtCall) (v : Tree OneItem) → Good c → IsApplication c.before c.arguments → depth c.after ≤ depth c.before → v ≡ inside c.after → v ≡ with_literals f c.before
    entered_left c v good is le e =
        let h = lone_of c.before c.arguments is in
        let both = left_at c good is h.text h.indicator h.is in
        let same = stays_literal h.text h.indicator (subst (λ w. depth (f h.text h.indicator) ≤ depth w) h.is (subst (λ w. depth w ≤ depth c.before) both.0 le)) in
        e ∙ (ap inside (both.0 ∙ same) ∙ (inside_literal h.text h.indicator ∙ (sym same ∙ sym both.1)))

    stayed_left : (c : SoughtCall) → Good c → IsApplication c.before c.arguments → c.after ≡ with_literals f c.before
    stayed_left c good is =
        let h = lone_of c.before c.arguments is in
        let both = left_at c good is h.text h.indicator h.is in
        both.0 ∙ sym both.1

    mutual
      unfolding with_literals

      item_left : {w v : Tree OneItem} {s t : List ℕ} {cs : List SoughtCall} {r : Ending} → VisitItem IsApplication w s cs v t r → r ≡ whole → All Good cs → (v ≡ with_literals f w) × (t ≡ s)
      item_left (passed {w = w} n a) is all = (parts_left a is all ∙ not_called_at w n, refl)
      item_left (entered {c = c} {v = v} {s = s} {cs = cs} h g d a) is all =
          let good = All-head Good c cs all in
          (entered_left c v good h d (parts_left a is (All-tail Good c cs all)), space_left c s good)
      item_left (stayed {c = c} {s = s} h g d) is all = let good = All-head Good c [] all in (stayed_left c good h, space_left c s good)
      item_left (refused h g) is all = absurd cc
      item_left (not_called h) is all = absurd cc

      parts_left : {k : Rule} {w v : Tree k} {cs : List SoughtCall} {r : Ending} → VisitParts IsApplication k w cs v r → r ≡ whole → All Good cs → v ≡ part_left k w
      parts_left of_number is all = refl
      parts_left of_float is all = refl
      parts_left of_name is all = refl
      parts_left (of_tag {n = n} {i = i} a) is all = ap (EnclosedTree (opener.Tag i n)) (parts_left a is all)
      parts_left of_simple is all = refl
      parts_left (of_list {k = k} a) is all = ap (ListTree k) (parts_left a is all)
      parts_left (of_string a) is all = ap StringTree (parts_left a is all)
      parts_left (of_stream {ms = ms} a) is all = ap (StreamTree ms) (parts_left a is all)
      parts_left of_literal is all = refl
      parts_left of_ellipsis is all = refl
      parts_left (of_embedded {i = i} a) is all = ap (λ w. EmbeddedTree w i) (parts_left a is all)
      parts_left (of_last_piece a) is all = ap LastPieceTree (parts_left a is all)
      parts_left (of_pieces {p = p} {q = q} {s = s} {t = t} {w = w} {v = v} {cs = cs} {ds = ds} a b e) is all =
          let h = all_split Good cs ds (subst (All Good) e all) in
          ap (λ p. PlusTree p s t v) (parts_left a refl h.0) ∙ ap (PlusTree (with_literals f p) s t) (parts_left b is h.1)
      parts_left (of_pieces_cut a) is all = absurd cc
      parts_left of_none_inside is all = refl
      parts_left (of_all_inside {h = head} {s = s} a) is all = ap (FullTree head s) (parts_left a is all)
      parts_left (of_last {e = e} {f = g} {s = s} {t = t} a) is all =
          let h = entry_left a is all in
          ap (λ x. LastTree x t) h.0 ∙ ap (LastTree (with_literals f e)) h.1
      parts_left (of_more {e = e} {f = g} {s = s} {t = t} {m = m} {n = n} {cs = cs} {ds = ds} a b same) is all =
          let h = all_split Good cs ds (subst (All Good) same all) in
          let first = entry_left a refl h.0 in
          ap (λ x. MoreTree x t n) first.0 ∙ (ap (λ t. MoreTree (with_literals f e) t n) first.1 ∙ ap (MoreTree (with_literals f e) s) (parts_left b is h.1))
      parts_left (of_more_cut a) is all = absurd cc
      parts_left of_nothing is all = refl
      parts_left (of_sequence {s = s} a) is all = ap (SequenceTree s) (parts_left a is all)
      parts_left (of_standalone {s = s} {t = t} {u = u} {w = w} {v = v} a) is all =
          let h = item_left a is all in
          ap (λ x. StandaloneTree s x u) h.0 ∙ ap (StandaloneTree s (with_literals f w)) h.1

      entry_left : {k : Row} {e g : Tree (OneEntry k)} {s t : List ℕ} {cs : List SoughtCall} {r : Ending} → VisitEntry IsApplication k e s cs g t r → r ≡ whole → All Good cs → (g ≡ with_literals f e) × (t ≡ s)
      entry_left (of_element a) is all = let h = item_left a is all in (ap ElementTree h.0, h.1)
      entry_left (of_pair {w = w} {v = v} {x = x} {y = y} {s = s} {t = t} {u = u} {cs = cs} {ds = ds} a b e) is all =
          let h = all_split Good cs ds (subst (All Good) e all) in
          let first = item_left a refl h.0 in
          let rest = item_left b is h.1 in
          (ap (λ v. PairTree v t u y) first.0 ∙ (ap (λ t. PairTree (with_literals f w) t u y) first.1 ∙ ap (PairTree (with_literals f w) s u) rest.0), rest.1)
      entry_left (of_pair_cut a) is all = absurd cc
      entry_left (of_chunk a) is all = (ap ChunkTree (parts_left a is all), refl)

-- ---- what is shown

structure_none : (limit : ℕ) (x : List ℕ) → ((p t : List ℕ) → IsLiteral (Prefixed p) t x → ⊥) → structure_of limit (bytes_behind_prefix x) ≡ None
structure_none limit x none = ap (structure_of limit) (no_bytes_behind x none)

plain_or : (x : List ℕ) (i : Option Indicator) (inside : Tree OneItem → Tree OneItem) (o : Option (Tree OneItem)) → o ≡ None → shown_or x i inside o ≡ literal_item x i
plain_or x i inside o e = ap (shown_or x i inside) e

pub shown_plain : (levels limit : ℕ) (x : List ℕ) (i : Option Indicator) → ((p t : List ℕ) → IsLiteral (Prefixed p) t x → ⊥) → shown levels limit x i ≡ literal_item x i
unfolding shown
shown_plain zero limit x i none = refl
shown_plain (suc levels) zero x i none = refl
shown_plain (suc levels) (suc limit) x i none = plain_or x i _ _ (structure_none limit x none)

or_deeper : (x : List ℕ) (i : Option Indicator) (inside : Tree OneItem → Tree OneItem) (o : Option (Tree OneItem)) → (shown_or x i inside o ≡ literal_item x i) ⊎ (0 < depth (shown_or x i inside o))
unfolding depth
or_deeper x i inside None = inl refl
or_deeper x i inside (Some w) = inr (omega arith)

pub shown_deeper : (levels limit : ℕ) (x : List ℕ) (i : Option Indicator) → (shown levels limit x i ≡ literal_item x i) ⊎ (0 < depth (shown levels limit x i))
unfolding shown
shown_deeper zero limit x i = inl refl
shown_deeper (suc levels) zero x i = inl refl
shown_deeper (suc levels) (suc limit) x i = or_deeper x i _ (structure_of limit (bytes_behind_prefix x))

show_answers : (levels limit : ℕ) (a : CallArguments) (w : Tree OneItem) → (show_embedded levels limit a w).0 ≡ fine
unfolding show_embedded
show_answers levels limit a w = refl

pub show_leaves : (levels limit : ℕ) (a : CallArguments) (w : Tree OneItem) → (show_embedded levels limit a w).1 ≡ of_lone_literal (shown levels limit) w
unfolding show_embedded
show_leaves levels limit a w = refl

pub show_given : ShowGiven
show_given levels limit a w e = let fine_is = show_answers levels limit a w in absurd cc

pub shown_at_once : ShownAtOnce
shown_at_once levels limit cs all = (
  λ w v a. parts_left (shown levels limit) (shown_plain levels limit) (shown_deeper levels limit) (show_embedded levels limit) (show_answers levels limit) (show_leaves levels limit) a refl all,
  λ w v a. parts_left (shown levels limit) (shown_plain levels limit) (shown_deeper levels limit) (show_embedded levels limit) (show_answers levels limit) (show_leaves levels limit) a refl all,
)
