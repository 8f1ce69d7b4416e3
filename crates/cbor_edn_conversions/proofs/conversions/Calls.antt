-- What one call does to what an item means, by its conversion.
use Rattle.std.proofs.Common.{ℕ, ◌≡◌, Bool, true, false, cond, Option, Some, None, Ok, Err, refl, ap, ◌∙◌}
use Rattle.cbor_edn_parts.specs.declared.base.indicator.Indicator.{Indicator}
use Rattle.cbor_edn_model.specs.declared.text.opener.OpenerKind.TheVariants as opener
use Rattle.cbor_edn_model.specs.tree.Items.{Item, Node, Tagged}
use Rattle.cbor_edn_model.specs.cbor.Meaning.{◌>>=◌, width_of}
use Rattle.cbor_edn_model.specs.visit.Seeking.{CallArguments, SoughtCall}
use Rattle.cbor_edn_model.specs.tree.Trees.{Tree, OneItem, NumberTree, FloatTree, NamedTree, EnclosedTree, ListTree, StringTree, StreamTree, StandaloneTree, items}
use Rattle.cbor_edn_model.specs.cbor.Value.{Value, tag}
use Rattle.cbor_edn_model.specs.visit.Visits.{fine, comment, no_memory}
use Rattle.cbor_edn_model.proofs.lemmas.cbor.MeaningSteps.{both_steps, some_is}
use Rattle.cbor_edn_conversions.specs.Resolving.{Resolver, means_by, Turns, AnswersBy}
use Rattle.cbor_edn_conversions.specs.Resolvers.{TurnsTo}
use Rattle.cbor_edn_conversions.specs.Conversions.{Conversion, Reply, reply, and_then, tells, called_tag, is_shortest, without_tag, changed_encoding}
use Rattle.cbor_edn_conversions.proofs.conversions.SameValues.{narrow_width}

pub turns_to : (B A : Resolver) (f : CallArguments → Tree OneItem → Reply) (c : SoughtCall) → AnswersBy f c → TurnsTo B A c.before (f c.arguments c.before).1 → Turns B A c
turns_to B A f c is turns x e = ap (λ v. means_by A (items v)) is.1 ∙ turns x e

-- a conversion turns where leaving the item does, and each item that it gives
pub reply_turns : (B A : Resolver) (w : Tree OneItem) (o : Option Conversion) → TurnsTo B A w w → ((v : Tree OneItem) → o ≡ Some (Ok v) → TurnsTo B A w v) → TurnsTo B A w (reply w o).1
reply_turns B A w None stays gives = stays
reply_turns B A w (Some (Err e)) stays gives = stays
reply_turns B A w (Some (Ok v)) stays gives = gives v refl

-- one behind the other, where nothing is lost on the way
pub then_turns : (R : Resolver) (w : Tree OneItem) (a : Reply) (f : Tree OneItem → Reply) → TurnsTo R R w a.1 → ((v : Tree OneItem) → TurnsTo R R v (f v).1) → TurnsTo R R w (and_then a f).1
then_turns R w (fine, v) f first then x e = then v x (first x e)
then_turns R w (comment t, v) f first then x e = first x e
then_turns R w (no_memory, v) f first then x e = first x e

-- ---- tags

abbrev parts : ℕ → Option Indicator → Tree OneItem → ℕ × Option Indicator × Tree OneItem
parts n i w = (n, i, w)

called_by : (b : Bool) (n m : ℕ) (i j : Option Indicator) (u c : Tree OneItem) → cond b (Some (parts n i u)) None ≡ Some (parts m j c) → Tagged n i (items u) ≡ Tagged m j (items c)
called_by true n m i j u c e =
    let same = some_is (parts n i u) (parts m j c) e in
    ap (λ (p : ℕ × Option Indicator × Tree OneItem). Tagged p.0 p.1 (items p.2)) same
called_by false n m i j u c e = absurd cc

pub called_tag_is : (a : CallArguments) (w : Tree OneItem) (m : ℕ) (j : Option Indicator) (c : Tree OneItem) → called_tag a w ≡ Some (m, j, c) → items w ≡ Tagged m j (items c)
unfolding items
called_tag_is a (EnclosedTree (opener.Tag i n) (StandaloneTree s u t)) m j c e = called_by (tells a n) n m i j u c e
called_tag_is a (EnclosedTree opener.Simple w) m j c e = absurd cc
called_tag_is a (NumberTree x i) m j c e = absurd cc
called_tag_is a (FloatTree f i) m j c e = absurd cc
called_tag_is a (NamedTree b) m j c e = absurd cc
called_tag_is a (ListTree k w) m j c e = absurd cc
called_tag_is a (StringTree w) m j c e = absurd cc
called_tag_is a (StreamTree ms m) n j c e = absurd cc

-- what a tag means: its content, and a width of its number
pub record TagMeans (R : Resolver) (n : ℕ) (i : Option Indicator) (w : Node Item) (x : Value) : Type 0 where
  pub width : _
  pub width_is : width_of i n ≡ Some width
  pub content : Value
  pub content_is : means_by R w ≡ Some content
  pub value_is : tag width n content ≡ x

pub tag_means : (R : Resolver) (n : ℕ) (i : Option Indicator) (w : Node Item) (x : Value) → means_by R (Tagged n i w) ≡ Some x → TagMeans R n i w x
unfolding means_by
tag_means R n i w x e =
    let (d, width, rest) = both_steps (width_of i n) (λ d. means_by R w >>= λ v. Some (tag d n v)) x e in
    let (v, content, is) = both_steps (means_by R w) (λ v. Some (tag d n v)) x rest in
    record { width = d; width_is = width; content = v; content_is = content; value_is = some_is (tag d n v) x is }

-- A tag means what it means without its indicator, where this is the shortest.
pub shortest_means : (R : Resolver) (n : ℕ) (i : Option Indicator) (w : Node Item) → is_shortest i n ≡ true → means_by R (Tagged n i w) ≡ means_by R (Tagged n None w)
unfolding means_by
shortest_means R n i w e = ap (λ o. o >>= λ d. means_by R w >>= λ v. Some (tag d n v)) (narrow_width i n e)

-- a conversion that goes with the tag
pub record WithoutTag (i : Option Indicator) (n : ℕ) (c : Conversion) (v : Tree OneItem) : Type 0 where
  pub is_ok : c ≡ Ok v
  pub narrow : is_shortest i n ≡ true

narrow_by : (i : Option Indicator) (n : ℕ) (u v : Tree OneItem) (b : Bool) → is_shortest i n ≡ b → cond b (Ok u) (Err changed_encoding) ≡ Ok v → WithoutTag i n (Ok u) v
narrow_by i n u v true p e = record { is_ok = e; narrow = p }
narrow_by i n u v false p e = absurd cc

pub without_tag_is : (i : Option Indicator) (n : ℕ) (c : Conversion) (v : Tree OneItem) → without_tag i n c ≡ Ok v → WithoutTag i n c v
without_tag_is i n (Err t) v e = absurd cc
without_tag_is i n (Ok u) v e = narrow_by i n u v _ refl e
