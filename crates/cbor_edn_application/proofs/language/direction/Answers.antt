use Rattle.std.proofs.Common.{Some, None, ◌≡◌, ◌∙◌, refl, sym, ap}
use Rattle.cbor_edn_core.specs.tree.View.{item_tree}
use Rattle.cbor_edn_model.specs.declared.text.keyword.NamedSimple.{NamedSimple}
use Rattle.cbor_edn_model.specs.access.Accessed.{named_keyword}
use Rattle.cbor_edn_model.specs.tree.Trees.{Tree, OneItem, NumberTree, FloatTree, NamedTree, EnclosedTree, ListTree, StringTree, StreamTree}
use Rattle.cbor_edn_model.specs.visit.Visits.{fine}
use Rattle.cbor_edn_conversions.specs.Annotations.{direction}
use Rattle.cbor_edn_application.proofs.language.direction.Goals as goal

of_keyword : (w : Tree OneItem) (b : NamedSimple) → named_keyword w ≡ Some b → direction (NamedTree b) ≡ direction w
of_keyword (NamedTree c) b e = let is : c ≡ b = cc in ap (λ x. direction (NamedTree x)) (sym is)
of_keyword (NumberTree x i) b e = absurd cc
of_keyword (FloatTree f i) b e = absurd cc
of_keyword (EnclosedTree l w) b e = absurd cc
of_keyword (ListTree k w) b e = absurd cc
of_keyword (StringTree w) b e = absurd cc
of_keyword (StreamTree s m) b e = absurd cc

of_none : (w : Tree OneItem) → named_keyword w ≡ None → fine ≡ direction w
of_none (NamedTree b) e = absurd cc
of_none (NumberTree x i) e = refl
of_none (FloatTree f i) e = refl
of_none (EnclosedTree l w) e = refl
of_none (ListTree k w) e = refl
of_none (StringTree w) e = refl
of_none (StreamTree s m) e = refl

pub returns-in-Some : goal.returns-in-Some
returns-in-Some c = c.direction_name.ensures ∙ of_keyword (item_tree c.args.element.now) c.in-Some.keyword (sym c.get_named.ensures ∙ c.in-Some.is)

pub returns-in-None : goal.returns-in-None
returns-in-None c = of_none (item_tree c.args.element.now) (sym c.get_named.ensures ∙ c.in-None.is)
