use Rattle.std.proofs.Common.{ℕ, Bool, Option, Some, None, false, ◌&&◌, ◌==◌, ◌≡◌, ◌≢◌, ◌∙◌, refl, sym, ap, arith}
use Rattle.std.proofs.lemmas.Bool.Decides.{nat_tests}
use Rattle.cbor_edn_core.specs.tree.View.{item_tree}
use Rattle.cbor_edn_parts.specs.declared.base.indicator.Indicator.{Indicator}
use Rattle.cbor_edn_model.specs.declared.text.opener.OpenerKind.TheVariants as opener
use Rattle.cbor_edn_model.specs.access.Accessed.{tag_head}
use Rattle.cbor_edn_model.specs.visit.Seeking.{number}
use Rattle.cbor_edn_model.specs.tree.Trees.{Tree, OneItem, NumberTree, FloatTree, NamedTree, EnclosedTree, ListTree, StringTree, StreamTree}
use Rattle.cbor_edn_conversions.specs.Annotations.{is_called_tag}
use Rattle.cbor_edn_application.proofs.language.is_language_tag.Goals as goal

-- the same by a tag's number
abbrev by_head : ℕ → ℕ → Option (ℕ × Option Indicator) → Bool
by_head n k None = false
by_head n k (Some p) = n == p.0 && p.0 == k

is_by_head : (n k : ℕ) (w : Tree OneItem) → by_head n k (tag_head w) ≡ is_called_tag (number n) k w
is_by_head n k (EnclosedTree (opener.Tag j l) w) = refl
is_by_head n k (EnclosedTree opener.Simple w) = refl
is_by_head n k (NumberTree x j) = refl
is_by_head n k (FloatTree f j) = refl
is_by_head n k (NamedTree b) = refl
is_by_head n k (ListTree r w) = refl
is_by_head n k (StringTree w) = refl
is_by_head n k (StreamTree s r) = refl

of_head : (n k : ℕ) (o : Option (ℕ × Option Indicator)) (w : Tree OneItem) → tag_head w ≡ o → by_head n k o ≡ is_called_tag (number n) k w
of_head n k o w e = ap (by_head n k) (sym e) ∙ is_by_head n k w

both : (n m k : ℕ) → n ≡ m → (m == k) ≡ (n == m && m == k)
both n m k e = grind (arith, nat_tests)

neither : (n m k : ℕ) → n ≢ m → (n == m) ≡ (n == m && m == k)
neither n m k e = grind (arith, nat_tests)

pub returns-then-number-tag : goal.returns-then-number-tag
returns-then-number-tag c =
    both c.args.number c.in-Some.tag 38 c.if-number-tag.true ∙ of_head c.args.number 38 _ (item_tree c.args.item.now) (sym c.get_tag_head.ensures ∙ c.in-Some.is)

pub returns-else-number-tag : goal.returns-else-number-tag
returns-else-number-tag c =
    neither c.args.number c.in-Some.tag 38 c.if-number-tag.false ∙ of_head c.args.number 38 _ (item_tree c.args.item.now) (sym c.get_tag_head.ensures ∙ c.in-Some.is)

pub returns-in-None : goal.returns-in-None
returns-in-None c = of_head c.args.number 38 None (item_tree c.args.item.now) (sym c.get_tag_head.ensures ∙ c.in-None.is)
