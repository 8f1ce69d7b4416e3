-- `9(true)`, replaced by the literal `x''` and back.
use Rattle.std.proofs.Common.{ℕ, ◌≡◌, cond, List, [], ◌∷◌, Option, Some, None, refl, ◌∙◌, arith, lit<, lit≤, inl}
use Rattle.std.proofs.lemmas.List.Elements.{All-nil, All-cons}
use Rattle.cbor_edn_parts.specs.string.Literal as literals
use Rattle.cbor_edn_parts.specs.string.Literal.{Prefixed, IsLiteral}
use Rattle.cbor_edn_parts.specs.internal.ContentReading.{same}
use Rattle.cbor_edn_model.specs.cbor.Decoded.{alone}
use Rattle.cbor_edn_model.specs.visit.Depth.{depth}
use Rattle.cbor_edn_model.specs.declared.cbor.heads.Width.TheVariants.{Immediate}
use Rattle.cbor_edn_model.specs.declared.text.opener.OpenerKind.TheVariants as opener
use Rattle.cbor_edn_model.specs.declared.text.keyword.NamedSimple.TheVariants.{True}
use Rattle.cbor_edn_model.specs.cbor.Meaning.{means}
use Rattle.cbor_edn_model.specs.visit.Seeking.{number, prefix_and_text, IsTag, IsApplication, SoughtCall, entered, stayed, VisitParts, of_string, of_last_piece, of_literal, of_standalone}
use Rattle.cbor_edn_model.specs.tree.Trees.{Tree, OneItem, Standalone, EnclosedTree, NamedTree, StringTree, LastPieceTree, LiteralTree, items}
use Rattle.cbor_edn_model.specs.cbor.Value.{Value, tag, simple}
use Rattle.cbor_edn_model.specs.visit.Visits.{fine, whole}
use Rattle.cbor_edn_conversions.specs.Resolving.{Resolver, no_resolver, by_prefix, means_by, Turns}
use Rattle.cbor_edn_conversions.proofs.resolving.ByPrefix.{by_prefix_applications, by_prefix_is}
use Rattle.cbor_edn_conversions.proofs.resolving.Turning.{resolved_again, literal_keeps, given_turns}

abbrev x : List ℕ
x = 120 ∷ []

-- `x''`
abbrev text : List ℕ
text = 120 ∷ 39 ∷ 39 ∷ []

abbrev v : Value
v = tag Immediate 9 (simple 21)

abbrev F : List ℕ → List ℕ → Option Value
F p t = cond (same p x) (Some v) None

abbrev R : Resolver
R = by_prefix F

is_literal : IsLiteral (Prefixed x) [] text
is_literal = ([], literals.small (lit≤ tt, lit≤ tt) (All-nil _), literals.nothing, refl)

resolved : R text None ≡ Some v
resolved = by_prefix_is F x [] text None is_literal refl

abbrev tagged : Tree OneItem
tagged = EnclosedTree (opener.Tag None 9) (alone (NamedTree True))

abbrev literal : Tree OneItem
literal = StringTree (LastPieceTree (LiteralTree text None))

abbrev pretty : SoughtCall
pretty = record { arguments = number 9; before = tagged; answer = fine; after = literal }

abbrev resolve : SoughtCall
resolve = record { arguments = prefix_and_text x []; before = literal; answer = fine; after = tagged }

pretty_visit : VisitParts IsTag Standalone (alone tagged) (pretty ∷ []) (alone literal) whole
unfolding depth
pretty_visit = of_standalone (entered {c = pretty} refl (λ e. cc) (omega arith) (of_string (of_last_piece of_literal)))

resolve_visit : VisitParts IsApplication Standalone (alone literal) (resolve ∷ []) (alone tagged) whole
unfolding depth
resolve_visit = of_standalone (stayed {c = resolve} (LiteralTree text None, refl, is_literal) (λ e. cc) (omega arith))

pretty_keeps : Turns R R pretty
unfolding means_by items
pretty_keeps = literal_keeps R pretty text None refl (λ u e. resolved ∙ e)

resolve_turns : Turns R no_resolver resolve
unfolding means_by items
resolve_turns = given_turns R no_resolver resolve text None refl v resolved refl

back : means (items (alone tagged)) ≡ Some v
unfolding items
back =
    (resolved_again R (by_prefix_applications F) (pretty ∷ []) (resolve ∷ []) whole (All-cons (Turns R R) pretty [] pretty_keeps (All-nil (Turns R R))) (All-cons (Turns R no_resolver) resolve [] resolve_turns (All-nil (Turns R no_resolver)))).0
    v
    (lit< tt, inl (lit< tt))
    (alone tagged)
    (alone literal)
    (alone literal)
    (alone tagged)
    refl
    pretty_visit
    refl
    resolve_visit
