-- The laws of how deep items nest, as contracts name them.
use Rattle.std.specs.Prelude.{◌≡◌, ◌≤◌, List, Some, All}
use Rattle.cbor_edn_model.specs.cbor.Decoded.{item_of, items_of}
use Rattle.cbor_edn_model.specs.tree.Items.{Item, Items, Node, nesting}
use Rattle.cbor_edn_model.specs.visit.Seeking.{CallArguments, SoughtCall, VisitParts}
use Rattle.cbor_edn_model.specs.tree.Trees.{Tree, OneItem, Seq, Standalone, items}
use Rattle.cbor_edn_model.specs.cbor.Value.{Value, Values, Fits, ValuesFit}
use Rattle.cbor_edn_model.specs.visit.Visits.{Ending}
use Rattle.cbor_edn_conversions.specs.Resolving.{Resolver, means_by, AnswersBy}
use Rattle.cbor_edn_conversions.specs.Conversions.{Reply}
use Rattle.cbor_edn_conversions.specs.Claims.{with_claims}
use Rattle.cbor_edn_conversions.specs.Annotations.{comment_lang}
use Rattle.cbor_edn_conversions.specs.Nesting.{IsDirect, StaysDirect}

-- Whatever literals stand for, direct items nest no deeper than the items of the values that they mean: `DT'1970-01-01T00:00:42Z'` no
-- deeper than `1(42)`.
abbrev pub NestsAsMeant : Type 0
NestsAsMeant = (R : Resolver)
    → ((x : Node Item) (v : Value) → IsDirect x → means_by R x ≡ Some v → nesting x ≤ nesting (item_of v))
    × ((x : Items) (vs : Values) → IsDirect x → means_by R x ≡ Some vs → nesting x ≤ nesting (items_of vs))

-- Decoded items are direct.
abbrev pub DecodedIsDirect : Type 0
DecodedIsDirect = ((v : Value) → Fits v → IsDirect (item_of v)) × ((vs : Values) → ValuesFit vs → IsDirect (items_of vs))

-- A visit leaves direct items direct where its calls do, however it ended.
abbrev pub VisitKeepsDirect : (Tree OneItem → CallArguments → Type 0) → Type 0
VisitKeepsDirect IsSought = (cs : List SoughtCall) (r : Ending) → All StaysDirect cs
    → ((w v : Tree Standalone) → VisitParts IsSought _ w cs v r → IsDirect (items w) → IsDirect (items v))
    × ((w v : Tree Seq) → VisitParts IsSought _ w cs v r → IsDirect (items w) → IsDirect (items v))

-- The calls of a function do.
abbrev pub CallsKeepDirect : (CallArguments → Tree OneItem → Reply) → Type 0
CallsKeepDirect f = (c : SoughtCall) → AnswersBy f c → StaysDirect c

-- Claims sets with their comments are direct where they were.
abbrev pub ClaimsKeepDirect : Type 0
ClaimsKeepDirect = (w : Tree OneItem) → IsDirect (items w) → IsDirect (items (with_claims w).1)

-- Comments in a tag 38 leave its items.
abbrev pub LanguageKeepsItems : Type 0
LanguageKeepsItems = (a : CallArguments) (w : Tree OneItem) → items (comment_lang a w).1 ≡ items w
