-- The laws of visits that keep what items mean, as contracts name them.
use Rattle.std.specs.Prelude.{◌≡◌, ◌≢◌, ℕ, false, List, Option, Some, All}
use Rattle.cbor_edn_parts.specs.declared.base.indicator.Indicator.{Indicator}
use Rattle.cbor_edn_parts.specs.string.Literal.{Prefixed, IsLiteral}
use Rattle.cbor_edn_parts.specs.internal.ContentReading.{is_supported_prefix}
use Rattle.cbor_edn_model.specs.cbor.Decoded.{item_of, items_of}
use Rattle.cbor_edn_model.specs.tree.Items.{Sort, Item, Items, Node}
use Rattle.cbor_edn_model.specs.cbor.Meaning.{MeaningOf, means}
use Rattle.cbor_edn_model.specs.visit.Seeking.{CallArguments, SoughtCall, VisitParts, IsTag, IsApplication}
use Rattle.cbor_edn_model.specs.tree.Trees.{Tree, OneItem, Seq, Standalone, items}
use Rattle.cbor_edn_model.specs.cbor.Value.{Value, Values, Fits, ValuesFit}
use Rattle.cbor_edn_model.specs.visit.Visits.{Answer, no_memory, Ending, whole}
use Rattle.cbor_edn_conversions.specs.Resolving.{Resolver, no_resolver, means_by, DifferAtPrefixes, ResolvesApplications, ResolvesNoContent, Turns, TurnsExactly, AnswersBy, by_prefix}
use Rattle.cbor_edn_conversions.specs.VisitedItems.{IsTagNode, IsApplicationNode, ReachedItem, VisitedNode, Answered, LeavesAnswer, TurnsItem}

-- By no resolver items mean what they mean, and by one of literals without a content they mean no less.
abbrev pub NoneResolved : Type 0
NoneResolved =
    ((s : Sort) (x : Node s) → means_by no_resolver x ≡ means x)
    × ((R : Resolver) → ResolvesNoContent R → (s : Sort) (x : Node s) (v : MeaningOf s) → means x ≡ Some v → means_by R x ≡ Some v)

-- Decoded items have no literal that such a resolver gives a value.
abbrev pub DecodedUnresolved : Type 0
DecodedUnresolved = (R : Resolver) → ResolvesApplications R → ((v : Value) → means_by R (item_of v) ≡ means (item_of v)) × ((vs : Values) → means_by R (items_of vs) ≡ means (items_of vs))

-- A visit keeps what its calls keep: of an item and of a sequence, however it ended.
abbrev pub VisitKeeps : (Tree OneItem → CallArguments → Type 0) → Type 0
VisitKeeps IsSought = (R : Resolver) (cs : List SoughtCall) (r : Ending) → All (Turns R R) cs
    → ((w v : Tree Standalone) → VisitParts IsSought _ w cs v r → (x : Value) → means_by R (items w) ≡ Some x → means_by R (items v) ≡ Some x)
    × ((w v : Tree Seq) → VisitParts IsSought _ w cs v r → (xs : Values) → means_by R (items w) ≡ Some xs → means_by R (items v) ≡ Some xs)

abbrev pub VisitKeepsExactly : (Tree OneItem → CallArguments → Type 0) → Type 0
VisitKeepsExactly IsSought = (R : Resolver) (cs : List SoughtCall) (r : Ending) → All (TurnsExactly R R) cs
    → ((w v : Tree Standalone) → VisitParts IsSought _ w cs v r → means_by R (items w) ≡ means_by R (items v))
    × ((w v : Tree Seq) → VisitParts IsSought _ w cs v r → means_by R (items w) ≡ means_by R (items v))

-- A whole visit of literals turns the one resolver into the other where its calls do.
abbrev pub VisitResolves : Type 0
VisitResolves = (B A : Resolver) → DifferAtPrefixes B A → (cs : List SoughtCall) → All (Turns B A) cs
    → ((w v : Tree Standalone) → VisitParts IsApplication _ w cs v whole → (x : Value) → means_by B (items w) ≡ Some x → means_by A (items v) ≡ Some x)
    × ((w v : Tree Seq) → VisitParts IsApplication _ w cs v whole → (xs : Values) → means_by B (items w) ≡ Some xs → means_by A (items v) ≡ Some xs)

abbrev pub VisitResolvesExactly : Type 0
VisitResolvesExactly = (B A : Resolver) → DifferAtPrefixes B A → (cs : List SoughtCall) → All (TurnsExactly B A) cs
    → ((w v : Tree Standalone) → VisitParts IsApplication _ w cs v whole → means_by B (items w) ≡ means_by A (items v))
    × ((w v : Tree Seq) → VisitParts IsApplication _ w cs v whole → means_by B (items w) ≡ means_by A (items v))

-- Over any value that has an encoding, these calls at tags, however their visit ended, and then these of a whole visit of literals leave
-- an item that means the value, whatever became of the spaces between the two; and the same of a sequence.
abbrev pub ComesBack : List SoughtCall → List SoughtCall → Ending → Type 0
ComesBack cs ds r =
    ((v : Value) → Fits v → (a b c d : Tree Standalone) → items a ≡ item_of v → VisitParts IsTag _ a cs b r
    → items b ≡ items c → VisitParts IsApplication _ c ds d whole → means (items d) ≡ Some v)
    × ((vs : Values) → ValuesFit vs → (a b c d : Tree Seq) → items a ≡ items_of vs → VisitParts IsTag _ a cs b r
    → items b ≡ items c → VisitParts IsApplication _ c ds d whole → means (items d) ≡ Some vs)

-- The same with two whole visits of literals, one behind the other.
abbrev pub ComesBackInTurn : List SoughtCall → List SoughtCall → List SoughtCall → Ending → Type 0
ComesBackInTurn cs ds es r =
    ((v : Value) → Fits v → (a b c d e f : Tree Standalone) → items a ≡ item_of v → VisitParts IsTag _ a cs b r
    → items b ≡ items c → VisitParts IsApplication _ c ds d whole
    → items d ≡ items e → VisitParts IsApplication _ e es f whole → means (items f) ≡ Some v)
    × ((vs : Values) → ValuesFit vs → (a b c d e f : Tree Seq) → items a ≡ items_of vs → VisitParts IsTag _ a cs b r
    → items b ≡ items c → VisitParts IsApplication _ c ds d whole
    → items d ≡ items e → VisitParts IsApplication _ e es f whole → means (items f) ≡ Some vs)

-- It comes back where the visit of tags keeps what items mean by R and the visit of literals turns R into none,
abbrev pub ResolvedAgain : Type 0
ResolvedAgain = (R : Resolver) → ResolvesApplications R → (cs ds : List SoughtCall) (r : Ending)
    → All (Turns R R) cs → All (Turns R no_resolver) ds → ComesBack cs ds r

-- and where two visits of literals do so, each of some of them.
abbrev pub ResolvedInTurn : Type 0
ResolvedInTurn = (R Q : Resolver) → ResolvesApplications R → ResolvesApplications Q → (cs ds es : List SoughtCall) (r : Ending)
    → All (Turns R R) cs → All (Turns R Q) ds → All (Turns Q no_resolver) es → ComesBackInTurn cs ds es r

-- Resolvers by prefix and text meet both premises on resolvers, and give what F gives of each literal with a prefix that says no content.
abbrev pub ResolversByPrefix : Type 0
ResolversByPrefix = (F : List ℕ → List ℕ → Option Value) → ResolvesApplications (by_prefix F) × ResolvesNoContent (by_prefix F)
    × ((p t x : List ℕ) (i : Option Indicator) → IsLiteral (Prefixed p) t x → is_supported_prefix p ≡ false → by_prefix F x i ≡ F p t)

-- ---- one result

-- Two whole visits of one tree by the same answers have the same calls and leave the same.
abbrev pub VisitedOnce : (Tree OneItem → CallArguments → Type 0) → Type 0
VisitedOnce IsSought = (f : CallArguments → Tree OneItem → Answer × Tree OneItem) (cs ds : List SoughtCall) → All (AnswersBy f) cs → All (AnswersBy f) ds
    → ((w v u : Tree Standalone) → VisitParts IsSought _ w cs v whole → VisitParts IsSought _ w ds u whole → (v ≡ u) × (cs ≡ ds))
    × ((w v u : Tree Seq) → VisitParts IsSought _ w cs v whole → VisitParts IsSought _ w ds u whole → (v ≡ u) × (cs ≡ ds))

-- The function answers without memory.
abbrev pub NeverRefused : (CallArguments → Tree OneItem → Answer × Tree OneItem) → Type 0
NeverRefused f = (a : CallArguments) (w : Tree OneItem) → (f a w).0 ≢ no_memory

-- By such answers each tree has a whole visit.
abbrev pub VisitsExist : (Tree OneItem → CallArguments → Type 0) → Type 0
VisitsExist IsSought = (f : CallArguments → Tree OneItem → Answer × Tree OneItem) → NeverRefused f
    → ((w : Tree Standalone) → (v : Tree Standalone) × (cs : List SoughtCall) × All (AnswersBy f) cs × VisitParts IsSought _ w cs v whole)
    × ((w : Tree Seq) → (v : Tree Seq) × (cs : List SoughtCall) × All (AnswersBy f) cs × VisitParts IsSought _ w cs v whole)

-- ---- items alone

-- A whole visit of a tree visits its items.
abbrev pub VisitsItems : (Tree OneItem → CallArguments → Type 0) → (Node Item → CallArguments → Type 0) → Type 0
VisitsItems IsSought IsSoughtNode = (f : CallArguments → Node Item → Node Item) (cs : List SoughtCall) → All (LeavesAnswer f) cs
    → ((w v : Tree Standalone) → VisitParts IsSought _ w cs v whole → ReachedItem IsSoughtNode (Answered f) (items w) (items v))
    × ((w v : Tree Seq) → VisitParts IsSought _ w cs v whole → VisitedNode IsSoughtNode (Answered f) _ (items w) (items v))

-- Such a visit has one result.
abbrev pub ItemsVisitedOnce : (Node Item → CallArguments → Type 0) → Type 0
ItemsVisitedOnce IsSought = (f : CallArguments → Node Item → Node Item)
    → ((x y z : Node Item) → ReachedItem IsSought (Answered f) x y → ReachedItem IsSought (Answered f) x z → y ≡ z)
    × ((x y z : Items) → VisitedNode IsSought (Answered f) _ x y → VisitedNode IsSought (Answered f) _ x z → y ≡ z)

-- A whole visit of a tree whose calls turn the one resolver into the other is one of its items that does.
abbrev pub VisitsTurnItems : (Tree OneItem → CallArguments → Type 0) → (Node Item → CallArguments → Type 0) → Type 0
VisitsTurnItems IsSought IsSoughtNode = (B A : Resolver) (cs : List SoughtCall) → All (Turns B A) cs
    → ((w v : Tree Standalone) → VisitParts IsSought _ w cs v whole → ReachedItem IsSoughtNode (TurnsItem B A) (items w) (items v))
    × ((w v : Tree Seq) → VisitParts IsSought _ w cs v whole → VisitedNode IsSoughtNode (TurnsItem B A) _ (items w) (items v))

-- Over any value that has an encoding, a visit of the tags of its item by the first step, and then one of literals by the second, leave an
-- item that means the value; and the same of a sequence.
abbrev pub ItemsComeBack : (CallArguments → Node Item → Node Item → Type 0) → (CallArguments → Node Item → Node Item → Type 0) → Type 0
ItemsComeBack Pretty Resolved =
    ((v : Value) → Fits v → (x y : Node Item) → ReachedItem IsTagNode Pretty (item_of v) x
    → ReachedItem IsApplicationNode Resolved x y → means y ≡ Some v)
    × ((vs : Values) → ValuesFit vs → (x y : Items) → VisitedNode IsTagNode Pretty _ (items_of vs) x
    → VisitedNode IsApplicationNode Resolved _ x y → means y ≡ Some vs)

-- They come back where the first keeps what items mean by R, and the second turns R into none,
abbrev pub ItemsResolvedAgain : Type 0
ItemsResolvedAgain = (R : Resolver) → ResolvesApplications R → ItemsComeBack (TurnsItem R R) (TurnsItem R no_resolver)

-- and by the answers of two functions: what the first gives at a tag means what the tag meant by R, and what the second gives at a literal
-- means without R what the literal meant by R.
abbrev pub AnswersResolvedAgain : Type 0
AnswersResolvedAgain = (R : Resolver) → ResolvesApplications R → (pretty resolved : CallArguments → Node Item → Node Item)
    → ((a : CallArguments) (x : Node Item) → IsTagNode x a → TurnsItem R R a x (pretty a x))
    → ((a : CallArguments) (x : Node Item) → IsApplicationNode x a → TurnsItem R no_resolver a x (resolved a x))
    → ItemsComeBack (Answered pretty) (Answered resolved)
