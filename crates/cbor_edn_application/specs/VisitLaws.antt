-- The laws of visits that convert, as contracts name them.
use Rattle.std.specs.Prelude.{◌≡◌, Some}
use Rattle.cbor_edn_model.specs.cbor.Decoded.{item_of, items_of}
use Rattle.cbor_edn_model.specs.cbor.Meaning.{means}
use Rattle.cbor_edn_model.specs.visit.Seeking.{CallArguments, IsTag, IsApplication}
use Rattle.cbor_edn_model.specs.tree.Trees.{Tree, OneItem, Seq, Standalone, items}
use Rattle.cbor_edn_model.specs.cbor.Value.{Value, Values, Fits, ValuesFit}
use Rattle.cbor_edn_model.specs.visit.Visits.{Ending, whole}
use Rattle.cbor_edn_conversions.specs.Addresses.{resolve_address}
use Rattle.cbor_edn_conversions.specs.All.{resolve_all, pretty_all}
use Rattle.cbor_edn_conversions.specs.Resolvers.{literal_resolver}
use Rattle.cbor_edn_conversions.specs.Resolving.{means_by}
use Rattle.cbor_edn_conversions.specs.Times.{resolve_time}
use Rattle.cbor_edn_application.specs.Acts.{Act, IsVisited}
use Rattle.cbor_edn_application.specs.Sequences.{with_claims_sets}

-- The items of any values that have an encoding, whatever the spaces: what is left of them by a visit that prettifies, however it ended,
-- and then by a whole one that resolves, whatever became of the spaces between the two, means these values.
abbrev pub SequencesResolvedAgain : Type 0
SequencesResolvedAgain = (vs : Values) → ValuesFit vs → (a b c d : Tree Seq) (r : Ending) → items a ≡ items_of vs → IsVisited IsTag pretty_all a r b
    → items b ≡ items c → IsVisited IsApplication resolve_all c whole d → means (items d) ≡ Some vs

-- the same of the item of one value
abbrev pub ItemsResolvedAgain : Type 0
ItemsResolvedAgain = (v : Value) → Fits v → (a b c d : Tree Standalone) (r : Ending) → items a ≡ item_of v → IsVisited IsTag pretty_all a r b
    → items b ≡ items c → IsVisited IsApplication resolve_all c whole d → means (items d) ≡ Some v

-- Decoded or not: what the items of a sequence mean they mean again behind two such visits,
abbrev pub SequencesMeanAgain : Type 0
SequencesMeanAgain = (a b c d : Tree Seq) (r : Ending) (xs : Values) → means (items a) ≡ Some xs → IsVisited IsTag pretty_all a r b
    → items b ≡ items c → IsVisited IsApplication resolve_all c whole d → means (items d) ≡ Some xs

-- and so does one item.
abbrev pub ItemsMeanAgain : Type 0
ItemsMeanAgain = (a b c d : Tree Standalone) (r : Ending) (x : Value) → means (items a) ≡ Some x → IsVisited IsTag pretty_all a r b
    → items b ≡ items c → IsVisited IsApplication resolve_all c whole d → means (items d) ≡ Some x

-- A visit with the function, however it ended, keeps what the items of a sequence mean where literals stand for values.
abbrev pub VisitsKeep : (Tree OneItem → CallArguments → Type 0) → Act → Type 0
VisitsKeep IsSought act = (w v : Tree Seq) (r : Ending) → IsVisited IsSought act w r v
    → (xs : Values) → means_by literal_resolver (items w) ≡ Some xs → means_by literal_resolver (items v) ≡ Some xs

-- One that puts comments alone leaves the items as they are.
abbrev pub VisitsLeave : (Tree OneItem → CallArguments → Type 0) → Act → Type 0
VisitsLeave IsSought act = (w v : Tree Seq) (r : Ending) → IsVisited IsSought act w r v → items v ≡ items w

-- The comments of claims sets keep what the items mean so.
abbrev pub ClaimsSetsKeep : Type 0
ClaimsSetsKeep = (w : Tree Seq) (xs : Values) → means_by literal_resolver (items w) ≡ Some xs → means_by literal_resolver (items (with_claims_sets w)) ≡ Some xs

-- After a whole visit that resolves addresses and one that resolves times, no literal has to stand for a value any more.
abbrev pub LiteralsResolvedInTurn : Type 0
LiteralsResolvedInTurn = (w u v : Tree Seq) → IsVisited IsApplication resolve_address w whole u → IsVisited IsApplication resolve_time u whole v
    → (xs : Values) → means_by literal_resolver (items w) ≡ Some xs → means (items v) ≡ Some xs

-- A whole visit with a function has one result.
abbrev pub VisitedOnce : (Tree OneItem → CallArguments → Type 0) → Type 0
VisitedOnce IsSought = (act : Act)
    → ((w v u : Tree Standalone) → IsVisited IsSought act w whole v → IsVisited IsSought act w whole u → v ≡ u)
    × ((w v u : Tree Seq) → IsVisited IsSought act w whole v → IsVisited IsSought act w whole u → v ≡ u)
