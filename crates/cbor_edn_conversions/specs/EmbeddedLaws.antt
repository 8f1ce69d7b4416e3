-- The laws of byte strings that are shown, as contracts name them.
use Rattle.std.specs.Prelude.{ℕ, ◌+◌, ◌-◌, ◌≤◌, ◌≡◌, ◌↔◌, List, Some, All}
use Rattle.cbor_edn_parts.specs.declared.string.StringKind.TheVariants.{Bytes}
use Rattle.cbor_edn_parts.specs.string.Contents.{HasContent}
use Rattle.cbor_edn_parts.specs.string.Literal.{Prefixed, IsLiteral}
use Rattle.cbor_edn_model.specs.cbor.Decoded.{IsDecoded, item_of, items_of}
use Rattle.cbor_edn_model.specs.cbor.Meaning.{means}
use Rattle.cbor_edn_model.specs.cbor.Value.{Value, Values, Fits, ValuesFit, AreBytes, Enc}
use Rattle.cbor_edn_model.specs.tree.Items.{nesting}
use Rattle.cbor_edn_model.specs.tree.Trees.{Tree, OneItem, Seq, Standalone, items}
use Rattle.cbor_edn_model.specs.visit.Seeking.{SoughtCall, VisitParts, IsApplication}
use Rattle.cbor_edn_model.specs.visit.Visits.{whole}
use Rattle.cbor_edn_conversions.specs.ConversionLaws.{IsOfApplications}
use Rattle.cbor_edn_conversions.specs.EmbeddedItems.{with_literals, bytes_behind_prefix, decoded_item, shown, show_embedded}
use Rattle.cbor_edn_conversions.specs.Resolving.{Resolver, means_by, TurnsExactly, AnswersBy}
use Rattle.cbor_edn_conversions.specs.ResolvingLaws.{NeverRefused}

-- The bytes of a literal are its content, where it has a prefix.
abbrev pub BytesAreContent : Type 0
BytesAreContent = (x bs : List ℕ) → (bytes_behind_prefix x ≡ Some bs) ↔ (((p t : List ℕ) × IsLiteral (Prefixed p) t x) × HasContent x Bytes bs)

-- The item that is decoded of bytes is that of the one value that they encode, within the limit and on a single line.
abbrev pub DecodedItemIs : Type 0
DecodedItemIs = (limit : ℕ) (bytes : List ℕ) → AreBytes bytes → (w : Tree OneItem) → (decoded_item limit bytes ≡ Some w) ↔ IsDecoded limit (Enc bytes) w

-- A call keeps what the item means, whatever literals stand for, and means nothing where it meant nothing.
abbrev pub ShowKeeps : Type 0
ShowKeeps = (R : Resolver) → IsOfApplications R → (levels limit : ℕ) (c : SoughtCall) → AnswersBy (show_embedded levels limit) c → TurnsExactly R R c

-- It takes no memory.
abbrev pub ShowGiven : Type 0
ShowGiven = (levels limit : ℕ) → NeverRefused (show_embedded levels limit)

-- One whole visit shows each literal, to all the levels.
abbrev pub ShownAtOnce : Type 0
ShownAtOnce = (levels limit : ℕ) (cs : List SoughtCall) → All (AnswersBy (show_embedded levels limit)) cs
    → ((w v : Tree Standalone) → VisitParts IsApplication _ w cs v whole → v ≡ with_literals (shown levels limit) w)
    × ((w v : Tree Seq) → VisitParts IsApplication _ w cs v whole → v ≡ with_literals (shown levels limit) w)

-- Items of which literals are shown mean what they meant, or nothing as before,
abbrev pub ShownMeans : Type 0
ShownMeans = (R : Resolver) → IsOfApplications R → (levels limit : ℕ)
    → ((w : Tree Standalone) → means_by R (items (with_literals (shown levels limit) w)) ≡ means_by R (items w))
    × ((w : Tree Seq) → means_by R (items (with_literals (shown levels limit) w)) ≡ means_by R (items w))

-- so by themselves too, and those of values mean the values,
abbrev pub ShownMeansAlone : Type 0
ShownMeansAlone = (levels limit : ℕ)
    → ((w : Tree Standalone) → means (items (with_literals (shown levels limit) w)) ≡ means (items w))
    × ((w : Tree Seq) → means (items (with_literals (shown levels limit) w)) ≡ means (items w))
    × ((v : Value) → Fits v → (w : Tree Standalone) → items w ≡ item_of v → means (items (with_literals (shown levels limit) w)) ≡ Some v)
    × ((vs : Values) → ValuesFit vs → (w : Tree Seq) → items w ≡ items_of vs → means (items (with_literals (shown levels limit) w)) ≡ Some vs)

-- and they nest deeper by the limit of what is shown at most:
abbrev pub ShownNests : Type 0
ShownNests = (levels limit : ℕ)
    → ((w : Tree Standalone) → nesting (items (with_literals (shown levels limit) w)) ≤ nesting (items w) + limit)
    × ((w : Tree Seq) → nesting (items (with_literals (shown levels limit) w)) ≤ nesting (items w) + limit)

-- where that is what their own nesting leaves of a limit, they nest within it.
abbrev pub ShownWithin : Type 0
ShownWithin = (levels limit : ℕ)
    → ((w : Tree Standalone) → nesting (items w) ≤ limit → nesting (items (with_literals (shown levels (limit - nesting (items w))) w)) ≤ limit)
    × ((w : Tree Seq) → nesting (items w) ≤ limit → nesting (items (with_literals (shown levels (limit - nesting (items w))) w)) ≤ limit)
