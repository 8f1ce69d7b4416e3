-- The laws of conversions, as contracts name them.
use Rattle.std.specs.Prelude.{ℕ, ℤ, ◌≡◌, ◌↔◌, ◌==◌, ◌||◌, if◌then◌else◌, codes, Bool, true, List, Option, Some, Ok, All}
use Rattle.cbor_edn_parts.specs.declared.base.indicator.Indicator.{Indicator}
use Rattle.cbor_edn_parts.specs.string.Literal.{Prefixed, IsLiteral}
use Rattle.cbor_edn_parts.specs.internal.NumberReading.{integer_of}
use Rattle.cbor_edn_parts.specs.internal.ContentReading.{same}
use Rattle.cbor_edn_model.specs.cbor.Decoded.{IsSingleLine}
use Rattle.cbor_edn_model.specs.tree.Items.{Item, Node}
use Rattle.cbor_edn_model.specs.cbor.Meaning.{means}
use Rattle.cbor_edn_model.specs.visit.Seeking.{CallArguments, number, prefix_and_text, SoughtCall, IsApplication}
use Rattle.cbor_edn_model.specs.tree.Trees.{Tree, OneItem, NumberTree, items}
use Rattle.cbor_edn_model.specs.cbor.Value.{Value, AreBytes, Enc}
use Rattle.cbor_edn_model.specs.visit.Visits.{Ending}
use Rattle.cbor_edn_times_and_addresses.specs.declared.address.IpVersion.{IpVersion}
use Rattle.cbor_edn_times_and_addresses.specs.Time.{HasInstant, IsTimeStamp}
use Rattle.cbor_edn_conversions.specs.Resolving.{Resolver, ResolvesApplications, ResolvesNoContent, Turns, AnswersBy}
use Rattle.cbor_edn_conversions.specs.ResolvingLaws.{ComesBack, ComesBackInTurn, ItemsComeBack}
use Rattle.cbor_edn_conversions.specs.Conversions.{Reply, item_encoding, literal_tree, in_tag}
use Rattle.cbor_edn_conversions.specs.Resolvers.{time_value, address_value, time_resolver, address_resolver, literal_resolver, TurnsTo}
use Rattle.cbor_edn_conversions.specs.Times.{is_time_stamp, time_prefix, time_item, time_literal, instant_by, resolve_time, pretty_time}
use Rattle.cbor_edn_conversions.specs.Addresses.{address_tag, address_item, address_literal, resolve_address, pretty_address}
use Rattle.cbor_edn_conversions.specs.Bignums.{pretty_bignum}
use Rattle.cbor_edn_conversions.specs.All.{resolve_all, pretty_all}
use Rattle.cbor_edn_conversions.specs.Claims.{with_claims}

-- It gives values to application literals without a content alone.
abbrev pub IsOfApplications : Resolver → Type 0
IsOfApplications R = ResolvesApplications R × ResolvesNoContent R

-- Each literal has the value of what it becomes.
abbrev pub LiteralsStandFor : Type 0
LiteralsStandFor = (p t x : List ℕ) (i : Option Indicator) → IsLiteral (Prefixed p) t x → (time_resolver x i ≡ time_value p t) × (address_resolver x i ≡ address_value p t)

-- The bytes of an item are the encoding of what it means.
abbrev pub EncodingsComputed : Type 0
EncodingsComputed = (w : Tree OneItem) (bs : List ℕ) → (item_encoding w ≡ Some bs) ↔ ((v : Value) × (means (items w) ≡ Some v) × Enc bs v × AreBytes bs)

-- What literals become has the spaces of a single line.
abbrev pub OnOneLine : Type 0
OnOneLine = (wrap : Bool) (t : List ℕ) (v : Tree OneItem) → (time_item wrap t ≡ Ok v → IsSingleLine v) × (address_item wrap t ≡ Ok v → IsSingleLine v)

-- The test of the years 0000 to 9999.
abbrev pub StampsTested : Type 0
StampsTested = (z : ℤ) → (is_time_stamp z ≡ true) ↔ IsTimeStamp z

-- A number becomes the literal of a text with its instant.
pub record TimeRead (w : Tree OneItem) (wrap : Bool) (v : Tree OneItem) : Type 0 where
  pub number : List ℕ
  pub indicator : Option Indicator
  pub seconds : ℤ
  pub nanoseconds : ℕ
  pub text : List ℕ
  pub before : w ≡ NumberTree number indicator
  pub instant : instant_by (integer_of number) indicator number ≡ Some (seconds, nanoseconds)
  pub after : v ≡ literal_tree (time_prefix wrap) text
  pub read : HasInstant text seconds nanoseconds

abbrev pub TimesReadBack : Type 0
TimesReadBack = (w : Tree OneItem) (wrap : Bool) (v : Tree OneItem) → time_literal w wrap ≡ Ok v → TimeRead w wrap v

-- A literal of an item means, where literals stand for values, what the item means, or the tag round it where one is wanted.
abbrev pub LiteralsOfItems : Type 0
LiteralsOfItems = (w v : Tree OneItem) (wrap : Bool)
    → (time_literal w wrap ≡ Ok v → TurnsTo literal_resolver literal_resolver (in_tag wrap 1 w) v)
    × ((version : IpVersion) → address_literal w version wrap ≡ Ok v → TurnsTo literal_resolver literal_resolver (in_tag wrap (address_tag version) w) v)

-- A call of a prettifier keeps what the item means, where literals stand for values; also one that is refused, and one at any other item.
abbrev pub PrettyKeeps : Resolver → (CallArguments → Tree OneItem → Reply) → Type 0
PrettyKeeps R f = (c : SoughtCall) → AnswersBy f c → Turns R R c

-- Bignums become no literals, so any will do.
abbrev pub BignumsKept : Type 0
BignumsKept = (R : Resolver) → ResolvesNoContent R → PrettyKeeps R pretty_bignum

-- A claims set with its comments means what it meant: times in it become literals, and these stand for them.
abbrev pub ClaimsKeep : Type 0
ClaimsKeep = (w : Tree OneItem) → TurnsTo literal_resolver literal_resolver w (with_claims w).1

-- A call at a literal turns the one resolver into the other. It keeps what is meant where the two are one, also where it is refused.
abbrev pub Resolves : (CallArguments → Tree OneItem → Reply) → Resolver → Resolver → Type 0
Resolves f B A = (c : SoughtCall) → IsApplication c.before c.arguments → AnswersBy f c → Turns B A c

-- Of the conversions of tags at most one does something, by the tag's number,
abbrev pub PrettyByNumber : Type 0
PrettyByNumber = (n : ℕ) (w : Tree OneItem) → pretty_all (number n) w
    ≡ (if n == 1 then pretty_time (number n) w
    else if (n == 52) || (n == 54) then pretty_address (number n) w
    else pretty_bignum (number n) w)

-- and of those of literals at most one, by the prefix.
abbrev pub ResolvedByPrefix : Type 0
ResolvedByPrefix = (p t : List ℕ) (w : Tree OneItem) → resolve_all (prefix_and_text p t) w
    ≡ (if same p (codes "dt") || same p (codes "DT") then resolve_time (prefix_and_text p t) w
    else resolve_address (prefix_and_text p t) w)

-- The items of a value mean it again after a visit of tags that prettifies them and one of literals that resolves them,
abbrev pub PrettyResolvedAgain : Type 0
PrettyResolvedAgain = (cs ds : List SoughtCall) (r : Ending)
    → All (AnswersBy pretty_all) cs → All (AnswersBy resolve_all) ds → ComesBack cs ds r

-- or after two of literals, the first of addresses and the second of times.
abbrev pub PrettyResolvedInTurn : Type 0
PrettyResolvedInTurn = (cs ds es : List SoughtCall) (r : Ending)
    → All (AnswersBy pretty_all) cs → All (AnswersBy resolve_address) ds → All (AnswersBy resolve_time) es → ComesBackInTurn cs ds es r

-- What a callback makes of an item, whatever the spaces in it.
abbrev pub Made : (CallArguments → Tree OneItem → Reply) → CallArguments → Node Item → Node Item → Type 0
Made f a x y = (w : Tree OneItem) × (items w ≡ x) × (items (f a w).1 ≡ y)

-- The same of items alone: from the item of the value to the prettified one, and on to one that means the value.
abbrev pub ItemsResolvedBack : Type 0
ItemsResolvedBack = ItemsComeBack (Made pretty_all) (Made resolve_all)
