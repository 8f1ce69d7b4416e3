-- The laws of removed indicators, as contracts name them.
use Rattle.std.specs.Prelude.{◌≡◌, ◌<◌, ◌^◌, length, Some}
use Rattle.cbor_edn_model.specs.tree.Items.{Node, Item, Items}
use Rattle.cbor_edn_model.specs.tree.Trees.{Rule, OneItem, Seq, Standalone, Tree, Valid, Merged, items}
use Rattle.cbor_edn_model.specs.cbor.Value.{Value, Values, encoding, encodings}
use Rattle.cbor_edn_model.specs.cbor.Meaning.{means}
use Rattle.cbor_edn_model.specs.layout.Bare.{bare, without_indicators}
use Rattle.cbor_edn_model.specs.layout.Plain.{plain, plain_values, IsShort, AreShort}

-- A tree without indicators has the bare items, and each of its texts is in its set.
abbrev pub WithoutIndicatorsIsBare : Type 0
WithoutIndicatorsIsBare = ((w : Tree OneItem) → items (without_indicators w) ≡ bare (items w)) × ((w : Tree Standalone) → items (without_indicators w) ≡ bare (items w)) × ((w : Tree Seq) → items (without_indicators w) ≡ bare (items w))

abbrev pub WithoutIndicatorsStaysValid : Type 0
WithoutIndicatorsStaysValid = (s : Rule) (w : Tree s) → Valid w → Valid (without_indicators w) × (Merged w → Merged (without_indicators w))

-- Where an item means a value, the bare item means one that is the same but for its heads, and these are the shortest. (Encodings of
-- 2^64 bytes and more are left out: a list of so many entries may have indefinite length alone.)
abbrev pub BareMeans : Type 0
BareMeans =
    ((x : Node Item) (v : Value) → length (encoding v) < 2 ^ 64 → means x ≡ Some v → (w : Value) × (means (bare x) ≡ Some w) × (plain w ≡ plain v) × IsShort w)
    × ((x : Items) (vs : Values) → length (encodings vs) < 2 ^ 64 → means x ≡ Some vs → (ws : Values) × (means (bare x) ≡ Some ws) × (plain_values ws ≡ plain_values vs) × AreShort ws)
