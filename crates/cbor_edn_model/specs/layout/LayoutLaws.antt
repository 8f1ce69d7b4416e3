-- The laws of layouts, as contracts name them.
use Rattle.std.specs.Prelude.{ℕ, List, [], ◌∷◌, ◌<◌, ◌≡◌, ◌⊎◌, All, Some}
use Rattle.cbor_edn_parts.specs.declared.space.policy.DelimiterPolicy.{DelimiterPolicy}
use Rattle.cbor_edn_parts.specs.declared.space.policy.DelimiterPolicy.TheVariants.{DiscardAll, SingleLineRegularSpacing}
use Rattle.cbor_edn_model.specs.tree.Items.{Node, Item, Items}
use Rattle.cbor_edn_model.specs.text.Spelling.{SpellsOne, SpellsSequence}
use Rattle.cbor_edn_model.specs.tree.Trees.{Rule, OneItem, Standalone, Seq, Tree, Valid, items, text}
use Rattle.cbor_edn_model.specs.cbor.Value.{Value, Values, Fits, ValuesFit}
use Rattle.cbor_edn_model.specs.cbor.Meaning.{means}
use Rattle.cbor_edn_model.specs.cbor.Decoded.{item_of, items_of, IsSingleLine}
use Rattle.cbor_edn_model.specs.layout.Layout.{laid_out}
use Rattle.cbor_edn_model.specs.layout.Commented.{commented}

-- A policy changes spaces alone, and each of them stays in its set.
abbrev pub KeepsItems : Type 0
KeepsItems = (s : Rule) (policy : DelimiterPolicy) (w : Tree s) → items (laid_out policy w) ≡ items w

abbrev pub StaysValid : Type 0
StaysValid = (s : Rule) (policy : DelimiterPolicy) (w : Tree s) → Valid w → Valid (laid_out policy w)

-- So the text after a policy spells the same items.
abbrev pub SpellsTheSame : Type 0
SpellsTheSame =
    ((policy : DelimiterPolicy) (w : Tree Standalone) → Valid w → SpellsOne (items w) (text (laid_out policy w)))
    × ((policy : DelimiterPolicy) (w : Tree Seq) → Valid w → SpellsSequence (items w) (text (laid_out policy w)))

-- a tree after policies, the first one first
abbrev pub after_policies : {s : Rule} → List DelimiterPolicy → Tree s → Tree s
after_policies [] w = w
after_policies (policy ∷ policies) w = after_policies policies (laid_out policy w)

-- Decoded items have the same value after any policies: whatever the text then spells means the value that was decoded. The
-- last is of an item alone, whose text is read as one with spaces round it.
abbrev pub MeansTheSame : Type 0
MeansTheSame =
    ((policies : List DelimiterPolicy) (v : Value) (w : Tree Standalone) (x : Node Item) → Fits v → Valid w → items w ≡ item_of v → SpellsOne x (text (after_policies policies w)) → means x ≡ Some v)
    × ((policies : List DelimiterPolicy) (vs : Values) (w : Tree Seq) (x : Items) → ValuesFit vs → Valid w → items w ≡ items_of vs → SpellsSequence x (text (after_policies policies w)) → means x ≡ Some vs)
    × ((policies : List DelimiterPolicy) (v : Value) (w : Tree OneItem) (x : Node Item) → Fits v → Valid w → items w ≡ item_of v → SpellsOne x (text (after_policies policies w)) → means x ≡ Some v)

-- every policy but the first
abbrev pub KeepsAllComments : DelimiterPolicy → Type 0
KeepsAllComments DiscardAll = ⊥
KeepsAllComments _ = Unit {0}

-- A policy forgets what an earlier one did that kept the comments; the one that discards all forgets every other.
abbrev pub ForgetsLayout : Type 0
ForgetsLayout = (s : Rule) (policy earlier : DelimiterPolicy) (w : Tree s) → KeepsAllComments earlier ⊎ (policy ≡ DiscardAll) → Valid w → laid_out policy (laid_out earlier w) ≡ laid_out policy w

-- A policy twice is that policy once.
abbrev pub SameTwice : Type 0
SameTwice = (s : Rule) (policy : DelimiterPolicy) (w : Tree s) → Valid w → laid_out policy (laid_out policy w) ≡ laid_out policy w

-- The policy of a single line leaves the trees of decoded items as they are.
abbrev pub DecodedStays : Type 0
DecodedStays =
    ((v : Value) (w : Tree OneItem) → items w ≡ item_of v → IsSingleLine w → laid_out SingleLineRegularSpacing w ≡ w)
    × ((vs : Values) (w : Tree Seq) → items w ≡ items_of vs → IsSingleLine w → laid_out SingleLineRegularSpacing w ≡ w)

-- The items of a value have one such tree.
abbrev pub OneSingleLine : Type 0
OneSingleLine =
    ((v : Value) (w u : Tree OneItem) → items w ≡ item_of v → items u ≡ item_of v → IsSingleLine w → IsSingleLine u → w ≡ u)
    × ((vs : Values) (w u : Tree Seq) → items w ≡ items_of vs → items u ≡ items_of vs → IsSingleLine w → IsSingleLine u → w ≡ u)

-- A comment in front of an item leaves its items, and is space itself. (The bytes of a text are below 256.)
abbrev pub CommentKeepsItems : Type 0
CommentKeepsItems = (c : List ℕ) (w : Tree Standalone) → items (commented c w) ≡ items w

abbrev pub CommentStaysValid : Type 0
CommentStaysValid = (c : List ℕ) (w : Tree Standalone) → All (λ b. b < 256) c → Valid w → Valid (commented c w)
