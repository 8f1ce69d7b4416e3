-- What only clauses of private functions cite: elements of a sequence that are read, changed and printed before those behind them.
use Rattle.std.specs.Prelude.{ℕ, ◌<◌, ◌≡◌, Bool, if◌then◌else◌, List, [], ◌∷◌, map, length, None, Ok}
use Rattle.std.specs.Str.{IsUtf8}
use Rattle.cbor_edn_parts.specs.declared.base.error.Fault.{Fault}
use Rattle.cbor_edn_parts.specs.declared.space.policy.DelimiterPolicy.TheVariants.{DiscardAll, SingleLineRegularSpacing}
use Rattle.cbor_edn_model.specs.declared.cbor.decode.CborError.{CborError}
use Rattle.cbor_edn_model.specs.layout.Layout.{laid_out}
use Rattle.cbor_edn_model.specs.tree.Items.{Elements}
use Rattle.cbor_edn_model.specs.tree.Rows.{entries_onto, entries_text}
use Rattle.cbor_edn_model.specs.tree.Trees.{Tree, OneItem, OneEntry, Rest, Seq, NumberTree, ElementTree, SequenceTree, Valid}
use Rattle.cbor_edn_model.specs.internal.CborReading.{DecoderFails, item_at, trees, element_row}
use Rattle.cbor_edn_model.specs.internal.Regular.{sequence_tree_of}
use Rattle.cbor_edn_conversions.specs.Bignums.{pretty_bignum}
use Rattle.cbor_edn_conversions.specs.Tag999.{to_tag999}
use Rattle.cbor_edn_command.specs.declared.options.Options.{Options}
use Rattle.cbor_edn.specs.Runs.{IsPrintedAs}
use Rattle.cbor_edn.specs.RunSteps.{Step, Where, InTurn, IsLaidOut, TagsVisited, LiteralsVisited, AnnotatesTags, ResolvesLiterals, HasClaims, StepsGive}

-- the item has the spaces of a single line
abbrev pub IsLine : Tree OneItem → Type 0
IsLine w = laid_out SingleLineRegularSpacing w ≡ w

-- ---- elements that are read

-- Items that bytes begin with, one behind the other, and the bytes behind them.
abbrev pub AreRead : ℕ → List ℕ → List (Tree OneItem) → List ℕ → Type 0
AreRead limit bytes [] rest = bytes ≡ rest
AreRead limit bytes (w ∷ ws) rest = (behind : List ℕ) × (item_at trees limit bytes ≡ Ok (w, behind)) × (length behind < length bytes) × AreRead limit behind ws rest

-- the refusal of an item behind such items
abbrev pub IsFault : ℕ → List ℕ → Fault CborError → Type 0
IsFault limit bytes e = (ws : List (Tree OneItem)) × (rest : List ℕ) × AreRead limit bytes ws rest × (0 < length rest) × DecoderFails e (item_at trees limit rest)

-- the same of one of so many items
abbrev pub IsFaultAmong : ℕ → ℕ → List ℕ → Fault CborError → Type 0
IsFaultAmong limit most bytes e = (ws : List (Tree OneItem)) × (rest : List ℕ) × AreRead limit bytes ws rest × (length ws < most) × (0 < length rest) × DecoderFails e (item_at trees limit rest)

-- ---- elements that are changed

-- elements in front of others, each with the space behind it
abbrev pub Fronts : Type 0
Fronts = List (Tree (OneEntry Elements) × List ℕ)

abbrev pub elements : Tree (Rest Elements) → Tree Seq
elements m = SequenceTree [] m

-- the steps but the last, which sets the spaces
abbrev pub Changes : Options → Step
Changes o =
    InTurn (Where o.annotate_tags AnnotatesTags)
    (InTurn (Where o.remove_comments (IsLaidOut DiscardAll))
    (InTurn (Where o.aol_to_item ResolvesLiterals)
    (InTurn (Where o.annotate_ccs HasClaims)
    (InTurn (Where o.bignum_from_tags (TagsVisited pretty_bignum))
    (Where o.apply_999 (LiteralsVisited to_tag999))))))

-- The step makes these of elements in front, whatever is behind.
abbrev pub InFront : Step → Fronts → Fronts → Type 0
InFront P es fs = (m n : Tree (Rest Elements)) → P (elements m) (elements n) → P (elements (entries_onto es m)) (elements (entries_onto fs n))

-- items, each with the separator that decoded items have
abbrev pub separated : List (Tree OneItem) → Fronts
separated ws = map (λ w. (ElementTree w, 44 ∷ 32 ∷ [])) ws

abbrev pub AreValid : Fronts → Type 0
AreValid fs = (m : Tree (Rest Elements)) → Valid m → Valid (entries_onto fs m)

-- the integer 0, which no step changes
abbrev pub zero_item : Tree OneItem
zero_item = NumberTree (48 ∷ []) None

-- its text as a sequence, with a line feed where that is laid out
abbrev pub zero_text : Bool → List ℕ
zero_text preserve = if preserve then 48 ∷ [] else 48 ∷ 10 ∷ []

-- The text after the steps of items that others follow.
abbrev pub IsTextInFront : Options → List (Tree OneItem) → List ℕ → Type 0
IsTextInFront o ws out = (fs : Fronts) × InFront (StepsGive o) (separated ws) fs × AreValid fs × IsUtf8 out × (out ≡ entries_text fs)

-- The text after the steps of all items of a sequence.
abbrev pub IsTextOf : Options → List (Tree OneItem) → List ℕ → Type 0
IsTextOf o ws out = (v : Tree Seq) × StepsGive o (sequence_tree_of (element_row ws)) v × IsPrintedAs v out
