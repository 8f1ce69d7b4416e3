-- What only clauses of private functions cite: arrays that don't fit on a line, whose elements are read, changed and printed before those behind them.
use Rattle.std.specs.Prelude.{◌≡◌, ℕ, ◌-◌, ◌<◌, ◌≤◌, Bool, true, false, ◌||◌, List, [], ◌∷◌, ◌++◌, map, length, take, drop, replicate, Some, Ok}
use Rattle.std.specs.Str.{IsUtf8}
use Rattle.cbor_edn_parts.specs.space.Spacing.{Optional, indented}
use Rattle.cbor_edn_model.specs.declared.cbor.heads.Width.{Width}
use Rattle.cbor_edn_model.specs.cbor.Decoded.{indicator_of}
use Rattle.cbor_edn_model.specs.layout.Layout.{Layout, Lines, First, layout, respaced, laid, laid_list_head}
use Rattle.cbor_edn_model.specs.tree.Items.{Elements, Array}
use Rattle.cbor_edn_model.specs.tree.Rows.{entries_text}
use Rattle.cbor_edn_model.specs.tree.Trees.{Tree, OneItem, Rest, Seq, ListHead, NoIndicator, ListTree, FullTree, ElementTree, LastTree, Valid, text, list_head_text}
use Rattle.cbor_edn_model.specs.internal.CborReading.{head_at, element_row}
use Rattle.cbor_edn_model.specs.internal.LayoutRows.{laid_entry}
use Rattle.cbor_edn_model.specs.internal.Regular.{spaced_list_head}
use Rattle.cbor_edn_command.specs.declared.options.Options.{Options}
use Rattle.cbor_edn.specs.Elements.{AreRead, Fronts, elements, Changes, InFront, separated, AreValid, zero_item, IsTextInFront, IsTextOf}

-- No step is asked for that may change items in which no tag stands, and the spaces are those of the indented policy.
abbrev pub ChangesTags : Options → Type 0
ChangesTags o = (o.remove_comments || (o.aol_to_item || (o.annotate_ccs || (o.apply_999 || o.preserve_space)))) ≡ false

-- the head of such an array, and what stands behind it
abbrev pub IsLongArray : Options → List ℕ → Width → ℕ → List ℕ → Type 0
IsLongArray o bytes w n behind = ChangesTags o × (0 < o.limit) × (head_at bytes ≡ Ok ((4, Some (w, n)), behind)) × (80 ≤ n) × (length behind < length bytes)

-- all elements of an array
abbrev pub AreElementsOf : ℕ → ℕ → List ℕ → List (Tree OneItem) → List ℕ → Type 0
AreElementsOf limit n bytes ws rest = AreRead limit bytes ws rest × (length ws ≡ n)

abbrev pub array_of : ListHead → Tree (Rest Elements) → Tree OneItem
array_of h m = ListTree Array (FullTree h [] m)

-- a sequence of an array
abbrev pub alone : ListHead → Tree (Rest Elements) → Tree Seq
alone h m = elements (LastTree (ElementTree (array_of h m)) [])

-- how its elements are laid out: on lines that begin with four spaces, and the bracket behind them on one that begins with none
abbrev pub in_lines : Layout
in_lines = Lines 4 0 4 80

-- what stands in front of them, but the bracket
abbrev pub front_onto : ListHead → List ℕ → List ℕ
front_onto h r = list_head_text (laid_list_head in_lines h) ++ (respaced Optional First in_lines [] ++ r)

abbrev pub head_of_width : Width → ℕ → ListHead
head_of_width w n = spaced_list_head (indicator_of w n)

abbrev pub front_text : Width → ℕ → List ℕ
front_text w n = 91 ∷ front_onto (head_of_width w n) []

abbrev pub IsFront : Width → ℕ → List ℕ → Type 0
IsFront w n out = IsUtf8 out × (out ≡ front_text w n)

-- ---- elements in an array of their own

abbrev pub zeros : ℕ → Fronts
zeros n = separated (replicate n zero_item)

-- an array of integers and elements, and its text in front of these
abbrev pub zeros_text : List ℕ
zeros_text = 91 ∷ front_onto NoIndicator (entries_text (map (laid_entry in_lines) (zeros 80)))

-- what stands behind them, without so many bytes at the end
abbrev pub cut : ℕ → List ℕ → List ℕ
cut behind out = take (length out - behind - 566) (drop 566 out)

-- The text after the steps of a sequence of an array, in which these elements stand behind integers.
pub record IsTextBehindZeros (o : Options) (ws : List (Tree OneItem)) (out : List ℕ) : Type 0 where
  pub before : Tree (Rest Elements)
  pub after : Tree (Rest Elements)
  pub row : element_row ws ≡ Some before
  pub changed : Changes o (elements before) (elements after)
  pub valid : Valid (laid in_lines after)
  pub utf8 : IsUtf8 (text (laid in_lines after))
  pub is : out ≡ zeros_text ++ (text (laid in_lines after) ++ (93 ∷ 10 ∷ []))

-- The text of elements that others follow.
abbrev pub IsTextWithin : Options → List (Tree OneItem) → List ℕ → Type 0
IsTextWithin o ws out = (fs : Fronts) × InFront (Changes o) (separated ws) fs × AreValid (map (laid_entry in_lines) fs) × IsUtf8 out × (out ≡ entries_text (map (laid_entry in_lines) fs))

-- The text of the last elements, and the bracket behind them.
pub record IsTextAtEnd (o : Options) (ws : List (Tree OneItem)) (out : List ℕ) : Type 0 where
  pub before : Tree (Rest Elements)
  pub after : Tree (Rest Elements)
  pub row : element_row ws ≡ Some before
  pub changed : Changes o (elements before) (elements after)
  pub valid : Valid (laid in_lines after)
  pub utf8 : IsUtf8 out
  pub is : out ≡ text (laid in_lines after) ++ (93 ∷ [])

-- such a text is put behind another
abbrev pub Puts : (List ℕ → Type 0) → List ℕ → List ℕ → Type 0
Puts IsText old new = (out : List ℕ) × IsText out × (new ≡ old ++ out)

-- The text of a long array after the steps, as a line of its own has it.
pub record IsArrayText (o : Options) (w : Width) (n : ℕ) (ws : List (Tree OneItem)) (out : List ℕ) : Type 0 where
  pub before : Tree (Rest Elements)
  pub after : Tree (Rest Elements)
  pub row : element_row ws ≡ Some before
  pub changed : Changes o (elements before) (elements after)
  pub valid : Valid (laid (layout indented) (array_of (head_of_width w n) after))
  pub utf8 : IsUtf8 out
  pub is : out ≡ text (laid (layout indented) (array_of (head_of_width w n) after))

-- the same of the array that stands behind a head
abbrev pub IsArrayRead : Options → Width → ℕ → List ℕ → List ℕ → List ℕ → Type 0
IsArrayRead o w n bytes out rest = (ws : List (Tree OneItem)) × AreElementsOf (o.limit - 1) n bytes ws rest × IsArrayText o w n ws out

-- ---- what is in front of a sequence

-- what stands behind an array on lines: behind the last item of a sequence, and in front of another
abbrev pub behind_array : Bool → List ℕ
behind_array true = 10 ∷ []
behind_array false = 44 ∷ 10 ∷ []

-- The text of some elements, one at least where there are bytes: of all that is left, or in front of others.
pub record IsFrontText (o : Options) (bytes out rest : List ℕ) : Type 0 where
  pub items : List (Tree OneItem)
  pub read : AreRead o.limit bytes items rest
  pub all : length rest ≡ 0 → IsTextOf o items out
  pub some : 0 < length rest → IsTextInFront o items out
