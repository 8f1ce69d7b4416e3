-- Where a path leads among items, whatever the spaces between them.
use Rattle.std.specs.Prelude.{ℕ, suc, ◌+◌, ◌≡◌, ◌==◌, if◌then◌else◌, Bool, false, slice_get, List, [], ◌∷◌, ◌++◌, Option, Some, None, option_map}
use Rattle.cbor_edn_model.specs.internal.Same.{same_bytes}
use Rattle.cbor_edn_model.specs.cbor.Meaning.{means}
use Rattle.cbor_edn_model.specs.cbor.Value.{encoding}
use Rattle.cbor_edn_model.specs.layout.Bare.{bare}
use Rattle.cbor_edn_model.specs.text.Spelling.{SpellsOne}
use Rattle.cbor_edn_model.specs.tree.Items.{Sort, Item, Array, Map, Node, Number, Float, Listed, Tagged, Named, Simple, String, Stream, Literal, Ellipsis, Embedded, LastPiece, Plus, Element, Pair, Chunk, End, Then, Items}
use Rattle.cbor_edn_parts.specs.string.Literal.{double_quote}
use Rattle.cbor_edn_paths.specs.Steps as spec
use Rattle.cbor_edn_paths.specs.Steps.{Step}
use Rattle.cbor_edn_paths.specs.declared.step.Miss.{Miss}
use Rattle.cbor_edn_paths.specs.declared.step.Miss.TheVariants as miss

-- ---- what names a key

-- The encoding of an item without its encoding indicators, by which a path names it as a key; none where it means nothing.
abbrev pub key_bytes : Node Item → Option (List ℕ)
key_bytes x = option_map encoding (means (bare x))

-- The text of EDN for a key: a name and what stands between quotes are texts. So `.a`, `."a"` and `{"a"}` are one key.
abbrev pub edn_of : spec.Key → List ℕ
edn_of (spec.Name x) = double_quote ∷ (x ++ (double_quote ∷ []))
edn_of (spec.Quoted x) = double_quote ∷ (x ++ (double_quote ∷ []))
edn_of (spec.Braced x) = x

-- A key as it is written names the key with this encoding: `{0x10}` that of 16.
abbrev pub Names : spec.Key → List ℕ → Type 0
Names k bytes = (x : Node Item) × SpellsOne x (edn_of k) × (key_bytes x ≡ Some bytes)

-- Steps as they are written, and with the encodings that name their keys.
abbrev pub NamesStep : Step spec.Key → Step (List ℕ) → Type 0
NamesStep (spec.Value k o) (spec.Value bytes p) = Names k bytes × (o ≡ p)
NamesStep (spec.Element n) s = s ≡ spec.Element n
NamesStep spec.PastLast s = s ≡ spec.PastLast
NamesStep (spec.Content o) s = s ≡ spec.Content o
NamesStep (spec.Embedded n) s = s ≡ spec.Embedded n
NamesStep (spec.Value k o) s = ⊥

abbrev pub NamesSteps : List (Step spec.Key) → List (Step (List ℕ)) → Type 0
NamesSteps [] [] = Unit {0}
NamesSteps (s ∷ ss) (t ∷ ts) = NamesStep s t × NamesSteps ss ts
NamesSteps [] (t ∷ ts) = ⊥
NamesSteps (s ∷ ss) [] = ⊥

-- ---- one step

-- The items right below, in text order: elements, keys and values, the content of a tag, and the items of the sequences that are
-- embedded in a string. Nothing stands below `simple(..)`. Of any other part: the items in it that stand in no other item of it.
abbrev pub below : {s : Sort} → Node s → List (Node Item)
below (Number x p) = []
below (Float f p) = []
below (Listed k p m) = below m
below (Tagged n p w) = w ∷ []
below (Named b) = []
below (Simple w) = []
below (String w) = below w
below (Stream m) = below m
below (Literal x p) = []
below (Ellipsis x) = []
below (Embedded m p) = below m
below (LastPiece q) = below q
below (Plus q w) = below q ++ below w
below (Element w) = w ∷ []
below (Pair v w) = v ∷ w ∷ []
below (Chunk w) = below w
below End = []
below (Then e m) = below e ++ below m

-- The keys of a map with their values, in text order; of any other part: those in it that stand in no item of it.
abbrev pub pairs_in : {s : Sort} → Node s → List (Node Item × Node Item)
pairs_in (Listed k p m) = pairs_in m
pairs_in (Pair v w) = (v, w) ∷ []
pairs_in (Then e m) = pairs_in e ++ pairs_in m
pairs_in _ = []

abbrev pub are_bytes : List ℕ → Option (List ℕ) → Bool
are_bytes bs None = false
are_bytes bs (Some cs) = same_bytes cs bs

abbrev pub is_key : List ℕ → Node Item → Bool
is_key bs x = are_bytes bs (key_bytes x)

-- an item with its number among those right below
abbrev pub Place : Type 0
Place = ℕ × Node Item

-- The values whose keys have this encoding, where the first value of all has the number j.
abbrev pub values_at : List ℕ → ℕ → List (Node Item × Node Item) → List Place
values_at bs j [] = []
values_at bs j (p ∷ ps) = if is_key bs p.0 then (j, p.1) ∷ values_at bs (j + 2) ps else values_at bs (j + 2) ps

-- what one step answers: a place, or why there is none
pub data Stepped : Type 0 where
  To : Place → Stepped
  Missing : Miss → Stepped

abbrev pub place_or : Miss → Option Place → Stepped
place_or e None = Missing e
place_or e (Some p) = To p

abbrev pub item_or : Miss → List (Node Item) → ℕ → Stepped
item_or e xs n = place_or e (option_map (λ x. (n, x)) (slice_get xs n))

-- the value of the one such key, or of the occurrence that is named
abbrev pub value_of : List Place → Option ℕ → Stepped
value_of ps (Some n) = place_or miss.NoKey (slice_get ps n)
value_of [] None = Missing miss.NoKey
value_of (p ∷ []) None = To p
value_of (p ∷ q ∷ ps) None = Missing miss.SeveralKeys

-- any tag, or one of this number
abbrev pub is_tag : Option ℕ → ℕ → Node Item → Stepped
is_tag None m w = To (0, w)
is_tag (Some n) m w = if m == n then To (0, w) else Missing miss.OtherTag

abbrev pub stepped : Step (List ℕ) → Node Item → Stepped
stepped (spec.Value bs o) (Listed Map p m) = value_of (values_at bs 1 (pairs_in m)) o
stepped (spec.Value bs o) x = Missing miss.NotMap
stepped (spec.Element n) (Listed Array p m) = item_or miss.NoElement (below m) n
stepped (spec.Element n) x = Missing miss.NotArray
stepped spec.PastLast (Listed Array p m) = Missing miss.NoElement
stepped spec.PastLast x = Missing miss.NotArray
stepped (spec.Content o) (Tagged m p w) = is_tag o m w
stepped (spec.Content o) x = Missing miss.NotTag
stepped (spec.Embedded n) (String w) = item_or miss.NoEmbedded (below w) n
stepped (spec.Embedded n) (Stream m) = item_or miss.NoEmbedded (below m) n
stepped (spec.Embedded n) x = Missing miss.NotString

-- ---- a path

-- Where steps lead: to an item, with the numbers of the way; or how many steps are taken before one leads nowhere, and why.
pub data Found : Type 0 where
  At : List ℕ → Node Item → Found
  Missed : ℕ → Miss → Found

abbrev pub behind : ℕ → Found → Found
behind i (At path x) = At (i ∷ path) x
behind i (Missed n e) = Missed (suc n) e

-- on from the place that a step answers
abbrev pub onward : (Node Item → Found) → Stepped → Found
onward on (To p) = behind p.0 (on p.1)
onward on (Missing e) = Missed 0 e

abbrev pub found : List (Step (List ℕ)) → Node Item → Found
found [] x = At [] x
found (s ∷ steps) x = onward (found steps) (stepped s x)

-- where a path begins: at an item of a sequence, or at the one that there is
abbrev pub begun : Option ℕ → Items → Stepped
begun None (Then (Element x) End) = To (0, x)
begun None xs = Missing miss.NotLone
begun (Some n) xs = item_or miss.NoItem (below xs) n

-- Where a path leads in a sequence. Its start counts as a step. It is a function: so a path leads to one item at most, and misses in one way.
abbrev pub found_in : Option ℕ → List (Step (List ℕ)) → Items → Found
found_in start steps xs = onward (found steps) (begun start xs)
