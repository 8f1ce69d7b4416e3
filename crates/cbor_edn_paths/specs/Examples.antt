-- Small examples: which keys are one, and where paths lead.
use Rattle.std.specs.Prelude.{◌≡◌, ℕ, codes, List, [], ◌∷◌, Some, None, true, false}
use Rattle.cbor_edn_parts.specs.declared.base.indicator.Indicator.TheVariants as indicator
use Rattle.cbor_edn_model.specs.tree.Items as kind
use Rattle.cbor_edn_model.specs.tree.Items.{Item, Items, Entries, Array, Map, Node, Number, Listed, Tagged, String, Literal, Embedded, LastPiece, Plus, Element, Pair, End, Then}
use Rattle.cbor_edn_paths.specs.Steps as step
use Rattle.cbor_edn_paths.specs.Found.{is_key, key_bytes, found, found_in, At, Missed}
use Rattle.cbor_edn_paths.specs.declared.step.Miss.TheVariants as miss

abbrev pub number : List ℕ → Node Item
number x = Number x None

abbrev pub literal : List ℕ → Node Item
literal x = String (LastPiece (Literal x None))

-- A key is named by what it means, however it is spelled.
pub record NamesKeysByValue : Type 0 where
  pub hexadecimal : is_key (16 ∷ []) (number (codes "0x10")) ≡ true
  pub wide : is_key (1 ∷ []) (Number (codes "1") (Some indicator.Two)) ≡ true
  pub digits : is_key (65 ∷ 1 ∷ []) (literal (codes "h'0 1'")) ≡ true
  pub base : is_key (65 ∷ 1 ∷ []) (literal (codes "b64'AQ'")) ≡ true
  pub joined : is_key (66 ∷ 1 ∷ 2 ∷ []) (String (Plus (Literal (codes "h'01'") None) (LastPiece (Literal (codes "h'02'") None)))) ≡ true
  -- a byte string is no text
  pub other_kind : is_key (97 ∷ 97 ∷ []) (literal (codes "h'61'")) ≡ false
  -- a number without an encoding is no key that a path names
  pub fraction : key_bytes (number (codes "1.5")) ≡ None

abbrev pub pairs : List (Node Item × Node Item) → Node (Entries kind.Pairs)
pairs [] = End
pairs (p ∷ ps) = Then (Pair p.0 p.1) (pairs ps)

abbrev pub elements : List (Node Item) → Items
elements [] = End
elements (x ∷ xs) = Then (Element x) (elements xs)

-- {h'61': [7, 18(8)], 0x10: <<9>>, 2: 1, 2_1: 3}
abbrev pub example : Node Item
example =
    Listed Map None (pairs (
    (literal (codes "h'61'"), Listed Array None (elements (number (codes "7") ∷ Tagged 18 None (number (codes "8")) ∷ [])))
    ∷ (number (codes "0x10"), String (LastPiece (Embedded (elements (number (codes "9") ∷ [])) None)))
    ∷ (number (codes "2"), number (codes "1"))
    ∷ (Number (codes "2") (Some indicator.Two), number (codes "3"))
    ∷ []))

-- the steps {h'61'}, {16}, {2} and {3}
abbrev pub by_bytes : step.Step (List ℕ)
by_bytes = step.Value (65 ∷ 97 ∷ []) None

abbrev pub by_sixteen : step.Step (List ℕ)
by_sixteen = step.Value (16 ∷ []) None

abbrev pub by_two : step.Step (List ℕ)
by_two = step.Value (2 ∷ []) None

abbrev pub by_three : step.Step (List ℕ)
by_three = step.Value (3 ∷ []) None

-- Where paths of each form lead in the example, and where they don't.
pub record LeadsSo : Type 0 where
  pub itself : found [] example ≡ At [] example
  -- {h'61'}[0], {h'61'}[1](18) and {h'61'}[1]()
  pub element : found (by_bytes ∷ step.Element 0 ∷ []) example ≡ At (1 ∷ 0 ∷ []) (number (codes "7"))
  pub tag : found (by_bytes ∷ step.Element 1 ∷ step.Content (Some 18) ∷ []) example ≡ At (1 ∷ 1 ∷ 0 ∷ []) (number (codes "8"))
  pub any_tag : found (by_bytes ∷ step.Element 1 ∷ step.Content None ∷ []) example ≡ At (1 ∷ 1 ∷ 0 ∷ []) (number (codes "8"))
  -- {16}<0>
  pub embedded : found (by_sixteen ∷ step.Embedded 0 ∷ []) example ≡ At (3 ∷ 0 ∷ []) (number (codes "9"))
  -- {2}~0 and {2}~1
  pub first : found (step.Value (2 ∷ []) (Some 0) ∷ []) example ≡ At (5 ∷ []) (number (codes "1"))
  pub second : found (step.Value (2 ∷ []) (Some 1) ∷ []) example ≡ At (7 ∷ []) (number (codes "3"))
  -- ., @0 and @1 where the example stands alone, and . in an empty text and where it stands twice
  pub lone : found_in None [] (elements (example ∷ [])) ≡ At (0 ∷ []) example
  pub numbered : found_in (Some 0) [] (elements (example ∷ [])) ≡ At (0 ∷ []) example
  pub no_item : found_in (Some 1) [] (elements (example ∷ [])) ≡ Missed 0 miss.NoItem
  pub nothing : found_in None [] End ≡ Missed 0 miss.NotLone
  pub not_lone : found_in None [] (elements (example ∷ example ∷ [])) ≡ Missed 0 miss.NotLone
  -- [0] and <0> at a map, {16} at an array, () at a number
  pub not_array : found (step.Element 0 ∷ []) example ≡ Missed 0 miss.NotArray
  pub not_string : found (step.Embedded 0 ∷ []) example ≡ Missed 0 miss.NotString
  pub not_map : found (by_bytes ∷ by_sixteen ∷ []) example ≡ Missed 1 miss.NotMap
  pub not_tag : found (by_bytes ∷ step.Element 0 ∷ step.Content None ∷ []) example ≡ Missed 2 miss.NotTag
  -- {h'61'}[2], {h'61'}[+], {h'61'}[1](17), {16}<1>
  pub no_element : found (by_bytes ∷ step.Element 2 ∷ []) example ≡ Missed 1 miss.NoElement
  pub past_last : found (by_bytes ∷ step.PastLast ∷ []) example ≡ Missed 1 miss.NoElement
  pub other_tag : found (by_bytes ∷ step.Element 1 ∷ step.Content (Some 17) ∷ []) example ≡ Missed 2 miss.OtherTag
  pub no_embedded : found (by_sixteen ∷ step.Embedded 1 ∷ []) example ≡ Missed 1 miss.NoEmbedded
  -- {2}, which stands twice, {2}~2, and {3}, which doesn't stand there
  pub several : found (by_two ∷ []) example ≡ Missed 0 miss.SeveralKeys
  pub no_third : found (step.Value (2 ∷ []) (Some 2) ∷ []) example ≡ Missed 0 miss.NoKey
  pub no_key : found (by_three ∷ []) example ≡ Missed 0 miss.NoKey
