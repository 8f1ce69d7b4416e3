-- Paths, apart from how they are written.
use Rattle.std.specs.Prelude.{ℕ, List, Option}

-- A key as it is written: the name, what stands between the quotes, or between the braces.
pub data Key : Type 0 where
  -- .port
  Name : List ℕ → Key
  -- ."a b"
  Quoted : List ℕ → Key
  -- {4}
  Braced : List ℕ → Key

-- A step to an item right below another, where keys are of the type K: as they are written, or the encodings that name them.
pub data Step (K : Type 0) : Type 0 where
  -- the value of a key, or of that occurrence of it, from 0: .a and .a~1
  Value : K → Option ℕ → Step K
  -- an element, from 0: [2]
  Element : ℕ → Step K
  -- behind the last element: [+]
  PastLast : Step K
  -- the content of a tag, or of one with this number: () and (18)
  Content : Option ℕ → Step K
  -- an item embedded in a string, from 0: <0>
  Embedded : ℕ → Step K

-- A path as it is written: the item of a sequence where it begins, from 0, or none where there is one item alone; and its steps.
pub record Path : Type 0 where
  pub start : Option ℕ
  pub steps : List (Step Key)
