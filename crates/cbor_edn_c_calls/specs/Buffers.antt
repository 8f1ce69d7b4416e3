-- What is written into a caller's room, of which old is what it held and new what it holds.
use Rattle.std.specs.Prelude.{◌≡◌, ℕ, ◌<◌, ◌≤◌, ◌++◌, List, drop, length, take}

-- As many bytes as fit stand in front of what was there.
abbrev pub IsPutFront : List ℕ → List ℕ → List ℕ → Type 0
IsPutFront bytes old new = new ≡ take (length old) bytes ++ drop (length bytes) old

-- All bytes stand in front of what was there.
abbrev pub IsPutWhole : List ℕ → List ℕ → List ℕ → Type 0
IsPutWhole bytes old new = (length bytes ≤ length old) × (new ≡ bytes ++ drop (length bytes) old)

-- The bytes are more than fit, and nothing is written.
abbrev pub HasNoRoom : List ℕ → List ℕ → List ℕ → Type 0
HasNoRoom bytes old new = (length old < length bytes) × (new ≡ old)
