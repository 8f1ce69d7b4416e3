-- Changes of what names have, and the moments that they make.
use Rattle.std.specs.Prelude.{◌≡◌, ℕ, List, [], ◌∷◌, ◌++◌, string_bytes, Option, Some, None, if◌then◌else◌}
use Rattle.std.specs.Str.{bytes_eq}
use Rattle.cbor_edn_files.specs.Moments.{State, newest}
use Rattle.cbor_edn_files_tests.specs.declared.memory.Change.{Change}
use Rattle.cbor_edn_files_tests.specs.declared.memory.Change.TheVariants.{Made, Renamed, Removed}

abbrev pub with_file : List ℕ → Option (List ℕ) → State → State
with_file name bytes s = λ other. if bytes_eq other name then bytes else s other

-- what names have behind a change
abbrev pub changed : Change → State → State
changed (Made name bytes) s = with_file (string_bytes name) (Some bytes.items) s
changed (Renamed from to) s = with_file (string_bytes to) (s (string_bytes from)) (with_file (string_bytes from) None s)
changed (Removed name) s = with_file (string_bytes name) None s

-- the moments behind changes, on others, the newest first
abbrev pub moments_on : List State → List Change → List State
moments_on ss [] = ss
moments_on ss (c ∷ cs) = moments_on (changed c (newest ss) ∷ ss) cs

-- the moments of changes, before which there are no files
abbrev pub moments_of : List Change → List State
moments_of = moments_on ((λ _. None) ∷ [])

-- the change makes a file, gives it another name, or removes it
abbrev pub IsMaking : List ℕ → List ℕ → Change → Type 0
IsMaking name bytes (Made n b) = (string_bytes n ≡ name) × (b.items ≡ bytes)
IsMaking name bytes _ = ⊥

abbrev pub IsRenaming : List ℕ → List ℕ → Change → Type 0
IsRenaming from to (Renamed f t) = (string_bytes f ≡ from) × (string_bytes t ≡ to)
IsRenaming from to _ = ⊥

abbrev pub IsRemoval : List ℕ → Change → Type 0
IsRemoval name (Removed n) = string_bytes n ≡ name
IsRemoval name _ = ⊥

-- one change more, which is P
abbrev pub IsOneMore : (Change → Type 0) → List Change → List Change → Type 0
IsOneMore P old new = (c : Change) × P c × (new ≡ old ++ (c ∷ []))
