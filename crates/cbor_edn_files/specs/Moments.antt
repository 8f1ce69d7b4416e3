-- What files have from moment to moment.
use Rattle.std.specs.Prelude.{◌≡◌, ◌≢◌, ◌⊎◌, ◌<◌, ℕ, List, [], ◌∷◌, ◌++◌, length, nat_lt, if◌then◌else◌, codes, string_bytes, Option, Some, None, IfSome, Result, Err}
use Rattle.std.specs.Fmt.{decimal}
use Rattle.std.specs.List.{AllByRecursion}
use Rattle.std.specs.Path.{rsplit_once}
use Rattle.cbor_edn_files.specs.declared.disk.MakeError.{MakeError}
use Rattle.cbor_edn_files.specs.declared.disk.MakeError.TheVariants.{Taken, Refused, Failed}
use Rattle.cbor_edn_files.specs.declared.replace.DraftError.{DraftError}
use Rattle.cbor_edn_files.specs.declared.replace.DraftError.TheVariants as drafts
use Rattle.cbor_edn_files.specs.declared.replace.ReplaceError.{ReplaceError}
use Rattle.cbor_edn_files.specs.declared.replace.ReplaceError.TheVariants.{Left}

-- what each name has: the bytes of its file, or none
abbrev pub State : Type 0
State = List ℕ → Option (List ℕ)

-- the last of moments, the newest first
abbrev pub newest : List State → State
newest [] = λ _. None
newest (s ∷ _) = s

-- Moments come, at each of which P holds of the state before and the state then. Where nothing is known before, nothing is known after.
abbrev pub After : (State → State → Type 0) → Option (List State) → Option (List State) → Type 0
After P None new = new ≡ None
After P (Some old) new = (passed : List State) × (new ≡ Some (passed ++ old)) × AllByRecursion (P (newest old)) passed

-- each other name has what it had
abbrev pub IsSameBut : List ℕ → State → State → Type 0
IsSameBut name s t = (other : List ℕ) → other ≢ name → t other ≡ s other

-- each name has what it had
abbrev pub IsSame : State → State → Type 0
IsSame s t = (name : List ℕ) → t name ≡ s name

-- one name has what another one had, which has nothing now
pub record IsRenamed (from to : List ℕ) (s t : State) : Type 0 where
  pub there : t to ≡ s from
  pub gone : from ≢ to → t from ≡ None
  pub same : (other : List ℕ) → other ≢ from → other ≢ to → t other ≡ s other

-- at a moment of a renaming: before it or behind it
abbrev pub IsMoved : List ℕ → List ℕ → State → State → Type 0
IsMoved from to s t = IsSame s t ⊎ IsRenamed from to s t

-- what a name has at the last moment
abbrev pub Holds : Option (List State) → List ℕ → Option (List ℕ) → Type 0
Holds moments name bytes = IfSome moments (λ ss. newest ss name ≡ bytes)

-- P holds of the last moments before and after. Where nothing is known before, nothing is known after.
abbrev pub Ends : (State → State → Type 0) → Option (List State) → Option (List State) → Type 0
Ends P None new = new ≡ None
Ends P (Some old) new = (later : List State) × (new ≡ Some later) × P (newest old) (newest later)

abbrev pub EndsMoved : List ℕ → List ℕ → Option (List State) → Option (List State) → Type 0
EndsMoved from to = Ends (IsRenamed from to)

abbrev pub EndsSame : Option (List State) → Option (List State) → Type 0
EndsSame = Ends IsSame

-- this name had nothing, and each other one has what it had
abbrev pub IsSameButNew : List ℕ → State → State → Type 0
IsSameButNew name s t = (s name ≡ None) × IsSameBut name s t

abbrev pub EndsSameButNew : List ℕ → Option (List State) → Option (List State) → Type 0
EndsSameButNew name = Ends (IsSameButNew name)

-- At a moment of a replacement: the file has what it had or the new bytes, and each other name what it had, but for a draft's that had nothing.
pub record IsOldOrNew (name bytes draft : List ℕ) (s t : State) : Type 0 where
  pub file : (t name ≡ s name) ⊎ (t name ≡ Some bytes)
  pub draft_was_free : (t draft ≡ s draft) ⊎ (s draft ≡ None)
  pub others : (other : List ℕ) → other ≢ name → other ≢ draft → t other ≡ s other

-- The file has the new bytes, and each other name what it had.
pub record IsReplaced (name bytes : List ℕ) (s t : State) : Type 0 where
  pub there : t name ≡ Some bytes
  pub same : (other : List ℕ) → other ≢ name → t other ≡ s other

abbrev pub EndsReplaced : List ℕ → List ℕ → Option (List State) → Option (List State) → Type 0
EndsReplaced name bytes = Ends (IsReplaced name bytes)

-- what a draft's name begins with: the path of its file, but for a name in its folder that is too long to have a draft's length more
abbrev pub draft_stem : List ℕ → Option (List ℕ × List ℕ) → List ℕ
draft_stem path None = if nat_lt 120 (length path) then codes "long-name" else path
draft_stem path (Some (folder, name)) = if nat_lt 120 (length name) then folder ++ codes "/long-name" else path

-- the draft of this number beside a file
abbrev pub draft_of : List ℕ → ℕ → List ℕ
draft_of path number = draft_stem path (rsplit_once 47 path) ++ (codes ".cbor-edn-" ++ decimal number)

-- one of the drafts that a file may have
abbrev pub IsDraftOf : List ℕ → List ℕ → Type 0
IsDraftOf path draft = (number : ℕ) × (number < 1000) × (draft ≡ draft_of path number)

-- P, where a file was not made for one of these reasons
abbrev pub IfTaken : {A : Type 0} → Result A MakeError → Type 0 → Type 0
IfTaken (Err Taken) P = P
IfTaken _ P = Unit {0}

abbrev pub IfRefused : {A : Type 0} → Result A MakeError → Type 0 → Type 0
IfRefused (Err (Refused e)) P = P
IfRefused _ P = Unit {0}

abbrev pub IfFailed : {A : Type 0} → Result A MakeError → Type 0 → Type 0
IfFailed (Err (Failed e)) P = P
IfFailed _ P = Unit {0}

-- P, where a draft did not take a file's place for one of these reasons
abbrev pub IfDraftTaken : DraftError → Type 0 → Type 0
IfDraftTaken drafts.Taken P = P
IfDraftTaken _ P = Unit {0}

abbrev pub IfGone : DraftError → Type 0 → Type 0
IfGone (drafts.Gone e) P = P
IfGone _ P = Unit {0}

abbrev pub IfLeft : DraftError → Type 0 → Type 0
IfLeft (drafts.Left e) P = P
IfLeft _ P = Unit {0}

-- each name has what it had, but for a draft that the error names, where nothing was
abbrev pub EndsSameButLeft : List ℕ → ReplaceError → Option (List State) → Option (List State) → Type 0
EndsSameButLeft name (Left e draft) m n = IsDraftOf name (string_bytes draft) × (string_bytes draft ≢ name) × EndsSameButNew (string_bytes draft) m n
EndsSameButLeft name _ m n = EndsSame m n
