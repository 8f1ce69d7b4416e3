-- Space texts, built from blanks, comments and commas.
use Rattle.std.specs.Prelude.{ℕ, List, [], ◌∷◌, ◌++◌, ◌≡◌, ◌≢◌, ◌≤◌, ◌<◌, ◌⊎◌, All}

-- HT, LF, CR or a space
abbrev pub IsBlank : ℕ → Type 0
IsBlank c = (c ≡ 9) ⊎ (c ≡ 10) ⊎ (c ≡ 13) ⊎ (c ≡ 32)

-- a byte of a character from U+0020 upward
abbrev pub IsPrintable : ℕ → Type 0
IsPrintable c = (32 ≤ c) × (c < 256)

-- what may stand between slashes: HT, LF, CR, or U+0020 upward but the slash
abbrev pub InSlashes : ℕ → Type 0
InSlashes c = (c ≢ 47) × (IsBlank c ⊎ IsPrintable c)

-- what may stand between `#` and LF: HT, CR, or U+0020 upward
abbrev pub InHash : ℕ → Type 0
InHash c = (c ≡ 9) ⊎ (c ≡ 13) ⊎ IsPrintable c

-- comment = "/" .. "/" / "#" .. LF
pub data IsComment : List ℕ → Type 0 where
  slashes : (x : List ℕ) → All InSlashes x → IsComment (47 ∷ (x ++ (47 ∷ [])))
  hash : (x : List ℕ) → All InHash x → IsComment (35 ∷ (x ++ (10 ∷ [])))

-- S = *blank *(comment *blank), as ` /a/ ` or the empty text
pub data IsSpace : List ℕ → Type 0 where
  empty : IsSpace []
  blank : {c : ℕ} {x : List ℕ} → IsBlank c → IsSpace x → IsSpace (c ∷ x)
  comment : {b x : List ℕ} → IsComment b → IsSpace x → IsSpace (b ++ x)

-- MS = (blank / comment) S
abbrev pub IsMandatorySpace : List ℕ → Type 0
IsMandatorySpace t = IsSpace t × (t ≢ [])

-- SOC = S ["," S], as ` , /a/`
pub data IsListEnd : List ℕ → Type 0 where
  space : {x : List ℕ} → IsSpace x → IsListEnd x
  comma : {x y : List ℕ} → IsSpace x → IsSpace y → IsListEnd (x ++ (44 ∷ y))

-- MSC = "," S / MS ["," S], as `,` and ` # a` LF
pub data IsSeparator : List ℕ → Type 0 where
  comma_first : {y : List ℕ} → IsSpace y → IsSeparator (44 ∷ y)
  space_alone : {x : List ℕ} → IsMandatorySpace x → IsSeparator x
  space_comma : {x y : List ℕ} → IsMandatorySpace x → IsSpace y → IsSeparator (x ++ (44 ∷ y))
