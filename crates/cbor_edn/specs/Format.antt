-- What `fmt` makes of a text.
use Rattle.std.specs.Prelude.{◌≡◌, ◌==◌, ◌-◌, ◌++◌, ◌∷◌, [], ℕ, List, Bool, true, if◌then◌else◌, length, slice_get}
use Rattle.std.specs.Option.{option_map_or}
use Rattle.cbor_edn_model.specs.tree.Trees.{Tree, Seq, items}
use Rattle.cbor_edn_command.specs.FileOptions.{format_steps}
use Rattle.cbor_edn_command.specs.declared.file_options.FormatOptions.{FormatOptions}
use Rattle.cbor_edn.specs.Runs.{IsOutput, IsReadAs, IsRefused}
use Rattle.cbor_edn.specs.declared.engine.RunError.{RunError}

-- a line feed is the last byte, or there is none
abbrev pub is_ended : List ℕ → Bool
is_ended text = option_map_or (λ b. b == 10) (slice_get text (length text - 1)) true

-- a text with a line feed at its end
abbrev pub ended : List ℕ → List ℕ
ended text = if is_ended text then text else text ++ (10 ∷ [])

-- What is written of a text: what `diag2diag` writes with the spaces of the indented layout, where it changes no item, and a line feed at
-- the end where there is none.
abbrev pub IsFormatted : FormatOptions → List ℕ → List ℕ → Type 0
IsFormatted f input out = (text : List ℕ) × IsOutput (format_steps f) input text × (out ≡ ended text)

-- Why nothing is written of it: for what `diag2diag` refuses, and nothing else.
abbrev pub IsUnformatted : FormatOptions → List ℕ → RunError → Type 0
IsUnformatted f = IsRefused (format_steps f)

-- ---- laws, as contracts name them

-- A text is formatted in one way,
abbrev pub FormattedOnce : Type 0
FormattedOnce = (f : FormatOptions) (input a b : List ℕ) → IsFormatted f input a → IsFormatted f input b → a ≡ b

-- and what is written is read, at the same limit, as the same items.
abbrev pub FormatsSameItems : Type 0
FormatsSameItems = (f : FormatOptions) (input out : List ℕ) → IsFormatted f input out
    → (w v : Tree Seq) × IsReadAs f.limit input w × IsReadAs f.limit out v × (items v ≡ items w)
