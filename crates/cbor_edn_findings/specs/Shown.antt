-- The lines that tell of a finding.
use Rattle.std.specs.Prelude.{◌≡◌, ℕ, List, [], ◌∷◌, ◌++◌, codes, replicate, string_bytes}
use Rattle.std.specs.Str.{chars}
use Rattle.std.specs.Fmt.{decimal}
use Rattle.cbor_edn_terminal.specs.Terminal.{shown_text}
use Rattle.cbor_edn_findings.specs.declared.finding.Finding.{Finding}
use Rattle.cbor_edn_findings.specs.declared.finding.Finding.TheVariants.{InText, InBytes, Nowhere}

-- some characters, as they are told
abbrev pub AreShown : List ℕ → Type 0
AreShown told = (cs : List ℕ) × (told ≡ shown_text cs)

-- a line of characters as they are told, and a caret in the next one
abbrev pub IsMarked : List ℕ → Type 0
IsMarked marked = (near : List ℕ) × (n : ℕ) × AreShown near × (marked ≡ near ++ (10 ∷ (replicate n 32 ++ (94 ∷ 10 ∷ []))))

-- what stands between a name and the words, and behind them
abbrev pub IsTold : List ℕ → Finding → List ℕ → Type 0
IsTold name (InText words offset line column) told =
    (marked : List ℕ) × IsMarked marked
    × (told ≡ name ++ (codes ":" ++ (decimal line ++ (codes ":" ++ (decimal column ++ (codes ": " ++ (shown_text (chars (string_bytes words)) ++ (10 ∷ marked))))))))
IsTold name (InBytes words offset) told = told ≡ name ++ (codes ": " ++ (shown_text (chars (string_bytes words)) ++ (codes " (byte " ++ (decimal offset ++ (codes ")" ++ (10 ∷ []))))))
IsTold name (Nowhere words) told = told ≡ name ++ (codes ": " ++ (shown_text (chars (string_bytes words)) ++ (10 ∷ [])))
