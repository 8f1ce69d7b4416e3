-- Where a character stands in a text of items, and how a text is written character by character.
use Rattle.std.specs.Prelude.{ℕ, ◌==◌, ◌||◌, if◌then◌else◌, List, [], ◌∷◌, ◌++◌}
use Rattle.cbor_edn_harmless.specs.declared.Place.{Place}
use Rattle.cbor_edn_harmless.specs.declared.Place.TheVariants.{Outside, InSlashes, InHash, InQuotes, Escaped}
use Rattle.cbor_edn_harmless.specs.Harmless.{in_space, in_quotes}

-- where the next character stands
abbrev pub after : Place → ℕ → Place
after Outside c = if c == 47 then InSlashes else if c == 35 then InHash else if c == 34 || c == 39 then InQuotes c else Outside
after InSlashes c = if c == 47 then Outside else InSlashes
after InHash c = if c == 10 then Outside else InHash
after (InQuotes q) c = if c == q then Outside else if c == 92 then Escaped q else InQuotes q
after (Escaped q) c = InQuotes q

-- what is written of a character that stands there
abbrev pub written : Place → ℕ → List ℕ
written (InQuotes q) c = in_quotes c
written (Escaped q) c = in_quotes c
written _ c = in_space c

-- what is written of characters, where the first stands there
unfoldable pub rewritten : Place → List ℕ → List ℕ
rewritten p [] = []
rewritten p (c ∷ cs) = written p c ++ rewritten (after p c) cs

-- where the next character stands, behind these
unfoldable pub passed : Place → List ℕ → Place
passed p [] = p
passed p (c ∷ cs) = passed (after p c) cs
