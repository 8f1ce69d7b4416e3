-- What an answer to a whole text says of it: of sequences with `SpellsSequence`, of standalone items with `SpellsOne`.
use Rattle.std.specs.Prelude.{ℕ, List, ◌≡◌, ◌≤◌, ◌<◌}
use Rattle.cbor_edn_parts.specs.declared.base.error.ParseError.{ParseError}
use Rattle.cbor_edn_parts.specs.declared.base.error.ParseErrorKind.TheVariants as kind
use Rattle.cbor_edn_parts.specs.base.Errors.{error_kind, error_offset, error_line, error_column}
use Rattle.cbor_edn_parts.specs.base.Location.{IsLocation}
use Rattle.cbor_edn_model.specs.tree.Items.{Sort, Node, nesting}
use Rattle.cbor_edn_model.specs.text.Openings.{openings}

module _ {s : Sort} (Spelled : Node s → List ℕ → Type 0) where
  -- Accepted with these items: the text spells them, and they nest at most `limit` deep.
  pub record IsAccepted (limit : ℕ) (text : List ℕ) (x : Node s) : Type 0 where
    pub spelled : Spelled x text
    pub within : nesting x ≤ limit

  -- Refused as invalid: the text spells nothing.
  abbrev pub IsInvalid : List ℕ → Type 0
  IsInvalid text = (x : Node s) → Spelled x text → ⊥

  -- Refused as too deep: what the text spells, if anything, nests deeper than `limit`, and it has more openings.
  pub record IsTooDeep (limit : ℕ) (text : List ℕ) : Type 0 where
    pub deeper : (x : Node s) → Spelled x text → limit < nesting x
    pub opened : limit < openings text

  -- What a refusal says of the text, and the location that it names.
  pub record Unparsed (limit : ℕ) (text : List ℕ) (e : ParseError) : Type 0 where
    pub invalid : error_kind e ≡ kind.Invalid → IsInvalid text
    pub too_deep : error_kind e ≡ kind.TooDeep → IsTooDeep limit text
    pub place : IsLocation text (error_offset e) (error_line e) (error_column e)
