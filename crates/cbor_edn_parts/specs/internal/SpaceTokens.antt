-- Space texts as automata.
use Rattle.std.specs.Prelude.{ℕ, Bool, true, false, not, List, [], ◌∷◌, ◌&&◌, Option, Some, None}
use Rattle.cbor_edn_parts.specs.base.Bytes.{Kind, kind, Blank, Tab, Lf, Control, Slash, Hash, Comma}
use Rattle.cbor_edn_parts.specs.internal.Lex.{Automaton, is_token}
use Rattle.cbor_edn_parts.specs.declared.space.SpaceState.{SpaceState}
use Rattle.cbor_edn_parts.specs.declared.space.SpaceState.TheVariants.{Between, InSlashes, InHash}

abbrev pub space_step : Kind → SpaceState → Option SpaceState
space_step Blank m = Some m
space_step Tab m = Some m
space_step Lf InHash = Some Between
space_step Lf m = Some m
space_step Control m = None
space_step Slash Between = Some InSlashes
space_step Slash InSlashes = Some Between
space_step Slash InHash = Some InHash
space_step Hash Between = Some InHash
space_step Hash m = Some m
space_step _ Between = None
space_step _ m = Some m

abbrev pub space_final : SpaceState → Bool
space_final Between = true
space_final _ = false

-- S
abbrev pub space : Automaton SpaceState
space = record { step = λ c. space_step (kind c); final = space_final; start = Between }

-- where a separator stands: in front of its comma, or behind it
pub data SeparatorState : Type 0 where
  Before : SpaceState → SeparatorState
  After : SpaceState → SeparatorState

abbrev pub before : Option SpaceState → Option SeparatorState
before None = None
before (Some m) = Some (Before m)

abbrev pub after : Option SpaceState → Option SeparatorState
after None = None
after (Some m) = Some (After m)

abbrev pub separator_step : Kind → SeparatorState → Option SeparatorState
separator_step Comma (Before Between) = Some (After Between)
separator_step k (Before m) = before (space_step k m)
separator_step k (After m) = after (space_step k m)

abbrev pub separator_final : SeparatorState → Bool
separator_final (Before m) = space_final m
separator_final (After m) = space_final m

-- SOC, and MSC where it is not empty
abbrev pub separator : Automaton SeparatorState
separator = record { step = λ c. separator_step (kind c); final = separator_final; start = Before Between }

abbrev pub is_empty : List ℕ → Bool
is_empty [] = true
is_empty (c ∷ x) = false

-- the tests of the kinds of space text
abbrev pub is_space : List ℕ → Bool
is_space t = is_token space t

abbrev pub is_mandatory_space : List ℕ → Bool
is_mandatory_space t = not (is_empty t) && is_token space t

abbrev pub is_list_end : List ℕ → Bool
is_list_end t = is_token separator t

abbrev pub is_separator : List ℕ → Bool
is_separator t = not (is_empty t) && is_token separator t
