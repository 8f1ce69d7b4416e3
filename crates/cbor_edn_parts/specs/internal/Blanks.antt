-- What stands between comments, and what begins one.
use Rattle.std.specs.Prelude.{ℕ, Bool, false, eqb, ◌||◌, Option, Some, None}
use Rattle.cbor_edn_parts.specs.internal.CommentReading.{is_blank}

abbrev pub begins_comment : ℕ → Bool
begins_comment c = eqb c 47 || eqb c 35

-- whether a blank, or what begins a comment, is there
abbrev pub is_blank_at : Option ℕ → Bool
is_blank_at None = false
is_blank_at (Some c) = is_blank c

abbrev pub begins_comment_at : Option ℕ → Bool
begins_comment_at None = false
begins_comment_at (Some c) = begins_comment c
