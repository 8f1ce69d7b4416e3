-- The comments of a space text, and its comma.
use Rattle.std.specs.Prelude.{ℕ, List, [], ◌∷◌, ◌++◌, ◌≡◌, ◌⊎◌, ◌↔◌, All}
use Rattle.cbor_edn_parts.specs.space.Space.{IsBlank, IsComment, IsSpace}
use Rattle.cbor_edn_parts.specs.internal.CommentReading.{comments_of, before_comma, after_comma}

abbrev pub BeginsWithComment : List ℕ → Type 0
BeginsWithComment t = (c s : List ℕ) × IsComment c × IsSpace s × (t ≡ c ++ s)

abbrev pub EndsWithComment : List ℕ → Type 0
EndsWithComment t = (s c : List ℕ) × IsSpace s × IsComment c × (t ≡ s ++ c)

-- no blank at either end: it is empty, or begins with a comment and ends with one
abbrev pub IsTrimmed : List ℕ → Type 0
IsTrimmed t = (t ≡ []) ⊎ (BeginsWithComment t × EndsWithComment t)

-- t is the part of the space text x from its first comment to the end of its last, and empty where x has no comment: of ` /a/  # b` LF LF
-- it is `/a/  # b` LF, since the line feed behind `#` is part of the comment.
pub record IsCommentsOf (x t : List ℕ) : Type 0 where
  pub front : List ℕ
  pub back : List ℕ
  pub front_blank : All IsBlank front
  pub back_blank : All IsBlank back
  pub trimmed : IsTrimmed t
  pub whole : x ≡ front ++ (t ++ back)

-- ---- laws of what `internal/CommentReading.antt` computes

-- The comments of a space text are the one part that the set names.
abbrev pub OneCommentsOf : List ℕ → Type 0
OneCommentsOf x = IsSpace x → (t : List ℕ) → IsCommentsOf x t ↔ (t ≡ comments_of x)

-- A separator is cut at its comma: where x and y are space texts, `x,y` into x and y, and x alone into x and nothing.
pub record CutAtComma (x y : List ℕ) : Type 0 where
  pub front : IsSpace x → before_comma (x ++ (44 ∷ y)) ≡ x
  pub back : IsSpace x → after_comma (x ++ (44 ∷ y)) ≡ y
  pub alone : IsSpace x → before_comma x ≡ x
  pub nothing : IsSpace x → after_comma x ≡ []
