-- The grammar of paths, as `.`, `.server.port`, `@1{4}~1[0]`.
--   path   = "." / start / [start] 1*step
--   start  = "@" index
--   step   = key ["~" index] / "[" index "]" / "[+]" / "(" [index] ")" / "<" index ">"
--   key    = "." name / "." DQUOTE between DQUOTE / "{" inside "}"
--   name   = 1*(ALPHA / DIGIT / "_" / "-" / %x80-10FFFF)
--   index  = "0" / %x31-39 *DIGIT, below 2^64
-- What a key means, EDN says: that what stands between quotes or braces is an item is no matter of this grammar, but where it ends is.
use Rattle.std.specs.Prelude.{ℕ, ◌≡◌, ◌≢◌, ◌<◌, ◌^◌, ◌==◌, ◌||◌, ◌&&◌, not, nat_le, Bool, true, false, if◌then◌else◌, List, [], ◌∷◌, ◌++◌, Option, Some, None}
use Rattle.std.specs.List.{list_all}
use Rattle.std.specs.Fmt.{decimal}
use Rattle.cbor_edn_parts.specs.string.Literal.{single_quote, double_quote, backslash}
use Rattle.cbor_edn_paths.specs.Steps.{Key, Name, Quoted, Braced, Step, Value, Element, PastLast, Content, Embedded, Path}

-- ---- what may stand where

-- a letter, a digit, `_`, `-`, or a byte of a character from U+0080 on
abbrev pub is_name_byte : ℕ → Bool
is_name_byte c =
    (nat_le 97 c && nat_le c 122) || ((nat_le 65 c && nat_le c 90) || ((nat_le 48 c && nat_le c 57) || (c == 95 || (c == 45 || nat_le 128 c))))

-- Between two quotes q: anything but the quote and the backslash, or a backslash and any byte. So `a\"b` ends at no quote of its own.
pub data IsBetween (q : ℕ) : List ℕ → Type 0 where
  empty : IsBetween q []
  plain : {c : ℕ} {x : List ℕ} → (c == q) ≡ false → (c == backslash) ≡ false → IsBetween q x → IsBetween q (c ∷ x)
  escape : {c : ℕ} {x : List ℕ} → IsBetween q x → IsBetween q (backslash ∷ (c ∷ x))

abbrev pub is_quote : ℕ → Bool
is_quote c = c == double_quote || c == single_quote

-- the byte that ends a comment that begins so: `/` or LF
abbrev pub comment_end : ℕ → Option ℕ
comment_end c = if c == 47 then Some 47 else if c == 35 then Some 10 else None

-- neither a brace, nor the begin of a quoted text or of a comment
abbrev pub is_other : ℕ → Bool
is_other c = not (is_quote c || (c == 47 || (c == 35 || (c == 123 || c == 125))))

-- Between two braces: braces stand in pairs, but in quoted texts and in comments. So `{1: "}"}` ends at its last brace.
pub data IsInside : List ℕ → Type 0 where
  nothing : IsInside []
  other : {c : ℕ} {x : List ℕ} → is_other c ≡ true → IsInside x → IsInside (c ∷ x)
  braces : (x y : List ℕ) → IsInside x → IsInside y → IsInside (123 ∷ (x ++ (125 ∷ y)))
  quoted : {q : ℕ} (x y : List ℕ) → is_quote q ≡ true → IsBetween q x → IsInside y → IsInside (q ∷ (x ++ (q ∷ y)))
  comment : {c : ℕ} (e : ℕ) (x y : List ℕ) → comment_end c ≡ Some e → list_all (λ b. not (b == e)) x ≡ true → IsInside y → IsInside (c ∷ (x ++ (e ∷ y)))

abbrev pub IsKey : Key → Type 0
IsKey (Name x) = (list_all is_name_byte x ≡ true) × (x ≢ [])
IsKey (Quoted x) = IsBetween double_quote x
IsKey (Braced x) = IsInside x

abbrev pub IsIndex : ℕ → Type 0
IsIndex n = n < 2 ^ 64

abbrev pub IsIndexIfAny : Option ℕ → Type 0
IsIndexIfAny None = Unit {0}
IsIndexIfAny (Some n) = IsIndex n

abbrev pub IsStep : Step Key → Type 0
IsStep (Value k o) = IsKey k × IsIndexIfAny o
IsStep (Element n) = IsIndex n
IsStep PastLast = Unit {0}
IsStep (Content o) = IsIndexIfAny o
IsStep (Embedded n) = IsIndex n

abbrev pub AreSteps : List (Step Key) → Type 0
AreSteps [] = Unit {0}
AreSteps (s ∷ ss) = IsStep s × AreSteps ss

abbrev pub IsPath : Path → Type 0
IsPath p = IsIndexIfAny p.start × AreSteps p.steps

-- ---- how it is written

abbrev pub key_text : Key → List ℕ
key_text (Name x) = 46 ∷ x
key_text (Quoted x) = 46 ∷ (double_quote ∷ (x ++ (double_quote ∷ [])))
key_text (Braced x) = 123 ∷ (x ++ (125 ∷ []))

-- a sign and a number behind it, or nothing
abbrev pub numbered : ℕ → Option ℕ → List ℕ
numbered sign None = []
numbered sign (Some n) = sign ∷ decimal n

abbrev pub digits_if_any : Option ℕ → List ℕ
digits_if_any None = []
digits_if_any (Some n) = decimal n

abbrev pub step_text : Step Key → List ℕ
step_text (Value k o) = key_text k ++ numbered 126 o
step_text (Element n) = 91 ∷ (decimal n ++ (93 ∷ []))
step_text PastLast = 91 ∷ (43 ∷ (93 ∷ []))
step_text (Content o) = 40 ∷ (digits_if_any o ++ (41 ∷ []))
step_text (Embedded n) = 60 ∷ (decimal n ++ (62 ∷ []))

abbrev pub steps_text : List (Step Key) → List ℕ
steps_text [] = []
steps_text (s ∷ ss) = step_text s ++ steps_text ss

-- a start and steps, at least one of them; `.` where there are none
abbrev pub path_text_of : Option ℕ → List (Step Key) → List ℕ
path_text_of None [] = 46 ∷ []
path_text_of None (s ∷ ss) = steps_text (s ∷ ss)
path_text_of (Some n) ss = numbered 64 (Some n) ++ steps_text ss

abbrev pub path_text : Path → List ℕ
path_text p = path_text_of p.start p.steps

-- The text is that of a path.
pub record Spells (text : List ℕ) (p : Path) : Type 0 where
  pub is_path : IsPath p
  pub is_text : text ≡ path_text p
