-- How a path is read byte by byte: where a reader stands, and what it has read.
use Rattle.std.specs.Prelude.{ℕ, ◌+◌, ◌-◌, ◌*◌, ◌==◌, ◌^◌, ◌&&◌, nat_le, nat_lt, not, Bool, false, if◌then◌else◌, List, [], ◌∷◌, ◌++◌, Option, Some, None, option_map, option_and_then}
use Rattle.cbor_edn_parts.specs.string.Literal.{double_quote, backslash}
use Rattle.cbor_edn_paths.specs.Steps.{Key, Name, Quoted, Braced, Step, Value, Element, PastLast, Content, Embedded, Path}
use Rattle.cbor_edn_paths.specs.Spelling.{is_name_byte, is_quote}
use Rattle.cbor_edn_paths.specs.declared.place.Inside.{Inside}
use Rattle.cbor_edn_paths.specs.declared.place.Inside.TheVariants as inside
use Rattle.cbor_edn_paths.specs.declared.place.Bracket.{Bracket}
use Rattle.cbor_edn_paths.specs.declared.place.Bracket.TheVariants as bracket

-- Where a reader stands: what of a step it has read.
pub data Place : Type 0 where
  -- in front of everything
  Start : Place
  -- behind a dot in front of everything
  Root : Place
  -- behind another dot
  Dot : Place
  InName : List ℕ → Place
  InQuotes : List ℕ → Place
  -- behind a backslash between quotes
  Escaped : List ℕ → Place
  -- with so many braces open in it
  InBraces : List ℕ → Inside → ℕ → Place
  -- behind a key that is closed
  BehindKey : Key → Place
  Tilde : Key → Place
  Occurrence : Key → ℕ → Place
  StartSign : Place
  StartNumber : ℕ → Place
  Opened : Bracket → Place
  Digits : Bracket → ℕ → Place
  Plus : Place
  -- behind a bracket that closes a step
  Closed : Place

-- what a byte ends
pub data Outcome : Type 0 where
  Nothing : Outcome
  Begun : ℕ → Outcome
  Ended : Step Key → Outcome

abbrev pub Move : Type 0
Move = Option (Outcome × Place)

abbrev pub on : Place → Move
on p = Some (Nothing, p)

abbrev pub is_digit : ℕ → Bool
is_digit c = nat_le 48 c && nat_le c 57

abbrev pub first_digit : ℕ → Option ℕ
first_digit c = if is_digit c then Some (c - 48) else None

-- behind 0 stands no digit, and a number is below 2^64
abbrev pub more_digits : ℕ → ℕ → Option ℕ
more_digits n c = if is_digit c && (not (n == 0) && nat_lt (10 * n + (c - 48)) (2 ^ 64)) then Some (10 * n + (c - 48)) else None

abbrev pub moved : (ℕ → Place) → Option ℕ → Move
moved f None = None
moved f (Some n) = on (f n)

abbrev pub or_else : Move → Move → Move
or_else None m = m
or_else (Some x) m = Some x

abbrev pub opened : ℕ → Option Place
opened c =
    if c == 46 then Some Dot
    else if c == 123 then Some (InBraces [] inside.Plain 0)
    else if c == 91 then Some (Opened bracket.Square)
    else if c == 40 then Some (Opened bracket.Round)
    else if c == 60 then Some (Opened bracket.Angle)
    else None

abbrev pub ending : Outcome → Option Place → Move
ending w None = None
ending w (Some p) = Some (w, p)

abbrev pub behind_key : Key → ℕ → Move
behind_key k c = if c == 126 then on (Tilde k) else ending (Ended (Value k None)) (opened c)

abbrev pub key_begun : ℕ → Move
key_begun c = if c == double_quote then on (InQuotes []) else if is_name_byte c then on (InName (c ∷ [])) else None

abbrev pub close_byte : Bracket → ℕ
close_byte bracket.Square = 93
close_byte bracket.Round = 41
close_byte bracket.Angle = 62

abbrev pub numbered_step : Bracket → ℕ → Step Key
numbered_step bracket.Square n = Element n
numbered_step bracket.Round n = Content (Some n)
numbered_step bracket.Angle n = Embedded n

-- what may stand in brackets in place of a number
abbrev pub unnumbered : Bracket → ℕ → Move
unnumbered bracket.Square c = if c == 43 then on Plus else None
unnumbered bracket.Round c = if c == 41 then Some (Ended (Content None), Closed) else None
unnumbered bracket.Angle c = None

abbrev pub plain_next : ℕ → ℕ → Inside × ℕ
plain_next c d =
    if is_quote c then (inside.Quoted c, d)
    else if c == 47 then (inside.Comment 47, d)
    else if c == 35 then (inside.Comment 10, d)
    else if c == 123 then (inside.Plain, d + 1)
    else if c == 125 then (inside.Plain, d - 1)
    else (inside.Plain, d)

abbrev pub inside_next : ℕ → Inside → ℕ → Inside × ℕ
inside_next c inside.Plain d = plain_next c d
inside_next c (inside.Quoted q) d = if c == q then (inside.Plain, d) else if c == backslash then (inside.Escaped q, d) else (inside.Quoted q, d)
inside_next c (inside.Escaped q) d = (inside.Quoted q, d)
inside_next c (inside.Comment e) d = if c == e then (inside.Plain, d) else (inside.Comment e, d)

-- whether the byte is the brace that closes a key
abbrev pub closes : ℕ → Inside → ℕ → Bool
closes c inside.Plain d = c == 125 && d == 0
closes c m d = false

abbrev pub in_braces : List ℕ → Inside × ℕ → Place
in_braces x p = InBraces x p.0 p.1

-- One byte.
abbrev pub next : ℕ → Place → Move
next c Start = if c == 46 then on Root else if c == 64 then on StartSign else ending Nothing (opened c)
next c Root = key_begun c
next c Dot = key_begun c
next c (InName x) = if is_name_byte c then on (InName (x ++ (c ∷ []))) else behind_key (Name x) c
next c (InQuotes x) = if c == double_quote then on (BehindKey (Quoted x)) else if c == backslash then on (Escaped (x ++ (c ∷ []))) else on (InQuotes (x ++ (c ∷ [])))
next c (Escaped x) = on (InQuotes (x ++ (c ∷ [])))
next c (InBraces x m d) = if closes c m d then on (BehindKey (Braced x)) else on (in_braces (x ++ (c ∷ [])) (inside_next c m d))
next c (BehindKey k) = behind_key k c
next c (Tilde k) = moved (Occurrence k) (first_digit c)
next c (Occurrence k n) = or_else (moved (Occurrence k) (more_digits n c)) (ending (Ended (Value k (Some n))) (opened c))
next c StartSign = moved StartNumber (first_digit c)
next c (StartNumber n) = or_else (moved StartNumber (more_digits n c)) (ending (Begun n) (opened c))
next c (Opened b) = or_else (moved (Digits b) (first_digit c)) (unnumbered b c)
next c (Digits b n) = if c == close_byte b then Some (Ended (numbered_step b n), Closed) else moved (Digits b) (more_digits n c)
next c Plus = if c == 93 then Some (Ended PastLast, Closed) else None
next c Closed = ending Nothing (opened c)

-- what ends where the text does; none where it ends too early
abbrev pub end : Place → Option Outcome
end Root = Some Nothing
end (InName x) = Some (Ended (Value (Name x) None))
end (BehindKey k) = Some (Ended (Value k None))
end (Occurrence k n) = Some (Ended (Value k (Some n)))
end (StartNumber n) = Some (Begun n)
end Closed = Some Nothing
end p = None

abbrev pub with_outcome : Outcome → Path → Path
with_outcome Nothing p = p
with_outcome (Begun n) p = record { start = Some n; steps = p.steps }
with_outcome (Ended s) p = record { start = p.start; steps = p.steps ++ (s ∷ []) }

-- the path so far, and where the reader stands
pub record Reading : Type 0 where
  pub so_far : Path
  pub place : Place

abbrev pub begin : Reading
begin = record { so_far = record { start = None; steps = [] }; place = Start }

abbrev pub moved_on : Path → Move → Option Reading
moved_on p None = None
moved_on p (Some m) = Some (record { so_far = with_outcome m.0 p; place = m.1 })

abbrev pub after : ℕ → Reading → Option Reading
after c r = moved_on r.so_far (next c r.place)

unfoldable pub run : List ℕ → Reading → Option Reading
run [] r = Some r
run (c ∷ x) r = option_and_then (run x) (after c r)

abbrev pub ended : Reading → Option Path
ended r = option_map (λ w. with_outcome w r.so_far) (end r.place)
