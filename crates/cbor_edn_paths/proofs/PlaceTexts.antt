-- What a reader has read, by where it stands.
use Rattle.std.proofs.Common.{arith, ◌≡◌, ◌≢◌, ℕ, zero, suc, ◌+◌, ◌<◌, ◌^◌, Bool, true, List, [], ◌∷◌, ◌++◌, Option, Some, None, refl, sym, ap, subst, ◌∙◌, append_assoc}
use Rattle.std.specs.Prelude.{◌==◌, ◌&&◌}
use Rattle.std.specs.Fmt.{decimal}
use Rattle.std.proofs.lemmas.Bool.{eqb-true}
use Rattle.std.proofs.lemmas.List.Folds.{list_all-append}
use Rattle.cbor_edn_parts.specs.string.Literal.{double_quote, backslash}
use Rattle.cbor_edn_paths.specs.Steps as spec
use Rattle.cbor_edn_paths.specs.Steps.{Key}
use Rattle.cbor_edn_paths.specs.Spelling as spelling
use Rattle.cbor_edn_paths.specs.Spelling.{is_name_byte, IsBetween, IsInside, IsKey, IsIndex, IsStep, key_text, step_text}
use Rattle.cbor_edn_paths.specs.internal.Places.{Place, Start, Root, Dot, InName, InQuotes, Escaped, InBraces, BehindKey, Tilde, Occurrence, StartSign, StartNumber, Opened, Digits, Plus, Closed, Outcome, Nothing, Begun, Ended, Move, first_digit, more_digits, moved, or_else, opened, ending, behind_key, key_begun, close_byte, numbered_step, unnumbered, closes, next}
use Rattle.cbor_edn_paths.specs.declared.place.Inside.{Inside}
use Rattle.cbor_edn_paths.specs.declared.place.Inside.TheVariants as inside
use Rattle.cbor_edn_paths.specs.declared.place.Bracket.{Bracket}
use Rattle.cbor_edn_paths.specs.declared.place.Bracket.TheVariants as bracket
use Rattle.cbor_edn_paths.proofs.Insides.{choose, and_left, and_right, between-append, IsPart, part_more, both}
use Rattle.cbor_edn_paths.proofs.Numbers.{BeginsWith, first_written, GoesOn, more_written}

abbrev pub open_byte : Bracket → ℕ
open_byte bracket.Square = 91
open_byte bracket.Round = 40
open_byte bracket.Angle = 60

-- what stands there of the step that is read
abbrev pub place_text : Place → List ℕ
place_text Start = []
place_text Root = 46 ∷ []
place_text Dot = 46 ∷ []
place_text (InName x) = 46 ∷ x
place_text (InQuotes x) = 46 ∷ (double_quote ∷ x)
place_text (Escaped x) = 46 ∷ (double_quote ∷ x)
place_text (InBraces x m d) = 123 ∷ x
place_text (BehindKey k) = key_text k
place_text (Tilde k) = key_text k ++ (126 ∷ [])
place_text (Occurrence k n) = key_text k ++ (126 ∷ decimal n)
place_text StartSign = 64 ∷ []
place_text (StartNumber n) = 64 ∷ decimal n
place_text (Opened b) = open_byte b ∷ []
place_text (Digits b n) = open_byte b ∷ decimal n
place_text Plus = 91 ∷ (43 ∷ [])
place_text Closed = []

abbrev pub outcome_text : Outcome → List ℕ
outcome_text Nothing = []
outcome_text (Begun n) = 64 ∷ decimal n
outcome_text (Ended s) = step_text s

abbrev pub IsPlace : Place → Type 0
IsPlace (InName x) = IsKey (spec.Name x)
IsPlace (InQuotes x) = IsBetween double_quote x
IsPlace (Escaped x) = (y : List ℕ) × IsBetween double_quote y × (x ≡ y ++ (backslash ∷ []))
IsPlace (InBraces x m d) = IsPart m d x
IsPlace (BehindKey k) = IsKey k
IsPlace (Tilde k) = IsKey k
IsPlace (Occurrence k n) = IsKey k × IsIndex n
IsPlace (StartNumber n) = IsIndex n
IsPlace (Digits b n) = IsIndex n
IsPlace p = Unit {0}

abbrev pub IsOutcome : Outcome → Type 0
IsOutcome Nothing = Unit {0}
IsOutcome (Begun n) = IsIndex n
IsOutcome (Ended s) = IsStep s

-- behind a byte more, what ended and what stands there is what stood there, and that byte
abbrev pub Fits : List ℕ → ℕ → Move → Type 0
Fits x c None = Unit {0}
Fits x c (Some m) = (outcome_text m.0 ++ place_text m.1 ≡ x ++ (c ∷ [])) × IsOutcome m.0 × IsPlace m.1

abbrev OpensWith : ℕ → Option Place → Type 0
OpensWith c None = Unit {0}
OpensWith c (Some p) = (place_text p ≡ c ∷ []) × IsPlace p

one_byte : (c d : ℕ) → (c == d) ≡ true → d ∷ [] ≡ c ∷ []
one_byte c d e = ap (λ b. b ∷ []) (sym (eqb-true c d e))

opens_with : (c : ℕ) → OpensWith c (opened c)
opens_with c =
    let P : Option Place → Type 0 = OpensWith c in
    choose P (c == 46) _ _ (λ e. (one_byte c 46 e, tt)) (λ e.
    choose P (c == 123) _ _ (λ e. (one_byte c 123 e, spelling.nothing)) (λ e.
    choose P (c == 91) _ _ (λ e. (one_byte c 91 e, tt)) (λ e.
    choose P (c == 40) _ _ (λ e. (one_byte c 40 e, tt)) (λ e.
    choose P (c == 60) _ _ (λ e. (one_byte c 60 e, tt)) (λ e. tt)))))

ending_fits : (x : List ℕ) (c : ℕ) (w : Outcome) (o : Option Place) → outcome_text w ≡ x → IsOutcome w → OpensWith c o → Fits x c (ending w o)
ending_fits x c w None e i h = tt
ending_fits x c w (Some p) e i h = (ap (λ t. t ++ place_text p) e ∙ ap (λ t. x ++ t) h.0, i, h.1)

pub nil_right : (x : List ℕ) → x ++ [] ≡ x
nil_right [] = refl
nil_right (c ∷ x) = ap (λ t. c ∷ t) (nil_right x)

behind_key_fits : (k : Key) (c : ℕ) → IsKey k → Fits (key_text k) c (behind_key k c)
behind_key_fits k c h =
    choose (Fits (key_text k) c) (c == 126) _ _ (λ e. (ap (λ t. key_text k ++ t) (one_byte c 126 e), tt, h)) (λ e.
    ending_fits (key_text k) c (Ended (spec.Value k None)) (opened c) (nil_right (key_text k)) (h, tt) (opens_with c))

name_one : (b : Bool) → b ≡ true → (b && true) ≡ true
name_one b e = rw e refl

key_begun_fits : (c : ℕ) → Fits (46 ∷ []) c (key_begun c)
key_begun_fits c =
    choose (Fits (46 ∷ []) c) (c == double_quote) _ _ (λ e. (ap (λ t. 46 ∷ t) (one_byte c double_quote e), tt, spelling.empty)) (λ e.
    choose (Fits (46 ∷ []) c) (is_name_byte c) _ _ (λ e. (refl, tt, (name_one (is_name_byte c) e, λ none. cc))) (λ e. tt))

-- a first digit, and more of them
first_fits : (x : List ℕ) (c : ℕ) (f : ℕ → Place) (o : Option ℕ) → ((n : ℕ) → decimal n ≡ c ∷ [] → n < 2 ^ 64 → (place_text (f n) ≡ x ++ (c ∷ [])) × IsPlace (f n)) → BeginsWith c o → Fits x c (moved f o)
first_fits x c f None g h = tt
first_fits x c f (Some n) g h = let r = g n h.0 h.1 in (r.0, tt, r.1)

more_fits : (x : List ℕ) (n c : ℕ) (f : ℕ → Place) (o : Option ℕ) → ((m : ℕ) → decimal m ≡ decimal n ++ (c ∷ []) → m < 2 ^ 64 → (place_text (f m) ≡ x ++ (c ∷ [])) × IsPlace (f m)) → GoesOn n c o → Fits x c (moved f o)
more_fits x n c f None g h = tt
more_fits x n c f (Some m) g h = let r = g m h.0 h.1 in (r.0, tt, r.1)

or_else_fits : (x : List ℕ) (c : ℕ) (m n : Move) → Fits x c m → Fits x c n → Fits x c (or_else m n)
or_else_fits x c None n f g = g
or_else_fits x c (Some m) n f g = f

unnumbered_fits : (b : Bracket) (c : ℕ) → Fits (open_byte b ∷ []) c (unnumbered b c)
unnumbered_fits bracket.Square c = choose (Fits (91 ∷ []) c) (c == 43) _ _ (λ e. (ap (λ t. 91 ∷ t) (one_byte c 43 e), tt, tt)) (λ e. tt)
unnumbered_fits bracket.Round c = choose (Fits (40 ∷ []) c) (c == 41) _ _ (λ e. (ap (λ t. 40 ∷ t) (one_byte c 41 e), tt, tt)) (λ e. tt)
unnumbered_fits bracket.Angle c = tt

closed_text : (b : Bracket) (n c : ℕ) → (c == close_byte b) ≡ true → step_text (numbered_step b n) ++ [] ≡ (open_byte b ∷ decimal n) ++ (c ∷ [])
closed_text bracket.Square n c e = nil_right _ ∙ ap (λ t. 91 ∷ (decimal n ++ t)) (one_byte c 93 e)
closed_text bracket.Round n c e = nil_right _ ∙ ap (λ t. 40 ∷ (decimal n ++ t)) (one_byte c 41 e)
closed_text bracket.Angle n c e = nil_right _ ∙ ap (λ t. 60 ∷ (decimal n ++ t)) (one_byte c 62 e)

closed_step : (b : Bracket) (n : ℕ) → IsIndex n → IsStep (numbered_step b n)
closed_step bracket.Square n h = h
closed_step bracket.Round n h = h
closed_step bracket.Angle n h = h

not_empty : (x : List ℕ) (c : ℕ) → x ++ (c ∷ []) ≢ []
not_empty [] c = λ e. cc
not_empty (d ∷ x) c = λ e. cc

name_more : (x : List ℕ) (c : ℕ) → is_name_byte c ≡ true → IsKey (spec.Name x) → IsKey (spec.Name (x ++ (c ∷ [])))
name_more x c e h = (list_all-append is_name_byte x (c ∷ []) ∙ both _ _ h.0 (name_one (is_name_byte c) e), not_empty x c)

open_text : (b : Bracket) (n c : ℕ) → decimal n ≡ c ∷ [] → open_byte b ∷ decimal n ≡ (open_byte b ∷ []) ++ (c ∷ [])
open_text b n c e = ap (λ t. open_byte b ∷ t) e

tilde_text : (k : Key) (n c : ℕ) → decimal n ≡ c ∷ [] → key_text k ++ (126 ∷ decimal n) ≡ (key_text k ++ (126 ∷ [])) ++ (c ∷ [])
tilde_text k n c e = ap (λ t. key_text k ++ (126 ∷ t)) e ∙ sym (append_assoc (key_text k) (126 ∷ []) (c ∷ []))

occurrence_text : (k : Key) (n m c : ℕ) → decimal m ≡ decimal n ++ (c ∷ []) → key_text k ++ (126 ∷ decimal m) ≡ (key_text k ++ (126 ∷ decimal n)) ++ (c ∷ [])
occurrence_text k n m c e = ap (λ t. key_text k ++ (126 ∷ t)) e ∙ sym (append_assoc (key_text k) (126 ∷ decimal n) (c ∷ []))

closed_key : (c d : ℕ) (m : Inside) (x : List ℕ) → closes c m d ≡ true → IsPart m d x → IsInside x × (c ≡ 125)
closed_key c zero inside.Plain x e h = (h, eqb-true c 125 (and_left (c == 125) _ e))
closed_key c (suc d) inside.Plain x e h = let none : suc d ≡ 0 = eqb-true (suc d) 0 (and_right (c == 125) (suc d == 0) e) in absurd (omega arith)
closed_key c d (inside.Quoted q) x e h = absurd (cc)
closed_key c d (inside.Escaped q) x e h = absurd (cc)
closed_key c d (inside.Comment q) x e h = absurd (cc)

braces_fits : (x : List ℕ) (m : Inside) (d c : ℕ) → IsPart m d x → Fits (123 ∷ x) c (next c (InBraces x m d))
braces_fits x m d c h =
    choose (Fits (123 ∷ x) c) (closes c m d) _ _ (λ e. let k = closed_key c d m x e h in (ap (λ b. 123 ∷ (x ++ (b ∷ []))) (sym k.1), tt, k.0)) (λ e. (refl, tt, part_more m c d x e h))

pub next_fits : (p : Place) (c : ℕ) → IsPlace p → Fits (place_text p) c (next c p)
next_fits Start c h =
    choose (Fits [] c) (c == 46) _ _ (λ e. (one_byte c 46 e, tt, tt)) (λ e.
    choose (Fits [] c) (c == 64) _ _ (λ e. (one_byte c 64 e, tt, tt)) (λ e.
    ending_fits [] c Nothing (opened c) refl tt (opens_with c)))
next_fits Root c h = key_begun_fits c
next_fits Dot c h = key_begun_fits c
next_fits (InName x) c h =
    choose (Fits (46 ∷ x) c) (is_name_byte c) _ _ (λ e. (refl, tt, name_more x c e h)) (λ e. behind_key_fits (spec.Name x) c h)
next_fits (InQuotes x) c h =
    choose (Fits (46 ∷ (double_quote ∷ x)) c) (c == double_quote) _ _ (λ e. (ap (λ t. 46 ∷ (double_quote ∷ (x ++ t))) (one_byte c double_quote e), tt, h)) (λ e.
    choose (Fits (46 ∷ (double_quote ∷ x)) c) (c == backslash) _ _ (λ b. (refl, tt, (x, h, ap (λ t. x ++ (t ∷ [])) (eqb-true c backslash b)))) (λ b.
    (refl, tt, between-append h (spelling.plain e b spelling.empty))))
next_fits (Escaped x) c h =
    let same : x ++ (c ∷ []) ≡ h.0 ++ (backslash ∷ (c ∷ [])) = ap (λ t. t ++ (c ∷ [])) h.2 ∙ append_assoc h.0 (backslash ∷ []) (c ∷ []) in
    (refl, tt, subst (IsBetween double_quote) (sym same) (between-append h.1 (spelling.escape spelling.empty)))
next_fits (InBraces x m d) c h = braces_fits x m d c h
next_fits (BehindKey k) c h = behind_key_fits k c h
next_fits (Tilde k) c h = first_fits (key_text k ++ (126 ∷ [])) c (Occurrence k) (first_digit c) (λ n e small. (tilde_text k n c e, (h, small))) (first_written c)
next_fits (Occurrence k n) c h =
    or_else_fits (key_text k ++ (126 ∷ decimal n)) c _ _
    (more_fits (key_text k ++ (126 ∷ decimal n)) n c (Occurrence k) (more_digits n c) (λ m e small. (occurrence_text k n m c e, (h.0, small))) (more_written n c))
    (ending_fits (key_text k ++ (126 ∷ decimal n)) c (Ended (spec.Value k (Some n))) (opened c) refl (h.0, h.1) (opens_with c))
next_fits StartSign c h = first_fits (64 ∷ []) c StartNumber (first_digit c) (λ n e small. (ap (λ t. 64 ∷ t) e, small)) (first_written c)
next_fits (StartNumber n) c h =
    or_else_fits (64 ∷ decimal n) c _ _
    (more_fits (64 ∷ decimal n) n c StartNumber (more_digits n c) (λ m e small. (ap (λ t. 64 ∷ t) e, small)) (more_written n c))
    (ending_fits (64 ∷ decimal n) c (Begun n) (opened c) refl h (opens_with c))
next_fits (Opened b) c h =
    or_else_fits (open_byte b ∷ []) c _ _
    (first_fits (open_byte b ∷ []) c (Digits b) (first_digit c) (λ n e small. (open_text b n c e, small)) (first_written c))
    (unnumbered_fits b c)
next_fits (Digits b n) c h =
    choose (Fits (open_byte b ∷ decimal n) c) (c == close_byte b) _ _ (λ e. (closed_text b n c e, closed_step b n h, tt)) (λ e.
    more_fits (open_byte b ∷ decimal n) n c (Digits b) (more_digits n c) (λ m i small. (ap (λ t. open_byte b ∷ t) i, small)) (more_written n c))
next_fits Plus c h = choose (Fits (91 ∷ (43 ∷ [])) c) (c == 93) _ _ (λ e. (ap (λ t. 91 ∷ (43 ∷ t)) (one_byte c 93 e), tt, tt)) (λ e. tt)
next_fits Closed c h = ending_fits [] c Nothing (opened c) refl tt (opens_with c)
