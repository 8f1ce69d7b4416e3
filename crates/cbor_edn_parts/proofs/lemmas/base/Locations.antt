-- Lines and columns, byte by byte.
use Rattle.std.proofs.Common.{◌≡◌, ℕ, zero, suc, ◌+◌, ◌<◌, ◌≤◌, Bool, true, false, ◌||◌, List, [], ◌∷◌, ◌++◌, length, take, drop, refl, ap, ◌∙◌, arith, ◌⊎◌, inl, inr, Option, Some, None, length-drop}
use Rattle.std.specs.Prelude.{IfSome}
use Rattle.cbor_edn_parts.specs.internal.Scans.{IsAt}
use Rattle.std.specs.Prelude.{count_by, if◌then◌else◌, cond}
use Rattle.std.specs.List.{list_any}
use Rattle.std.proofs.lemmas.List.Folds.{list_any-append}
use Rattle.std.proofs.lemmas.List.Sums.{sum_by-append}
use Rattle.cbor_edn_parts.specs.base.Location.{is_line_feed, is_start, last_line, location_behind}

-- the front that is longer by the byte behind it
take_next : (n : ℕ) (text : List ℕ) (c : ℕ) (rest : List ℕ) → drop n text ≡ c ∷ rest → take (suc n) text ≡ take n text ++ c ∷ []
take_next zero [] c rest h = absurd (cc)
take_next zero (b ∷ text) c rest h = cc
take_next (suc n) [] c rest h = absurd (cc)
take_next (suc n) (b ∷ text) c rest h = ap (λ xs. b ∷ xs) (take_next n text c rest h)

or_none : (b : Bool) → (b || false) ≡ b
or_none true = refl
or_none false = refl

or_one : (b : Bool) → (b || true) ≡ true
or_one true = refl
or_one false = refl

none_push : (xs : List ℕ) (c : ℕ) → is_line_feed c ≡ false → list_any is_line_feed (xs ++ c ∷ []) ≡ list_any is_line_feed xs
none_push xs c e = list_any-append is_line_feed xs (c ∷ []) ∙ rw e (or_none (list_any is_line_feed xs))

some_push : (xs : List ℕ) (c : ℕ) → is_line_feed c ≡ true → list_any is_line_feed (xs ++ c ∷ []) ≡ true
some_push xs c e = list_any-append is_line_feed xs (c ∷ []) ∙ rw e (or_one (list_any is_line_feed xs))

count_push : (p : ℕ → Bool) (xs : List ℕ) (c : ℕ) → count_by p (xs ++ c ∷ []) ≡ count_by p xs + cond (p c) 1 0
count_push p xs c = sum_by-append (λ x. cond (p x) 1 0) xs (c ∷ []) ∙ omega arith

line_feed_push : (xs : List ℕ) (c : ℕ) → is_line_feed c ≡ true → last_line (xs ++ c ∷ []) ≡ []
unfolding last_line
line_feed_push [] c e = rw e
line_feed_push (x ∷ xs) c e = rw (some_push xs c e) (line_feed_push xs c e)

pushed : (b d : Bool) (last : List ℕ) (x : ℕ) (xs : List ℕ) (c : ℕ) → (if b then last ++ c ∷ [] else if d then xs ++ c ∷ [] else x ∷ (xs ++ c ∷ [])) ≡ (if b then last else if d then xs else x ∷ xs) ++ c ∷ []
pushed true d last x xs c = refl
pushed false true last x xs c = refl
pushed false false last x xs c = refl

other_push : (xs : List ℕ) (c : ℕ) → is_line_feed c ≡ false → last_line (xs ++ c ∷ []) ≡ last_line xs ++ c ∷ []
unfolding last_line
other_push [] c e = rw e
other_push (x ∷ xs) c e = rw (none_push xs c e, other_push xs c e) (pushed (list_any is_line_feed xs) (is_line_feed x) (last_line xs) x xs c)

bool_cases : (b : Bool) → (b ≡ true) ⊎ (b ≡ false)
bool_cases true = inl refl
bool_cases false = inr refl

next : (front : List ℕ) (c line column : ℕ) (p : ℕ × ℕ) → (is_line_feed c ≡ true) ⊎ (is_line_feed c ≡ false) → (is_start c ≡ true) ⊎ (is_start c ≡ false)
    → line ≡ 1 + count_by is_line_feed front → column ≡ 1 + count_by is_start (last_line front) → p ≡ location_behind c line column
    → (p.0 ≡ 1 + count_by is_line_feed (front ++ c ∷ [])) × (p.1 ≡ 1 + count_by is_start (last_line (front ++ c ∷ []))) × (p.0 ≤ line + 1) × (p.1 ≤ column + 1)
next front c line column p (inl feed) start lines columns is =
    let at : p ≡ (line + 1, 1) = is ∙ rw feed in
    rw (at, count_push is_line_feed front c, line_feed_push front c feed, feed) (omega arith, refl, omega arith, omega arith)
next front c line column p (inr other) (inl start) lines columns is =
    let at : p ≡ (line, column + 1) = is ∙ rw (other, start) in
    rw (at, count_push is_line_feed front c, other_push front c other, count_push is_start (last_line front) c, other, start) (omega arith, omega arith, omega arith, omega arith)
next front c line column p (inr other) (inr inside) lines columns is =
    let at : p ≡ (line, column) = is ∙ rw (other, inside) in
    rw (at, count_push is_line_feed front c, other_push front c other, count_push is_start (last_line front) c, other, inside) (omega arith, omega arith, omega arith, omega arith)

-- where the text goes on by one byte
pub IsLocationAt-next : (text : List ℕ) (at c line column : ℕ) (p : ℕ × ℕ) → drop at text ≡ c ∷ drop (at + 1) text
    → line ≡ 1 + count_by is_line_feed (take at text) → column ≡ 1 + count_by is_start (last_line (take at text))
    → p ≡ location_behind c line column
    → (p.0 ≡ 1 + count_by is_line_feed (take (at + 1) text)) × (p.1 ≡ 1 + count_by is_start (last_line (take (at + 1) text))) × (p.0 ≤ line + 1) × (p.1 ≤ column + 1)
IsLocationAt-next text at c line column p here lines columns is =
    let more : at + 1 ≡ suc at = omega arith in
    let front : take (at + 1) text ≡ take at text ++ c ∷ [] = rw more (take_next at text c (drop (at + 1) text) here) in
    rw front (next (take at text) c line column p (bool_cases (is_line_feed c)) (bool_cases (is_start c)) lines columns is)

-- the same where the byte was looked at
pub turn : (text : List ℕ) (at line column : ℕ) (r : Option ℕ) (p : ℕ × ℕ) → IsAt text at r → at < length text
    → line ≡ 1 + count_by is_line_feed (take at text) → column ≡ 1 + count_by is_start (last_line (take at text))
    → IfSome r (λ c. (p.0, p.1) ≡ location_behind c line column)
    → (p.0 ≡ 1 + count_by is_line_feed (take (at + 1) text)) × (p.1 ≡ 1 + count_by is_start (last_line (take (at + 1) text))) × (p.0 ≤ line + 1) × (p.1 ≤ column + 1)
turn text at line column None p none within lines columns is =
    let short : length (drop at text) ≡ 0 = rw none refl in
    absurd (omega (arith, length-drop at text))
turn text at line column (Some c) p here within lines columns is = IsLocationAt-next text at c line column p here.0 lines columns is

pub nothing_before : last_line [] ≡ []
unfolding last_line
nothing_before = refl
