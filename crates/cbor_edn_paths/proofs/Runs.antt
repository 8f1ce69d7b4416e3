-- The text of each path is read as that path.
use Rattle.std.proofs.Common.{arith, ◌≡◌, ℕ, ◌+◌, ◌-◌, ◌/◌, ◌%◌, ◌<◌, ◌^◌, ◌⊎◌, inl, inr, Bool, true, false, List, [], ◌∷◌, ◌++◌, Option, Some, None, refl, sym, ap, subst, ◌∙◌, append_assoc}
use Rattle.std.specs.Prelude.{if◌then◌else◌, ◌==◌, ◌&&◌, ◌||◌, not, option_map, option_and_then}
use Rattle.std.specs.List.{list_all}
use Rattle.std.specs.Fmt.{decimal}
use Rattle.std.proofs.lemmas.Fmt.{decimal_by_steps}
use Rattle.std.proofs.lemmas.Bool.{eqb-true, eq-eqb, ne_eqb}
use Rattle.cbor_edn_parts.specs.string.Literal.{double_quote, single_quote, backslash}
use Rattle.cbor_edn_paths.specs.Steps as spec
use Rattle.cbor_edn_paths.specs.Steps.{Step, Key, Path}
use Rattle.cbor_edn_paths.specs.Spelling as spelling
use Rattle.cbor_edn_paths.specs.Spelling.{is_name_byte, IsBetween, IsInside, is_quote, comment_end, IsKey, IsIndexIfAny, IsStep, AreSteps, IsPath, key_text, step_text, steps_text, path_text}
use Rattle.cbor_edn_paths.specs.internal.Places.{Place, Root, Dot, InName, InQuotes, Escaped, InBraces, BehindKey, Tilde, Occurrence, StartSign, StartNumber, Opened, Digits, Plus, Closed, Outcome, Nothing, Begun, Ended, first_digit, more_digits, moved, or_else, opened, ending, key_begun, unnumbered, close_byte, inside_next, closes, next, end, with_outcome, Reading, begin, moved_on, after, run, ended}
use Rattle.cbor_edn_paths.specs.declared.place.Inside.{Inside}
use Rattle.cbor_edn_paths.specs.declared.place.Inside.TheVariants as inside
use Rattle.cbor_edn_paths.specs.declared.place.Bracket.{Bracket}
use Rattle.cbor_edn_paths.specs.declared.place.Bracket.TheVariants as bracket
use Rattle.cbor_edn_paths.proofs.Insides.{if_true, if_false, not_true, and_left, and_right}
use Rattle.cbor_edn_paths.proofs.Numbers.{first_read, more_read}
use Rattle.cbor_edn_paths.proofs.PlaceTexts.{nil_right, open_byte}
use Rattle.cbor_edn_paths.proofs.Readings.{empty}

abbrev pub at : Path → Place → Reading
at p q = record { so_far = p; place = q }

-- ---- runs

run_append_over : (x y : List ℕ) (o : Option Reading) → ((r : Reading) → run (x ++ y) r ≡ option_and_then (run y) (run x r)) → option_and_then (run (x ++ y)) o ≡ option_and_then (run y) (option_and_then (run x) o)
run_append_over x y None h = refl
run_append_over x y (Some r) h = h r

pub run-append : (x y : List ℕ) (r : Reading) → run (x ++ y) r ≡ option_and_then (run y) (run x r)
unfolding run
run-append [] y r = refl
run-append (c ∷ x) y r = run_append_over x y (after c r) (λ s. run-append x y s)

-- on from what a front leads to
pub then_run : (x y : List ℕ) (r s : Reading) (t : Option Reading) → run x r ≡ Some s → run y s ≡ t → run (x ++ y) r ≡ t
then_run x y r s t e h = run-append x y r ∙ ap (λ o. option_and_then (run y) o) e ∙ h

pub byte_run : (c : ℕ) (x : List ℕ) (r s : Reading) (t : Option Reading) → after c r ≡ Some s → run x s ≡ t → run (c ∷ x) r ≡ t
unfolding run
byte_run c x r s t e h = ap (λ o. option_and_then (run x) o) e ∙ h

and_some : (o : Option Reading) → option_and_then (λ r. Some r) o ≡ o
and_some None = refl
and_some (Some r) = refl

pub one_run : (c : ℕ) (r : Reading) (t : Option Reading) → after c r ≡ t → run (c ∷ []) r ≡ t
unfolding run
one_run c r t e = and_some (after c r) ∙ e

-- ---- names, quotes, braces

pub run_name : (y x : List ℕ) (p : Path) → list_all is_name_byte y ≡ true → run y (at p (InName x)) ≡ Some (at p (InName (x ++ y)))
unfolding run
run_name [] x p h = ap (λ z. Some (at p (InName z))) (sym (nil_right x))
run_name (c ∷ y) x p h =
    byte_run c y (at p (InName x)) (at p (InName (x ++ (c ∷ [])))) (Some (at p (InName (x ++ (c ∷ y)))))
    (ap (moved_on p) (if_true (is_name_byte c) _ _ (and_left (is_name_byte c) _ h)))
    (run_name y (x ++ (c ∷ [])) p (and_right (is_name_byte c) _ h) ∙ ap (λ z. Some (at p (InName z))) (append_assoc x (c ∷ []) y))

pub run_between : {y : List ℕ} → IsBetween double_quote y → (x : List ℕ) (p : Path) → run y (at p (InQuotes x)) ≡ Some (at p (InQuotes (x ++ y)))
unfolding run
run_between spelling.empty x p = ap (λ z. Some (at p (InQuotes z))) (sym (nil_right x))
run_between (spelling.plain {c = c} {x = y} e f h) x p =
    byte_run c y (at p (InQuotes x)) (at p (InQuotes (x ++ (c ∷ [])))) (Some (at p (InQuotes (x ++ (c ∷ y)))))
    (ap (moved_on p) (if_false (c == double_quote) _ _ e ∙ if_false (c == backslash) _ _ f))
    (run_between h (x ++ (c ∷ [])) p ∙ ap (λ z. Some (at p (InQuotes z))) (append_assoc x (c ∷ []) y))
run_between (spelling.escape {c = c} {x = y} h) x p =
    byte_run backslash (c ∷ y) (at p (InQuotes x)) (at p (Escaped (x ++ (backslash ∷ [])))) (Some (at p (InQuotes (x ++ (backslash ∷ (c ∷ y)))))) refl
    (byte_run c y (at p (Escaped (x ++ (backslash ∷ [])))) (at p (InQuotes ((x ++ (backslash ∷ [])) ++ (c ∷ [])))) (Some (at p (InQuotes (x ++ (backslash ∷ (c ∷ y)))))) refl
    (run_between h ((x ++ (backslash ∷ [])) ++ (c ∷ [])) p ∙ ap (λ z. Some (at p (InQuotes z))) (append_assoc (x ++ (backslash ∷ [])) (c ∷ []) y ∙ append_assoc x (backslash ∷ []) (c ∷ y))))

-- a byte in braces that does not close the key
pub in_braces_run : (c : ℕ) (y x : List ℕ) (m n : Inside) (d e : ℕ) (p : Path) (t : Option Reading) → closes c m d ≡ false → inside_next c m d ≡ (n, e) → run y (at p (InBraces (x ++ (c ∷ [])) n e)) ≡ t → run (c ∷ y) (at p (InBraces x m d)) ≡ t
in_braces_run c y x m n d e p t f g h =
    byte_run c y (at p (InBraces x m d)) (at p (InBraces (x ++ (c ∷ [])) n e)) t
    (ap (moved_on p) (if_false (closes c m d) _ _ f ∙ ap (λ (i : Inside × ℕ). Some (Nothing, InBraces (x ++ (c ∷ [])) i.0 i.1)) g)) h

false_if : (b : Bool) → (b ≡ true → ⊥) → b ≡ false
false_if true h = absurd (h refl)
false_if false h = refl

one_of : (a b : Bool) → (a || b) ≡ true → (a ≡ true) ⊎ (b ≡ true)
one_of true b e = inl refl
one_of false b e = inr e

by_quote : (P : ℕ → Type 0) → P 34 → P 39 → (q : ℕ) → is_quote q ≡ true → P q
by_quote P a b q h = elim (one_of (q == double_quote) (q == single_quote) h) [ inl e ↦ subst P (sym (eqb-true q 34 e)) a | inr e ↦ subst P (sym (eqb-true q 39 e)) b ]

comment_is : (a b : Bool) (e : ℕ) → (if a then Some 47 else if b then Some 10 else None) ≡ Some e → ((a ≡ true) × (47 ≡ e)) ⊎ ((b ≡ true) × (10 ≡ e))
comment_is true b e h = inl (refl, cc)
comment_is false true e h = inr (refl, cc)
comment_is false false e h = absurd (cc)

by_comment : (P : ℕ → ℕ → Type 0) → P 47 47 → P 35 10 → (c e : ℕ) → comment_end c ≡ Some e → P c e
by_comment P a b c e h =
    elim (comment_is (c == 47) (c == 35) e h) [
      | inl i ↦ subst (λ d. P d e) (sym (eqb-true c 47 i.0)) (subst (λ d. P 47 d) i.1 a)
      | inr i ↦ subst (λ d. P d e) (sym (eqb-true c 35 i.0)) (subst (λ d. P 35 d) i.1 b)
    ]

run_quoted : (q : ℕ) → (backslash == q) ≡ false → {y : List ℕ} → IsBetween q y → (x : List ℕ) (d : ℕ) (p : Path) → run y (at p (InBraces x (inside.Quoted q) d)) ≡ Some (at p (InBraces (x ++ y) (inside.Quoted q) d))
unfolding run
run_quoted q slash spelling.empty x d p = ap (λ z. Some (at p (InBraces z (inside.Quoted q) d))) (sym (nil_right x))
run_quoted q slash (spelling.plain {c = c} {x = y} e f h) x d p =
    in_braces_run c y x (inside.Quoted q) (inside.Quoted q) d d p _ refl (if_false (c == q) _ _ e ∙ if_false (c == backslash) _ _ f)
    (run_quoted q slash h (x ++ (c ∷ [])) d p ∙ ap (λ z. Some (at p (InBraces z (inside.Quoted q) d))) (append_assoc x (c ∷ []) y))
run_quoted q slash (spelling.escape {c = c} {x = y} h) x d p =
    in_braces_run backslash (c ∷ y) x (inside.Quoted q) (inside.Escaped q) d d p _ refl (if_false (backslash == q) _ _ slash)
    (in_braces_run c y (x ++ (backslash ∷ [])) (inside.Escaped q) (inside.Quoted q) d d p _ refl refl
    (run_quoted q slash h ((x ++ (backslash ∷ [])) ++ (c ∷ [])) d p ∙ ap (λ z. Some (at p (InBraces z (inside.Quoted q) d))) (append_assoc (x ++ (backslash ∷ [])) (c ∷ []) y ∙ append_assoc x (backslash ∷ []) (c ∷ y))))

run_comment : (e : ℕ) (y x : List ℕ) (d : ℕ) (p : Path) → list_all (λ b. not (b == e)) y ≡ true → run y (at p (InBraces x (inside.Comment e) d)) ≡ Some (at p (InBraces (x ++ y) (inside.Comment e) d))
unfolding run
run_comment e [] x d p h = ap (λ z. Some (at p (InBraces z (inside.Comment e) d))) (sym (nil_right x))
run_comment e (c ∷ y) x d p h =
    in_braces_run c y x (inside.Comment e) (inside.Comment e) d d p _ refl (if_false (c == e) _ _ (not_true (c == e) (and_left (not (c == e)) _ h)))
    (run_comment e y (x ++ (c ∷ [])) d p (and_right (not (c == e)) _ h) ∙ ap (λ z. Some (at p (InBraces z (inside.Comment e) d))) (append_assoc x (c ∷ []) y))

none_are : (a b c d e : Bool) → not (a || (b || (c || (d || e)))) ≡ true → (a ≡ false) × (b ≡ false) × (c ≡ false) × (d ≡ false) × (e ≡ false)
none_are true b c d e h = absurd (cc)
none_are false true c d e h = absurd (cc)
none_are false false true d e h = absurd (cc)
none_are false false false true e h = absurd (cc)
none_are false false false false true h = absurd (cc)
none_are false false false false false h = (refl, refl, refl, refl, refl)

and_false : (a b : Bool) → a ≡ false → (a && b) ≡ false
and_false false b e = refl
and_false true b e = absurd (cc)

deeper : (d : ℕ) → (d + 1 == 0) ≡ false
deeper d = ne_eqb (d + 1) 0 (λ e. omega arith)

-- two parts, a byte in front of each
in_parts : (x y z : List ℕ) (b c : ℕ) → (((x ++ (b ∷ [])) ++ y) ++ (c ∷ [])) ++ z ≡ x ++ (b ∷ (y ++ (c ∷ z)))
in_parts x y z b c = simp append_assoc

pub run_inside : {y : List ℕ} → IsInside y → (x : List ℕ) (d : ℕ) (p : Path) → run y (at p (InBraces x inside.Plain d)) ≡ Some (at p (InBraces (x ++ y) inside.Plain d))
unfolding run
run_inside spelling.nothing x d p = ap (λ z. Some (at p (InBraces z inside.Plain d))) (sym (nil_right x))
run_inside (spelling.other {c = c} {x = y} e h) x d p =
    let f = none_are (is_quote c) (c == 47) (c == 35) (c == 123) (c == 125) e in
    in_braces_run c y x inside.Plain inside.Plain d d p _ (and_false (c == 125) _ f.4)
    (if_false (is_quote c) _ _ f.0 ∙ if_false (c == 47) _ _ f.1 ∙ if_false (c == 35) _ _ f.2 ∙ if_false (c == 123) _ _ f.3 ∙ if_false (c == 125) _ _ f.4)
    (run_inside h (x ++ (c ∷ [])) d p ∙ ap (λ z. Some (at p (InBraces z inside.Plain d))) (append_assoc x (c ∷ []) y))
run_inside (spelling.braces y z h g) x d p =
    let less : d + 1 - 1 ≡ d = omega arith in
    in_braces_run 123 (y ++ (125 ∷ z)) x inside.Plain inside.Plain d (d + 1) p _ refl refl
    (then_run y (125 ∷ z) _ _ _ (run_inside h (x ++ (123 ∷ [])) (d + 1) p)
    (in_braces_run 125 z ((x ++ (123 ∷ [])) ++ y) inside.Plain inside.Plain (d + 1) d p _ (deeper d) (ap (λ n. (inside.Plain, n)) less)
    (run_inside g (((x ++ (123 ∷ [])) ++ y) ++ (125 ∷ [])) d p ∙ ap (λ w. Some (at p (InBraces w inside.Plain d))) (in_parts x y z 123 125))))
run_inside (spelling.quoted {q = q} y z i h g) x d p =
    in_braces_run q (y ++ (q ∷ z)) x inside.Plain (inside.Quoted q) d d p _ (by_quote (λ k. (k == 125 && d == 0) ≡ false) refl refl q i) (if_true (is_quote q) _ _ i)
    (then_run y (q ∷ z) _ _ _ (run_quoted q (by_quote (λ k. (backslash == k) ≡ false) refl refl q i) h (x ++ (q ∷ [])) d p)
    (in_braces_run q z ((x ++ (q ∷ [])) ++ y) (inside.Quoted q) inside.Plain d d p _ refl (if_true (q == q) _ _ (eq-eqb q q refl))
    (run_inside g (((x ++ (q ∷ [])) ++ y) ++ (q ∷ [])) d p ∙ ap (λ w. Some (at p (InBraces w inside.Plain d))) (in_parts x y z q q))))
run_inside (spelling.comment {c = c} e y z i h g) x d p =
    in_braces_run c (y ++ (e ∷ z)) x inside.Plain (inside.Comment e) d d p _ (by_comment (λ k l. (k == 125 && d == 0) ≡ false) refl refl c e i) (by_comment (λ k l. inside_next k inside.Plain d ≡ (inside.Comment l, d)) refl refl c e i)
    (then_run y (e ∷ z) _ _ _ (run_comment e y (x ++ (c ∷ [])) d p h)
    (in_braces_run e z ((x ++ (c ∷ [])) ++ y) (inside.Comment e) inside.Plain d d p _ refl (if_true (e == e) _ _ (eq-eqb e e refl))
    (run_inside g (((x ++ (c ∷ [])) ++ y) ++ (e ∷ [])) d p ∙ ap (λ w. Some (at p (InBraces w inside.Plain d))) (in_parts x y z c e))))

-- ---- numbers

digits_run : (f : ℕ → Place) (g : Place) (p : Path)
    → ((c n : ℕ) → first_digit c ≡ Some n → after c (at p g) ≡ Some (at p (f n)))
    → ((c n m : ℕ) → more_digits n c ≡ Some m → after c (at p (f n)) ≡ Some (at p (f m)))
    → (n : ℕ) → n < 2 ^ 64 → run (decimal n) (at p g) ≡ Some (at p (f n))
digits_run f g p first more n small =
    decimal_by_steps (λ m ds. m < 2 ^ 64 → run ds (at p g) ≡ Some (at p (f m)))
    (λ m lt h. one_run (48 + m) (at p g) (Some (at p (f m))) (first (48 + m) m (first_read m lt)))
    (λ m ds le ih h. let front : m / 10 < 2 ^ 64 = omega arith in then_run ds ((48 + m % 10) ∷ []) (at p g) (at p (f (m / 10))) (Some (at p (f m))) (ih front) (one_run (48 + m % 10) (at p (f (m / 10))) (Some (at p (f m))) (more (48 + m % 10) (m / 10) m (more_read m le h))))
    n small small

no_close : (b : Bracket) (n c m : ℕ) → more_digits n c ≡ Some m → (c == close_byte b) ≡ false
no_close bracket.Square n c m e = false_if (c == 93) (λ t. let h : more_digits n 93 ≡ Some m = subst (λ k. more_digits n k ≡ Some m) (eqb-true c 93 t) e in absurd (cc))
no_close bracket.Round n c m e = false_if (c == 41) (λ t. let h : more_digits n 41 ≡ Some m = subst (λ k. more_digits n k ≡ Some m) (eqb-true c 41 t) e in absurd (cc))
no_close bracket.Angle n c m e = false_if (c == 62) (λ t. let h : more_digits n 62 ≡ Some m = subst (λ k. more_digits n k ≡ Some m) (eqb-true c 62 t) e in absurd (cc))

start_run : (p : Path) (n : ℕ) → n < 2 ^ 64 → run (decimal n) (at p StartSign) ≡ Some (at p (StartNumber n))
start_run p n h = digits_run StartNumber StartSign p (λ c m e. ap (λ o. moved_on p (moved StartNumber o)) e) (λ c m k e. ap (λ o. moved_on p (or_else (moved StartNumber o) (ending (Begun m) (opened c)))) e) n h

occurrence_run : (k : Key) (p : Path) (n : ℕ) → n < 2 ^ 64 → run (decimal n) (at p (Tilde k)) ≡ Some (at p (Occurrence k n))
occurrence_run k p n h = digits_run (Occurrence k) (Tilde k) p (λ c m e. ap (λ o. moved_on p (moved (Occurrence k) o)) e) (λ c m l e. ap (λ o. moved_on p (or_else (moved (Occurrence k) o) (ending (Ended (spec.Value k (Some m))) (opened c)))) e) n h

bracket_run : (b : Bracket) (p : Path) (n : ℕ) → n < 2 ^ 64 → run (decimal n) (at p (Opened b)) ≡ Some (at p (Digits b n))
bracket_run b p n h = digits_run (Digits b) (Opened b) p (λ c m e. ap (λ o. moved_on p (or_else (moved (Digits b) o) (unnumbered b c))) e) (λ c m k e. ap (moved_on p) (if_false (c == close_byte b) _ _ (no_close b m c k e) ∙ ap (moved (Digits b)) e)) n h

-- ---- steps

-- the bytes that begin a step lead into it, and the path so far is p
pub record Opens (r : Reading) (p : Path) : Type 0 where
  pub dot : Place
  pub dotted : after 46 r ≡ Some (at p dot)
  pub begins : (c : ℕ) → next c dot ≡ key_begun c
  pub brace : after 123 r ≡ Some (at p (InBraces [] inside.Plain 0))
  pub square : after 91 r ≡ Some (at p (Opened bracket.Square))
  pub round : after 40 r ≡ Some (at p (Opened bracket.Round))
  pub angle : after 60 r ≡ Some (at p (Opened bracket.Angle))

abbrev by_key : Key → Place → Outcome × Place
by_key k q = (Ended (spec.Value k None), q)

-- a place behind a key
record IsBehind (k : Key) (q : Place) : Type 0 where
  ends : end q ≡ Some (Ended (spec.Value k None))
  tilde : next 126 q ≡ Some (Nothing, Tilde k)
  dot : next 46 q ≡ Some (by_key k Dot)
  brace : next 123 q ≡ Some (by_key k (InBraces [] inside.Plain 0))
  square : next 91 q ≡ Some (by_key k (Opened bracket.Square))
  round : next 40 q ≡ Some (by_key k (Opened bracket.Round))
  angle : next 60 q ≡ Some (by_key k (Opened bracket.Angle))

behind_name : (x : List ℕ) → IsBehind (spec.Name x) (InName x)
behind_name x = record { ends = refl; tilde = refl; dot = refl; brace = refl; square = refl; round = refl; angle = refl }

behind_closed : (k : Key) → IsBehind k (BehindKey k)
behind_closed k = record { ends = refl; tilde = refl; dot = refl; brace = refl; square = refl; round = refl; angle = refl }

record KeyRead (k : Key) (r : Reading) (p : Path) : Type 0 where
  place : Place
  runs : run (key_text k) r ≡ Some (at p place)
  behind : IsBehind k place

name_begins : (c : ℕ) → is_name_byte c ≡ true → key_begun c ≡ Some (Nothing, InName (c ∷ []))
name_begins c e =
    if_false (c == double_quote) _ _ (false_if (c == double_quote) (λ t. let h : is_name_byte 34 ≡ true = subst (λ k. is_name_byte k ≡ true) (eqb-true c 34 t) e in absurd (cc)))
    ∙ if_true (is_name_byte c) _ _ e

key_read : (k : Key) → IsKey k → (r : Reading) (p : Path) → Opens r p → KeyRead k r p
key_read (spec.Name []) h r p o = absurd (h.1 refl)
key_read (spec.Name (c ∷ y)) h r p o = record {
  place = InName (c ∷ y);
  runs = byte_run 46 (c ∷ y) r (at p o.dot) _ o.dotted (byte_run c y (at p o.dot) (at p (InName (c ∷ []))) _ (ap (moved_on p) (o.begins c ∙ name_begins c (and_left (is_name_byte c) _ h.0))) (run_name y (c ∷ []) p (and_right (is_name_byte c) _ h.0)));
  behind = behind_name (c ∷ y);
}
key_read (spec.Quoted x) h r p o = record {
  place = BehindKey (spec.Quoted x);
  runs = byte_run 46 _ r (at p o.dot) _ o.dotted (byte_run double_quote _ (at p o.dot) (at p (InQuotes [])) _ (ap (moved_on p) (o.begins double_quote)) (then_run x (double_quote ∷ []) _ _ _ (run_between h [] p) (one_run double_quote (at p (InQuotes x)) _ refl)));
  behind = behind_closed (spec.Quoted x);
}
key_read (spec.Braced x) h r p o = record {
  place = BehindKey (spec.Braced x);
  runs = byte_run 123 _ r (at p (InBraces [] inside.Plain 0)) _ o.brace (then_run x (125 ∷ []) _ _ _ (run_inside h [] 0 p) (one_run 125 (at p (InBraces x inside.Plain 0)) _ refl));
  behind = behind_closed (spec.Braced x);
}

abbrev pub with_step : Path → Step Key → Path
with_step p s = with_outcome (Ended s) p

pub record StepRead (s : Step Key) (r : Reading) (p : Path) : Type 0 where
  pub to : Reading
  pub runs : run (step_text s) r ≡ Some to
  pub opens : Opens to (with_step p s)
  pub ends : ended to ≡ Some (with_step p s)

closed_opens : (p : Path) → Opens (at p Closed) p
closed_opens p = record { dot = Dot; dotted = refl; begins = λ c. refl; brace = refl; square = refl; round = refl; angle = refl }

value_read : (k : Key) (r : Reading) (p : Path) → KeyRead k r p → StepRead (spec.Value k None) r p
value_read k r p h = record {
  to = at p h.place;
  runs = subst (λ x. run x r ≡ Some (at p h.place)) (sym (nil_right (key_text k))) h.runs;
  opens = record {
    dot = Dot;
    dotted = ap (moved_on p) h.behind.dot;
    begins = λ c. refl;
    brace = ap (moved_on p) h.behind.brace;
    square = ap (moved_on p) h.behind.square;
    round = ap (moved_on p) h.behind.round;
    angle = ap (moved_on p) h.behind.angle;
  };
  ends = ap (λ o. option_map (λ w. with_outcome w p) o) h.behind.ends;
}

nth_read : (k : Key) (n : ℕ) (r : Reading) (p : Path) → n < 2 ^ 64 → KeyRead k r p → StepRead (spec.Value k (Some n)) r p
nth_read k n r p small h = record {
  to = at p (Occurrence k n);
  runs = then_run (key_text k) (126 ∷ decimal n) r (at p h.place) _ h.runs (byte_run 126 (decimal n) (at p h.place) (at p (Tilde k)) _ (ap (moved_on p) h.behind.tilde) (occurrence_run k p n small));
  opens = record { dot = Dot; dotted = refl; begins = λ c. refl; brace = refl; square = refl; round = refl; angle = refl };
  ends = refl;
}

bracket_read : (b : Bracket) (s : Step Key) (n : ℕ) (r : Reading) (p : Path) → n < 2 ^ 64 → step_text s ≡ open_byte b ∷ (decimal n ++ (close_byte b ∷ [])) → after (open_byte b) r ≡ Some (at p (Opened b)) → after (close_byte b) (at p (Digits b n)) ≡ Some (at (with_step p s) Closed) → StepRead s r p
bracket_read b s n r p small is opens closes = record {
  to = at (with_step p s) Closed;
  runs = subst (λ x. run x r ≡ Some (at (with_step p s) Closed)) (sym is) (byte_run (open_byte b) _ r (at p (Opened b)) _ opens (then_run (decimal n) (close_byte b ∷ []) _ _ _ (bracket_run b p n small) (one_run (close_byte b) (at p (Digits b n)) _ closes)));
  opens = closed_opens (with_step p s);
  ends = refl;
}

step_read : (s : Step Key) → IsStep s → (r : Reading) (p : Path) → Opens r p → StepRead s r p
step_read (spec.Value k None) h r p o = value_read k r p (key_read k h.0 r p o)
step_read (spec.Value k (Some n)) h r p o = nth_read k n r p h.1 (key_read k h.0 r p o)
step_read (spec.Element n) h r p o = bracket_read bracket.Square (spec.Element n) n r p h refl o.square refl
step_read spec.PastLast h r p o = record {
  to = at (with_step p spec.PastLast) Closed;
  runs = byte_run 91 _ r (at p (Opened bracket.Square)) _ o.square (byte_run 43 _ _ (at p Plus) _ refl (one_run 93 (at p Plus) _ refl));
  opens = closed_opens (with_step p spec.PastLast);
  ends = refl;
}
step_read (spec.Content None) h r p o = record {
  to = at (with_step p (spec.Content None)) Closed;
  runs = byte_run 40 _ r (at p (Opened bracket.Round)) _ o.round (one_run 41 (at p (Opened bracket.Round)) _ refl);
  opens = closed_opens (with_step p (spec.Content None));
  ends = refl;
}
step_read (spec.Content (Some n)) h r p o = bracket_read bracket.Round (spec.Content (Some n)) n r p h refl o.round refl
step_read (spec.Embedded n) h r p o = bracket_read bracket.Angle (spec.Embedded n) n r p h refl o.angle refl

pub record PathRead (text : List ℕ) (r : Reading) (p : Path) : Type 0 where
  pub to : Reading
  pub runs : run text r ≡ Some to
  pub ends : ended to ≡ Some p

no_more : (ss : List (Step Key)) → ss ++ [] ≡ ss
no_more [] = refl
no_more (s ∷ ss) = ap (λ ts. s ∷ ts) (no_more ss)

pub read_nothing : (r : Reading) (p : Path) → ended r ≡ Some p → PathRead [] r p
unfolding run
read_nothing r p e = record { to = r; runs = refl; ends = e }

read_more : (s : Step Key) (x : List ℕ) (r : Reading) (p q : Path) (h : StepRead s r p) → PathRead x h.to q → PathRead (step_text s ++ x) r q
read_more s x r p q h g = record { to = g.to; runs = then_run (step_text s) x r h.to (Some g.to) h.runs g.runs; ends = g.ends }

abbrev with_steps : Path → List (Step Key) → Path
with_steps p ss = record { start = p.start; steps = p.steps ++ ss }

steps_read : (ss : List (Step Key)) → AreSteps ss → (r : Reading) (p : Path) → Opens r p → ended r ≡ Some p → PathRead (steps_text ss) r (with_steps p ss)
steps_read [] h r p o e = read_nothing r (with_steps p []) (e ∙ ap (λ ts. Some (record { start = p.start; steps = ts })) (sym (no_more p.steps)))
steps_read (s ∷ ss) h r p o e =
    let first = step_read s h.0 r p o in
    subst (λ ts. PathRead (step_text s ++ steps_text ss) r (record { start = p.start; steps = ts })) (append_assoc p.steps (s ∷ []) ss) (read_more s (steps_text ss) r p (with_steps (with_step p s) ss) first (steps_read ss h.1 first.to (with_step p s) first.opens first.ends))

begin_opens : Opens begin empty
begin_opens = record { dot = Root; dotted = refl; begins = λ c. refl; brace = refl; square = refl; round = refl; angle = refl }

start_opens : (n : ℕ) → Opens (at empty (StartNumber n)) (record { start = Some n; steps = [] })
start_opens n = record { dot = Dot; dotted = refl; begins = λ c. refl; brace = refl; square = refl; round = refl; angle = refl }

numbered_read : (n : ℕ) (x : List ℕ) (p : Path) → n < 2 ^ 64 → PathRead x (at empty (StartNumber n)) p → PathRead (64 ∷ (decimal n ++ x)) begin p
numbered_read n x p small h = record {
  to = h.to;
  runs = byte_run 64 _ begin (at empty StartSign) _ refl (then_run (decimal n) x _ _ _ (start_run empty n small) h.runs);
  ends = h.ends;
}

read_from : (start : Option ℕ) (ss : List (Step Key)) → IsIndexIfAny start → AreSteps ss → PathRead (path_text (record { start = start; steps = ss })) begin (record { start = start; steps = ss })
unfolding run
read_from None [] i h = record { to = at empty Root; runs = refl; ends = refl }
read_from None (s ∷ ss) i h =
    let first = step_read s h.0 begin empty begin_opens in
    read_more s (steps_text ss) begin empty (record { start = None; steps = s ∷ ss }) first (steps_read ss h.1 first.to (with_step empty s) first.opens first.ends)
read_from (Some n) ss i h = numbered_read n (steps_text ss) (record { start = Some n; steps = ss }) i (steps_read ss h (at empty (StartNumber n)) (record { start = Some n; steps = [] }) (start_opens n) refl)

-- Completeness.
pub path_read : (p : Path) → IsPath p → PathRead (path_text p) begin p
path_read p h = read_from p.start p.steps h.0 h.1
