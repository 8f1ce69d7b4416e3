-- What stands between quotes and braces, byte by byte.
use Rattle.std.proofs.Common.{arith, ◌≡◌, ℕ, zero, suc, ◌+◌, ◌-◌, Bool, true, false, List, [], ◌∷◌, ◌++◌, Some, refl, sym, ap, subst, ◌∙◌, append_assoc}
use Rattle.std.specs.Prelude.{if◌then◌else◌, ◌==◌, ◌&&◌, ◌||◌, not}
use Rattle.std.specs.List.{list_all}
use Rattle.std.proofs.lemmas.Bool.{eqb-true}
use Rattle.std.proofs.lemmas.List.Folds.{list_all-append}
use Rattle.cbor_edn_parts.specs.string.Literal.{backslash}
use Rattle.cbor_edn_paths.specs.Spelling as spelling
use Rattle.cbor_edn_paths.specs.Spelling.{IsBetween, IsInside, is_quote, comment_end}
use Rattle.cbor_edn_paths.specs.internal.Places.{plain_next, inside_next, closes}
use Rattle.cbor_edn_paths.specs.declared.place.Inside.{Inside}
use Rattle.cbor_edn_paths.specs.declared.place.Inside.TheVariants as inside

-- by cases of a test
pub choose : {A : Type 0} (P : A → Type 0) (b : Bool) (x y : A) → (b ≡ true → P x) → (b ≡ false → P y) → P (if b then x else y)
choose P true x y f g = f refl
choose P false x y f g = g refl

pub if_true : {A : Type 0} (b : Bool) (x y : A) → b ≡ true → (if b then x else y) ≡ x
if_true true x y e = refl
if_true false x y e = absurd (cc)

pub if_false : {A : Type 0} (b : Bool) (x y : A) → b ≡ false → (if b then x else y) ≡ y
if_false false x y e = refl
if_false true x y e = absurd (cc)

pub not_true : (b : Bool) → not b ≡ true → b ≡ false
not_true true e = absurd (cc)
not_true false e = refl

pub and_left : (a b : Bool) → (a && b) ≡ true → a ≡ true
and_left true b e = refl
and_left false b e = absurd (cc)

pub and_right : (a b : Bool) → (a && b) ≡ true → b ≡ true
and_right true b e = e
and_right false b e = absurd (cc)

pub between-append : {q : ℕ} {x y : List ℕ} → IsBetween q x → IsBetween q y → IsBetween q (x ++ y)
between-append spelling.empty h = h
between-append (spelling.plain e f g) h = spelling.plain e f (between-append g h)
between-append (spelling.escape g) h = spelling.escape (between-append g h)

pub inside-append : {x y : List ℕ} → IsInside x → IsInside y → IsInside (x ++ y)
inside-append spelling.nothing h = h
inside-append (spelling.other e g) h = spelling.other e (inside-append g h)
inside-append {y = z} (spelling.braces x y f g) h = subst IsInside (ap (λ w. 123 ∷ w) (sym (append_assoc x (125 ∷ y) z))) (spelling.braces x (y ++ z) f (inside-append g h))
inside-append {y = z} (spelling.quoted {q = q} x y e f g) h = subst IsInside (ap (λ w. q ∷ w) (sym (append_assoc x (q ∷ y) z))) (spelling.quoted x (y ++ z) e f (inside-append g h))
inside-append {y = z} (spelling.comment {c = c} e x y i f g) h = subst IsInside (ap (λ w. c ∷ w) (sym (append_assoc x (e ∷ y) z))) (spelling.comment e x (y ++ z) i f (inside-append g h))

-- what stands behind so many open braces
abbrev pub IsOpen : ℕ → List ℕ → Type 0
IsOpen zero x = IsInside x
IsOpen (suc d) x = (y : List ℕ) × (z : List ℕ) × IsOpen d y × IsInside z × (x ≡ y ++ (123 ∷ z))

abbrev pub IsPart : Inside → ℕ → List ℕ → Type 0
IsPart inside.Plain d x = IsOpen d x
IsPart (inside.Quoted q) d x = (y : List ℕ) × (z : List ℕ) × IsOpen d y × (is_quote q ≡ true) × IsBetween q z × (x ≡ y ++ (q ∷ z))
IsPart (inside.Escaped q) d x = (y : List ℕ) × (z : List ℕ) × IsOpen d y × (is_quote q ≡ true) × IsBetween q z × (x ≡ y ++ (q ∷ (z ++ (backslash ∷ []))))
IsPart (inside.Comment e) d x = (y : List ℕ) × (c : ℕ) × (z : List ℕ) × IsOpen d y × (comment_end c ≡ Some e) × (list_all (λ b. not (b == e)) z ≡ true) × (x ≡ y ++ (c ∷ z))

open_with : (d : ℕ) (x y : List ℕ) → IsOpen d x → IsInside y → IsOpen d (x ++ y)
open_with zero x y h g = inside-append h g
open_with (suc d) x y h g = (h.0, h.1 ++ y, h.2, inside-append h.3 g, ap (λ w. w ++ y) h.4 ∙ append_assoc h.0 (123 ∷ h.1) y)

-- one byte more behind a part that was taken apart
one_more : (x y z : List ℕ) (k c : ℕ) → x ≡ y ++ (k ∷ z) → x ++ (c ∷ []) ≡ y ++ (k ∷ (z ++ (c ∷ [])))
one_more x y z k c e = ap (λ w. w ++ (c ∷ [])) e ∙ append_assoc y (k ∷ z) (c ∷ [])

none_of : (a b c d e : Bool) → a ≡ false → b ≡ false → c ≡ false → d ≡ false → e ≡ false → not (a || (b || (c || (d || e)))) ≡ true
none_of a b c d e p q r s t = rw (p, q, r, s, t) refl

not_end : (b : Bool) → b ≡ false → (not b && true) ≡ true
not_end b e = rw e refl

pub both : (a b : Bool) → a ≡ true → b ≡ true → (a && b) ≡ true
both a b p q = rw (p, q) refl

closes_there : (c : ℕ) → c ≡ 125 → (c == 125 && true) ≡ false → ⊥
closes_there c e f = let g : (125 == 125 && true) ≡ false = subst (λ b. (b == 125 && true) ≡ false) e f in absurd (cc)

-- the brace that closes what is not the key
closed : (d c : ℕ) (x : List ℕ) → c ≡ 125 → (c == 125 && d == 0) ≡ false → IsOpen d x → IsOpen (d - 1) (x ++ (c ∷ []))
closed zero c x e f h = absurd (closes_there c e f)
closed (suc d) c x e f h =
    let less : d ≡ suc d - 1 = omega arith in
    subst (λ n. IsOpen n (x ++ (c ∷ []))) less (subst (IsOpen d) (sym (one_more x h.0 h.1 123 c h.4)) (open_with d h.0 (123 ∷ (h.1 ++ (c ∷ []))) h.2 (subst (λ b. IsInside (123 ∷ (h.1 ++ (b ∷ [])))) (sym e) (spelling.braces h.1 [] h.3 spelling.nothing))))

plain_more : (c d : ℕ) (x : List ℕ) → (c == 125 && d == 0) ≡ false → IsOpen d x → IsPart (plain_next c d).0 (plain_next c d).1 (x ++ (c ∷ []))
plain_more c d x f h =
    let P : Inside × ℕ → Type 0 = λ p. IsPart p.0 p.1 (x ++ (c ∷ [])) in
    choose P (is_quote c) _ _ (λ q. (x, [], h, q, spelling.empty, refl)) (λ q.
    choose P (c == 47) _ _ (λ e. (x, c, [], h, ap comment_end (eqb-true c 47 e), refl, refl)) (λ e.
    choose P (c == 35) _ _ (λ g. (x, c, [], h, ap comment_end (eqb-true c 35 g), refl, refl)) (λ g.
    choose P (c == 123) _ _ (λ o. let more : suc d ≡ d + 1 = omega arith in subst (λ n. IsOpen n (x ++ (c ∷ []))) more (x, [], h, spelling.nothing, ap (λ b. x ++ (b ∷ [])) (eqb-true c 123 o))) (λ o.
    choose P (c == 125) _ _ (λ k. closed d c x (eqb-true c 125 k) f h) (λ k.
    open_with d x (c ∷ []) h (spelling.other (none_of _ _ _ _ _ q e g o k) spelling.nothing))))))

-- between quotes
quoted_more : (q c d : ℕ) (x : List ℕ) → IsPart (inside.Quoted q) d x → IsPart (inside_next c (inside.Quoted q) d).0 (inside_next c (inside.Quoted q) d).1 (x ++ (c ∷ []))
quoted_more q c d x h =
    let P : Inside × ℕ → Type 0 = λ p. IsPart p.0 p.1 (x ++ (c ∷ [])) in
    let same : x ++ (c ∷ []) ≡ h.0 ++ (q ∷ (h.1 ++ (c ∷ []))) = one_more x h.0 h.1 q c h.5 in
    choose P (c == q) _ _ (λ e. subst (IsOpen d) (sym (same ∙ ap (λ b. h.0 ++ (q ∷ (h.1 ++ (b ∷ [])))) (eqb-true c q e))) (open_with d h.0 (q ∷ (h.1 ++ (q ∷ []))) h.2 (spelling.quoted h.1 [] h.3 h.4 spelling.nothing))) (λ e.
    choose P (c == backslash) _ _ (λ b. (h.0, h.1, h.2, h.3, h.4, same ∙ ap (λ k. h.0 ++ (q ∷ (h.1 ++ (k ∷ [])))) (eqb-true c backslash b))) (λ b.
    (h.0, h.1 ++ (c ∷ []), h.2, h.3, between-append h.4 (spelling.plain e b spelling.empty), same)))

escaped_more : (q c d : ℕ) (x : List ℕ) → IsPart (inside.Escaped q) d x → IsPart (inside.Quoted q) d (x ++ (c ∷ []))
escaped_more q c d x h = (h.0, h.1 ++ (backslash ∷ (c ∷ [])), h.2, h.3, between-append h.4 (spelling.escape spelling.empty), one_more x h.0 (h.1 ++ (backslash ∷ [])) q c h.5 ∙ ap (λ w. h.0 ++ (q ∷ w)) (append_assoc h.1 (backslash ∷ []) (c ∷ [])))

comment_more : (e c d : ℕ) (x : List ℕ) → IsPart (inside.Comment e) d x → IsPart (inside_next c (inside.Comment e) d).0 (inside_next c (inside.Comment e) d).1 (x ++ (c ∷ []))
comment_more e c d x h =
    let P : Inside × ℕ → Type 0 = λ p. IsPart p.0 p.1 (x ++ (c ∷ [])) in
    let same : x ++ (c ∷ []) ≡ h.0 ++ (h.1 ∷ (h.2 ++ (c ∷ []))) = one_more x h.0 h.2 h.1 c h.6 in
    choose P (c == e) _ _ (λ i. subst (IsOpen d) (sym (same ∙ ap (λ b. h.0 ++ (h.1 ∷ (h.2 ++ (b ∷ [])))) (eqb-true c e i))) (open_with d h.0 (h.1 ∷ (h.2 ++ (e ∷ []))) h.3 (spelling.comment e h.2 [] h.4 h.5 spelling.nothing))) (λ i.
    (h.0, h.1, h.2 ++ (c ∷ []), h.3, h.4, list_all-append (λ b. not (b == e)) h.2 (c ∷ []) ∙ both _ _ h.5 (not_end (c == e) i), same))

pub part_more : (m : Inside) (c d : ℕ) (x : List ℕ) → closes c m d ≡ false → IsPart m d x → IsPart (inside_next c m d).0 (inside_next c m d).1 (x ++ (c ∷ []))
part_more inside.Plain c d x f h = plain_more c d x f h
part_more (inside.Quoted q) c d x f h = quoted_more q c d x h
part_more (inside.Escaped q) c d x f h = escaped_more q c d x h
part_more (inside.Comment e) c d x f h = comment_more e c d x h
