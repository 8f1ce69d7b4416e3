-- Space texts stay space texts.
use Rattle.std.proofs.Common.{ℕ, ◌≡◌, ◌≢◌, inl, inr, ◌≤◌, ◌<◌, List, [], ◌∷◌, ◌++◌, refl, sym, ap, subst, ◌∙◌, append_assoc, arith}
use Rattle.std.specs.List.{flat_map}
use Rattle.std.specs.Str.{chars, IsUtf8, encode_utf8_all}
use mathlib.Core.Logic.{⊎_elim}
use Rattle.std.proofs.lemmas.Grind.{flat_map-append}
use Rattle.std.proofs.lemmas.List.{append-nil}
use Rattle.std.proofs.lemmas.Str.{IsUtf8-nil, IsUtf8-append, chars-append, encodes-chars}
use Rattle.cbor_edn_parts.proofs.lemmas.base.Each.{Each, each, all}
use Rattle.cbor_edn_parts.proofs.lemmas.string.Applications.{before_byte, behind_byte}
use Rattle.cbor_edn_parts.specs.space.Space.{IsBlank, InSlashes, InHash, IsComment, slashes, hash, IsSpace, empty, blank, comment, IsMandatorySpace, IsListEnd, space, comma, IsSeparator, comma_first, space_alone, space_comma}
use Rattle.cbor_edn_harmless.specs.declared.Place.TheVariants.{Outside}
use Rattle.cbor_edn_harmless.specs.Harmless.{in_space, harmless_space}
use Rattle.cbor_edn_harmless.specs.internal.Rewriting.{after}
use Rattle.cbor_edn_harmless.proofs.Characters.{each_weaker, one_utf8, chars_next, IsNeutral, space_line_feed, space_plain, none_in, inside_kept}
use Rattle.cbor_edn_harmless.proofs.Walks.{Walks, none, step, both, in_slashes, in_hash}

-- ---- cutting

abbrev pub Cut : List ℕ → Type 0
Cut s = (r : List ℕ) → IsUtf8 (s ++ r) → IsUtf8 s × IsUtf8 r

utf8_next : (c : ℕ) (x : List ℕ) → c < 128 → IsUtf8 x → IsUtf8 (c ∷ x)
utf8_next c x small utf8 = IsUtf8-append (c ∷ []) x (one_utf8 c small) utf8

-- a text that ends in an ASCII byte
pub cut_behind : (x : List ℕ) (c : ℕ) → c < 128 → Cut (x ++ (c ∷ []))
cut_behind x c small r utf8 =
    let whole : IsUtf8 (x ++ (c ∷ r)) = subst IsUtf8 (append_assoc x (c ∷ []) r) utf8 in
    (IsUtf8-append x (c ∷ []) (before_byte x c r small whole) (one_utf8 c small), behind_byte x c r small whole)

comment_cut : {b : List ℕ} → IsComment b → Cut b
comment_cut (slashes x h) = cut_behind (47 ∷ x) 47 (omega arith)
comment_cut (hash x h) = cut_behind (35 ∷ x) 10 (omega arith)

blank_small : (c : ℕ) → IsBlank c → c < 128
blank_small c b = ⊎_elim (λ e. omega arith) (⊎_elim (λ e. omega arith) (⊎_elim (λ e. omega arith) (λ e. omega arith))) b

pub space_cut : {s : List ℕ} → IsSpace s → Cut s
space_cut empty r utf8 = (IsUtf8-nil, utf8)
space_cut (blank {c = c} {x = x} b s) r utf8 =
    let rest = space_cut s r (behind_byte [] c (x ++ r) (blank_small c b) utf8) in
    (utf8_next c x (blank_small c b) rest.0, rest.1)
space_cut (comment {b = b} {x = x} k s) r utf8 =
    let one = comment_cut k (x ++ r) (subst IsUtf8 (append_assoc b x r) utf8) in
    let rest = space_cut s r one.1 in
    (IsUtf8-append b x one.0 rest.0, rest.1)

comma_cut : (x y : List ℕ) → IsSpace x → IsSpace y → Cut (x ++ (44 ∷ y))
comma_cut x y s t r utf8 =
    let front = space_cut s (44 ∷ (y ++ r)) (subst IsUtf8 (append_assoc x (44 ∷ y) r) utf8) in
    let back = space_cut t r (behind_byte [] 44 (y ++ r) (omega arith) front.1) in
    (IsUtf8-append x (44 ∷ y) front.0 (utf8_next 44 y (omega arith) back.0), back.1)

pub end_cut : {s : List ℕ} → IsListEnd s → Cut s
end_cut (space s) = space_cut s
end_cut (comma {x = x} {y = y} s t) = comma_cut x y s t

pub separator_cut : {s : List ℕ} → IsSeparator s → Cut s
separator_cut (comma_first {y = y} t) = comma_cut [] y empty t
separator_cut (space_alone s) = space_cut s.0
separator_cut (space_comma {x = x} {y = y} s t) = comma_cut x y s.0 t

-- ---- walks

chars_comma : (x y : List ℕ) → IsUtf8 x → chars (x ++ (44 ∷ y)) ≡ chars x ++ (44 ∷ chars y)
chars_comma x y utf8 = chars-append x (44 ∷ y) utf8 ∙ ap (λ l. chars x ++ l) (chars_next 44 y (omega arith))

-- a comment between two ASCII characters
chars_between : (a b : ℕ) (x : List ℕ) → a < 128 → b < 128 → IsUtf8 (a ∷ (x ++ (b ∷ []))) → (IsUtf8 x) × (chars (a ∷ (x ++ (b ∷ []))) ≡ a ∷ (chars x ++ (b ∷ [])))
unfolding chars
chars_between a b x first last utf8 =
    let inside : IsUtf8 (x ++ (b ∷ [])) = behind_byte [] a (x ++ (b ∷ [])) first utf8 in
    let own : IsUtf8 x = before_byte x b [] last inside in
    (own, chars_next a (x ++ (b ∷ [])) first ∙ ap (λ l. a ∷ l) (chars-append x (b ∷ []) own ∙ ap (λ l. chars x ++ l) (chars_next b [] last)))

not_slash : (c : ℕ) → InSlashes c → c ≢ 47
not_slash c h = h.0

not_line_feed : (c : ℕ) → InHash c → c ≢ 10
not_line_feed c h e = ⊎_elim (λ t. absurd (omega arith)) (⊎_elim (λ t. absurd (omega arith)) (λ p. absurd (omega arith))) h

-- the bytes of a text by its characters
by_characters : {P : ℕ → Type 0} (x : List ℕ) → IsUtf8 x → Each P x → Each P (encode_utf8_all (chars x))
by_characters {P} x utf8 h = subst (λ l. Each P l) (sym (encodes-chars x utf8)) h

comment_walks : {b : List ℕ} → IsComment b → IsUtf8 b → Walks in_space Outside (chars b) Outside
comment_walks (slashes x h) utf8 =
    let inner = chars_between 47 47 x (omega arith) (omega arith) utf8 in
    let free = none_in 47 (omega arith) (chars x) (by_characters x inner.0 (each_weaker not_slash (each h))) in
    subst (λ l. Walks in_space Outside l Outside) (sym inner.1) (step refl refl (both (in_slashes free) (step refl refl none)))
comment_walks (hash x h) utf8 =
    let inner = chars_between 35 10 x (omega arith) (omega arith) utf8 in
    let free = none_in 10 (omega arith) (chars x) (by_characters x inner.0 (each_weaker not_line_feed (each h))) in
    subst (λ l. Walks in_space Outside l Outside) (sym inner.1) (step refl refl (both (in_hash free) (step refl refl none)))

blank_after : (c : ℕ) → IsBlank c → after Outside c ≡ Outside
blank_after c b =
    ⊎_elim (λ e. ap (after Outside) e) (⊎_elim (λ e. ap (after Outside) e) (⊎_elim (λ e. ap (after Outside) e) (λ e. ap (after Outside) e))) b

pub space_walks : {s : List ℕ} → IsSpace s → IsUtf8 s → Walks in_space Outside (chars s) Outside
unfolding chars
space_walks empty utf8 = none
space_walks (blank {c = c} {x = x} b s) utf8 =
    let small = blank_small c b in
    subst (λ l. Walks in_space Outside l Outside) (sym (chars_next c x small)) (step (blank_after c b) refl (space_walks s (behind_byte [] c x small utf8)))
space_walks (comment {b = b} {x = x} k s) utf8 =
    let one = comment_cut k x utf8 in
    subst (λ l. Walks in_space Outside l Outside) (sym (chars-append b x one.0)) (both (comment_walks k one.0) (space_walks s one.1))

comma_walks : (x y : List ℕ) → IsSpace x → IsSpace y → IsUtf8 (x ++ (44 ∷ y)) → Walks in_space Outside (chars (x ++ (44 ∷ y))) Outside
comma_walks x y s t utf8 =
    let front = space_cut s (44 ∷ y) utf8 in
    subst (λ l. Walks in_space Outside l Outside) (sym (chars_comma x y front.0))
    (both (space_walks s front.0) (step refl refl (space_walks t (behind_byte [] 44 y (omega arith) front.1))))

pub end_walks : {s : List ℕ} → IsListEnd s → IsUtf8 s → Walks in_space Outside (chars s) Outside
end_walks (space s) utf8 = space_walks s utf8
end_walks (comma {x = x} {y = y} s t) utf8 = comma_walks x y s t utf8

pub separator_walks : {s : List ℕ} → IsSeparator s → IsUtf8 s → Walks in_space Outside (chars s) Outside
separator_walks (comma_first {y = y} t) utf8 = comma_walks [] y empty t utf8
separator_walks (space_alone s) utf8 = space_walks s.0 utf8
separator_walks (space_comma {x = x} {y = y} s t) utf8 = comma_walks x y s.0 t utf8

-- ---- in the same sets

harmless_append : (x y : List ℕ) → IsUtf8 x → harmless_space (x ++ y) ≡ harmless_space x ++ harmless_space y
unfolding harmless_space
harmless_append x y utf8 = ap (flat_map in_space) (chars-append x y utf8) ∙ flat_map-append in_space (chars x) (chars y)

harmless_next : (c : ℕ) (x : List ℕ) → c < 128 → harmless_space (c ∷ x) ≡ in_space c ++ harmless_space x
unfolding harmless_space
harmless_next c x small = ap (flat_map in_space) (chars_next c x small)

harmless_plain : (c : ℕ) (x : List ℕ) → 32 ≤ c → c < 127 → harmless_space (c ∷ x) ≡ c ∷ harmless_space x
harmless_plain c x low high = harmless_next c x (omega arith) ∙ ap (λ l. l ++ harmless_space x) (space_plain c low high)

harmless_none : harmless_space [] ≡ []
unfolding harmless_space chars
harmless_none = refl

-- the characters between the ends of a comment
between : (a b : ℕ) (x : List ℕ) → 32 ≤ a → a < 127 → b < 128 → in_space b ≡ b ∷ [] → IsUtf8 (a ∷ (x ++ (b ∷ []))) → harmless_space (a ∷ (x ++ (b ∷ []))) ≡ a ∷ (flat_map in_space (chars x) ++ (b ∷ []))
unfolding harmless_space
between a b x low high last same utf8 =
    let inner = chars_between a b x (omega arith) last utf8 in
    ap (flat_map in_space) inner.1 ∙ (ap (λ l. l ++ flat_map in_space (chars x ++ (b ∷ []))) (space_plain a low high)
    ∙ ap (λ l. a ∷ l) (flat_map-append in_space (chars x) (b ∷ []) ∙ ap (λ l. flat_map in_space (chars x) ++ l) (append-nil (in_space b) ∙ same)))

neutral_in_slashes : (c : ℕ) → IsNeutral c → InSlashes c
neutral_in_slashes c h = (h.2, inr (omega arith, omega arith))

neutral_in_hash : (c : ℕ) → IsNeutral c → InHash c
neutral_in_hash c h = inr (inr (omega arith, omega arith))

comment_kept : {b : List ℕ} → IsComment b → IsUtf8 b → IsComment (harmless_space b)
comment_kept (slashes x h) utf8 =
    let own = (chars_between 47 47 x (omega arith) (omega arith) utf8).0 in
    let printable : InSlashes 92 = ((λ e. omega arith), inr (omega arith, omega arith)) in
    let blank : InSlashes 32 = ((λ e. omega arith), inr (omega arith, omega arith)) in
    subst IsComment (sym (between 47 47 x (omega arith) (omega arith) (omega arith) (space_plain 47 (omega arith) (omega arith)) utf8))
    (slashes (flat_map in_space (chars x)) (all (inside_kept InSlashes blank printable neutral_in_slashes (chars x) (by_characters x own (each h)))))
comment_kept (hash x h) utf8 =
    let own = (chars_between 35 10 x (omega arith) (omega arith) utf8).0 in
    let printable : InHash 92 = inr (inr (omega arith, omega arith)) in
    let blank : InHash 32 = inr (inr (omega arith, omega arith)) in
    subst IsComment (sym (between 35 10 x (omega arith) (omega arith) (omega arith) space_line_feed utf8))
    (hash (flat_map in_space (chars x)) (all (inside_kept InHash blank printable neutral_in_hash (chars x) (by_characters x own (each h)))))

-- a blank becomes one
blank_kept : (c : ℕ) → IsBlank c → (d : ℕ) × IsBlank d × (in_space c ≡ d ∷ [])
blank_kept c b =
    ⊎_elim (λ e. (32, inr (inr (inr refl)), ap in_space e))
    (⊎_elim (λ e. (10, inr (inl refl), ap in_space e ∙ space_line_feed))
    (⊎_elim (λ e. (32, inr (inr (inr refl)), ap in_space e))
    (λ e. (32, inr (inr (inr refl)), ap in_space e ∙ space_plain 32 (omega arith) (omega arith))))) b

pub space_kept : {s : List ℕ} → IsSpace s → IsUtf8 s → IsSpace (harmless_space s)
space_kept empty utf8 = subst IsSpace (sym harmless_none) empty
space_kept (blank {c = c} {x = x} b s) utf8 =
    let (d, is, made) = blank_kept c b in
    let small = blank_small c b in
    subst IsSpace (sym (harmless_next c x small ∙ ap (λ l. l ++ harmless_space x) made)) (blank is (space_kept s (behind_byte [] c x small utf8)))
space_kept (comment {b = b} {x = x} k s) utf8 =
    let one = comment_cut k x utf8 in
    subst IsSpace (sym (harmless_append b x one.0)) (comment (comment_kept k one.0) (space_kept s one.1))

-- what is not empty stays so
comment_filled : {b : List ℕ} (x : List ℕ) → IsComment b → b ++ x ≢ []
comment_filled x (slashes y h) e = absurd cc
comment_filled x (hash y h) e = absurd cc

filled : {s : List ℕ} → IsSpace s → IsUtf8 s → s ≢ [] → harmless_space s ≢ []
filled empty utf8 some = λ e. some refl
filled (blank {c = c} {x = x} b s) utf8 some = λ e.
    let (d, is, made) = blank_kept c b in
    let same : d ∷ harmless_space x ≡ [] = sym (harmless_next c x (blank_small c b) ∙ ap (λ l. l ++ harmless_space x) made) ∙ e in
    absurd cc
filled (comment {b = b} {x = x} k s) utf8 some = λ e.
    let one = comment_cut k x utf8 in
    comment_filled (harmless_space x) (comment_kept k one.0) (sym (harmless_append b x one.0) ∙ e)

pub mandatory_kept : {s : List ℕ} → IsMandatorySpace s → IsUtf8 s → IsMandatorySpace (harmless_space s)
mandatory_kept s utf8 = (space_kept s.0 utf8, filled s.0 utf8 s.1)

-- the two parts at a comma
comma_kept : (x y : List ℕ) → IsSpace x → IsSpace y → IsUtf8 (x ++ (44 ∷ y)) → (harmless_space (x ++ (44 ∷ y)) ≡ harmless_space x ++ (44 ∷ harmless_space y)) × IsUtf8 x × IsUtf8 y
comma_kept x y s t utf8 =
    let front = space_cut s (44 ∷ y) utf8 in
    (harmless_append x (44 ∷ y) front.0 ∙ ap (λ l. harmless_space x ++ l) (harmless_plain 44 y (omega arith) (omega arith)), front.0, behind_byte [] 44 y (omega arith) front.1)

pub end_kept : {s : List ℕ} → IsListEnd s → IsUtf8 s → IsListEnd (harmless_space s)
end_kept (space s) utf8 = space (space_kept s utf8)
end_kept (comma {x = x} {y = y} s t) utf8 =
    let (is, front, back) = comma_kept x y s t utf8 in
    subst IsListEnd (sym is) (comma (space_kept s front) (space_kept t back))

pub separator_kept : {s : List ℕ} → IsSeparator s → IsUtf8 s → IsSeparator (harmless_space s)
separator_kept (comma_first {y = y} t) utf8 = subst IsSeparator (sym (harmless_plain 44 y (omega arith) (omega arith))) (comma_first (space_kept t (behind_byte [] 44 y (omega arith) utf8)))
separator_kept (space_alone s) utf8 = space_alone (mandatory_kept s utf8)
separator_kept (space_comma {x = x} {y = y} s t) utf8 =
    let (is, front, back) = comma_kept x y s.0 t utf8 in
    subst IsSeparator (sym is) (space_comma (mandatory_kept s front) (space_kept t back))
