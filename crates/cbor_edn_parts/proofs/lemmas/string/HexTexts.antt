-- The texts behind the prefix `h` stand for the bytes of their pairs of digits.
use Rattle.std.proofs.Common.{ℕ, ◌+◌, ◌*◌, ◌≡◌, ◌⊎◌, inl, inr, List, [], ◌∷◌, ◌++◌, Option, Some, None, option_map, ltb, ltb-true, refl, sym, ap, ◌∙◌, subst, append_assoc}
use Rattle.std.specs.Prelude.{◌↔◌}
use Rattle.std.specs.Char.{digit_value}
use Rattle.std.proofs.lemmas.Bool.{lt-ltb}
use Rattle.cbor_edn_parts.specs.base.Bytes.{kind}
use Rattle.cbor_edn_parts.specs.number.Number.{Hexadecimal, IsDigitOf}
use Rattle.cbor_edn_parts.specs.space.Space as set
use Rattle.cbor_edn_parts.specs.space.Space.{IsBlank, slashes, hash, IsSpace, empty, blank, comment}
use Rattle.cbor_edn_parts.specs.internal.SpaceTokens.{space_step}
use Rattle.cbor_edn_parts.specs.string.Contents.{IsHexPairs, unended, pair, IsHex}
use Rattle.cbor_edn_parts.specs.internal.ContentReading.{hex_bytes, hex_digit_at, if_scanned}
use Rattle.cbor_edn_parts.specs.string.Contents as contents
use Rattle.cbor_edn_parts.specs.declared.space.SpaceState.{SpaceState}
use Rattle.cbor_edn_parts.specs.declared.space.SpaceState.TheVariants.{Between, InSlashes, InHash}
use Rattle.cbor_edn_parts.proofs.lemmas.base.Each.{Each, end, next, each_of, all}
use Rattle.cbor_edn_parts.proofs.lemmas.space.SpaceTexts.{Moves, step-to, step-from}
use Rattle.cbor_edn_parts.proofs.lemmas.string.Bases.{mapped}
use Rattle.cbor_edn_parts.proofs.lemmas.string.Hexadecimals.{digit_is, hex_first, hex_second, hex_space, hex_on}

-- ---- a text of the grammar is decoded

digit_found : (c : ℕ) → IsDigitOf Hexadecimal c → Some (digit_value c) ≡ hex_digit_at Between c
digit_found c lt = rw (lt-ltb (digit_value c) 16 lt)

no_digit : (c : ℕ) → IsBlank c → None ≡ hex_digit_at Between c
no_digit c (inl e) = rw e
no_digit c (inr (inl e)) = rw e
no_digit c (inr (inr (inl e))) = rw e
no_digit c (inr (inr (inr e))) = rw e

-- a byte of space leads from one state to another
stepped : (m n : SpaceState) (h : Option ℕ) (c : ℕ) (t : List ℕ) → None ≡ hex_digit_at m c → Moves m n c → hex_bytes m h (c ∷ t) ≡ hex_bytes n h t
stepped m n h c t none moves = hex_on c t m n h none (sym (step-to m n c moves))

over_slashes : {x : List ℕ} (h : Option ℕ) (t : List ℕ) → Each set.InSlashes x → hex_bytes InSlashes h ((x ++ (47 ∷ [])) ++ t) ≡ hex_bytes Between h t
over_slashes h t end = stepped InSlashes Between h 47 t refl refl
over_slashes h t (next {c} {x} is more) = stepped InSlashes InSlashes h c ((x ++ (47 ∷ [])) ++ t) refl is ∙ over_slashes h t more

over_hash : {x : List ℕ} (h : Option ℕ) (t : List ℕ) → Each set.InHash x → hex_bytes InHash h ((x ++ (10 ∷ [])) ++ t) ≡ hex_bytes Between h t
over_hash h t end = stepped InHash Between h 10 t refl refl
over_hash h t (next {c} {x} is more) = stepped InHash InHash h c ((x ++ (10 ∷ [])) ++ t) refl is ∙ over_hash h t more

over_space : {s : List ℕ} (h : Option ℕ) (t : List ℕ) → IsSpace s → hex_bytes Between h (s ++ t) ≡ hex_bytes Between h t
over_space h t empty = refl
over_space h t (blank {c} {x} is s) = stepped Between Between h c (x ++ t) (no_digit c is) is ∙ over_space h t s
over_space h t (comment {x = x} (slashes y e) s) =
    ap (λ z. hex_bytes Between h (47 ∷ z)) (append_assoc (y ++ (47 ∷ [])) x t) ∙ stepped Between InSlashes h 47 ((y ++ (47 ∷ [])) ++ (x ++ t)) refl refl ∙ over_slashes h (x ++ t) (each_of y e) ∙ over_space h t s
over_space h t (comment {x = x} (hash y e) s) =
    ap (λ z. hex_bytes Between h (35 ∷ z)) (append_assoc (y ++ (10 ∷ [])) x t) ∙ stepped Between InHash h 35 ((y ++ (10 ∷ [])) ++ (x ++ t)) refl refl ∙ over_hash h (x ++ t) (each_of y e) ∙ over_space h t s

-- a comment that ends with the text
over_unended : {x : List ℕ} → Each set.InHash x → hex_bytes InHash None x ≡ Some []
unfolding hex_bytes
over_unended end = refl
over_unended (next {c} {x} is more) = stepped InHash InHash None c x refl is ∙ over_unended more

over_pairs : {x bs : List ℕ} → IsHexPairs x bs → hex_bytes Between None x ≡ Some bs
unfolding hex_bytes
over_pairs contents.end = refl
over_pairs (unended {x} e) = stepped Between InHash None 35 x refl refl ∙ over_unended (each_of x e)
over_pairs (pair a b {s} {t} {x} {bs} first is second is' more) =
    hex_first a (s ++ (b ∷ (t ++ x))) Between (digit_value a) (digit_found a first) ∙ over_space (Some (digit_value a)) (b ∷ (t ++ x)) is
    ∙ hex_second b (t ++ x) Between (digit_value a) (digit_value b) (digit_found b second)
    ∙ ap (option_map (◌∷◌ (16 * digit_value a + digit_value b))) (over_space None x is' ∙ over_pairs more)

hex_to : (t bs : List ℕ) → IsHex t bs → hex_bytes Between None t ≡ Some bs
hex_to t bs (s, x, is, pairs, e) = ap (hex_bytes Between None) e ∙ over_space None x is ∙ over_pairs pairs

-- ---- what is decoded is a text of the grammar

-- the rest of a text, where a digit may wait for its second
abbrev Waits : Option ℕ → List ℕ → List ℕ → Type 0
Waits None t bs = IsHex t bs
Waits (Some d) t bs = (s : List ℕ) × (b : ℕ) × (u : List ℕ) × (cs : List ℕ) × IsSpace s × IsDigitOf Hexadecimal b × IsHex u cs × (t ≡ s ++ (b ∷ u)) × ((16 * d + digit_value b) ∷ cs ≡ bs)

abbrev Rest : SpaceState → Option ℕ → List ℕ → List ℕ → Type 0
Rest Between h t bs = Waits h t bs
Rest InSlashes h t bs = (x : List ℕ) × (y : List ℕ) × Each set.InSlashes x × Waits h y bs × (t ≡ (x ++ (47 ∷ [])) ++ y)
Rest InHash h t bs = ((x : List ℕ) × (y : List ℕ) × Each set.InHash x × Waits h y bs × (t ≡ (x ++ (10 ∷ [])) ++ y)) ⊎ ((h ≡ None) × Each set.InHash t × ([] ≡ bs))

spaced : (h : Option ℕ) (x t bs : List ℕ) → ((s : List ℕ) → IsSpace s → IsSpace (x ++ s)) → Waits h t bs → Waits h (x ++ t) bs
spaced None x t bs front (s, y, is, pairs, e) = (x ++ s, y, front s is, pairs, ap (λ z. x ++ z) e ∙ sym (append_assoc x s y))
spaced (Some d) x t bs front (s, b, u, cs, is, digit, more, e, q) = (x ++ s, b, u, cs, front s is, digit, more, ap (λ z. x ++ z) e ∙ sym (append_assoc x s (b ∷ u)), q)

moved : (m n : SpaceState) (h : Option ℕ) (c : ℕ) (t bs : List ℕ) → Moves m n c → Rest n h t bs → Rest m h (c ∷ t) bs
moved Between Between h c t bs is w = spaced h (c ∷ []) t bs (λ s optional_is. blank is optional_is) w
moved Between InSlashes h c t bs e (x, y, within, w, q) =
    let whole : (47 ∷ (x ++ (47 ∷ []))) ++ y ≡ c ∷ t = cc (e, q) in
    subst (λ z. Waits h z bs) whole (spaced h (47 ∷ (x ++ (47 ∷ []))) y bs (λ s optional_is. comment (slashes x (all within)) optional_is) w)
moved Between InHash h c t bs e (inl (x, y, within, w, q)) =
    let whole : (35 ∷ (x ++ (10 ∷ []))) ++ y ≡ c ∷ t = cc (e, q) in
    subst (λ z. Waits h z bs) whole (spaced h (35 ∷ (x ++ (10 ∷ []))) y bs (λ s optional_is. comment (hash x (all within)) optional_is) w)
moved Between InHash h c t bs e (inr (none, within, q)) = rw (none, e, ← q) ([], 35 ∷ t, empty, unended (all within), refl)
moved InSlashes InSlashes h c t bs is (x, y, within, w, q) = (c ∷ x, y, next is within, w, ap (c ∷◌) q)
moved InSlashes Between h c t bs e w = ([], t, end, w, ap (◌∷ t) e)
moved InSlashes InHash h c t bs e w = absurd e
moved InHash InHash h c t bs is (inl (x, y, within, w, q)) = inl (c ∷ x, y, next is within, w, ap (c ∷◌) q)
moved InHash InHash h c t bs is (inr (none, within, q)) = inr (none, next is within, q)
moved InHash Between h c t bs e w = inl ([], t, end, w, ap (◌∷ t) e)
moved InHash InSlashes h c t bs e w = absurd e

rest_end : (m : SpaceState) (h : Option ℕ) (bs : List ℕ) → hex_bytes m h [] ≡ Some bs → Rest m h [] bs
unfolding hex_bytes
rest_end Between None bs e = let none : [] ≡ bs = cc in rw (← none) ([], [], empty, contents.end, refl)
rest_end Between (Some d) bs e = absurd (cc)
rest_end InSlashes h bs e = absurd (cc)
rest_end InHash None bs e = inr (refl, end, cc)
rest_end InHash (Some d) bs e = absurd (cc)

abbrev Found : List ℕ → Type 0
Found t = (m : SpaceState) (h : Option ℕ) (bs : List ℕ) → hex_bytes m h t ≡ Some bs → Rest m h t bs

with_first : (c d : ℕ) (t bs : List ℕ) → IsDigitOf Hexadecimal c → digit_value c ≡ d → Waits (Some d) t bs → IsHex (c ∷ t) bs
with_first c d t bs first value (s, b, u, cs, is, second, (s', x, is', pairs, q'), q, e) =
    let text : c ∷ (s ++ (b ∷ (s' ++ x))) ≡ c ∷ t = cc (q, q') in
    let bytes = ap (λ n. (16 * n + digit_value b) ∷ cs) value ∙ e in
    ([], c ∷ t, empty, subst (λ y. IsHexPairs y bs) text (subst (IsHexPairs (c ∷ (s ++ (b ∷ (s' ++ x))))) bytes (pair c b first is second is' pairs)), refl)

rest_digit : (c d : ℕ) (t : List ℕ) (h : Option ℕ) (bs : List ℕ) → Some d ≡ hex_digit_at Between c → Found t → hex_bytes Between h (c ∷ t) ≡ Some bs → Waits h (c ∷ t) bs
rest_digit c d t None bs is ih e =
    let f = digit_is (ltb (digit_value c) 16) (digit_value c) d is in
    with_first c d t bs (ltb-true (digit_value c) 16 f.0) f.1 (ih Between (Some d) bs (sym (hex_first c t Between d is) ∙ e))
rest_digit c d t (Some h) bs is ih e =
    let f = digit_is (ltb (digit_value c) 16) (digit_value c) d is in
    let m = mapped (16 * h + d) (hex_bytes Between None t) bs (sym (hex_second c t Between h d is) ∙ e) in
    ([], c, t, m.0, empty, ltb-true (digit_value c) 16 f.0, ih Between None m.0 m.1, refl, ap (λ n. (16 * h + n) ∷ m.0) f.1 ∙ m.2)

rest_space : (m : SpaceState) (h : Option ℕ) (c : ℕ) (t bs : List ℕ) (o : Option SpaceState) → space_step (kind c) m ≡ o → Found t → if_scanned o (λ n. hex_bytes n h t) ≡ Some bs → Rest m h (c ∷ t) bs
rest_space m h c t bs None s ih e = absurd (cc)
rest_space m h c t bs (Some n) s ih e = moved m n h c t bs (step-from m n c s) (ih n h bs e)

rest_at : (m : SpaceState) (h : Option ℕ) (c : ℕ) (t bs : List ℕ) (o : Option ℕ) → o ≡ hex_digit_at m c → Found t → hex_bytes m h (c ∷ t) ≡ Some bs → Rest m h (c ∷ t) bs
rest_at m h c t bs None none ih e = rest_space m h c t bs (space_step (kind c) m) refl ih (sym (hex_space c t m h none) ∙ e)
rest_at Between h c t bs (Some d) is ih e = rest_digit c d t h bs is ih e
rest_at InSlashes h c t bs (Some d) is ih e = absurd (cc)
rest_at InHash h c t bs (Some d) is ih e = absurd (cc)

rest : (t : List ℕ) → Found t
rest [] m h bs e = rest_end m h bs e
rest (c ∷ t) m h bs e = rest_at m h c t bs (hex_digit_at m c) refl (rest t) e

pub hex_texts : (t bs : List ℕ) → IsHex t bs ↔ (hex_bytes Between None t ≡ Some bs)
hex_texts t bs = (hex_to t bs, rest t Between None bs)
