-- A tag shows in the bytes of values: its head begins with a byte that few others are.
use Rattle.std.proofs.Common.{◌≡◌, ℕ, ◌*◌, ◌+◌, ◌/◌, ◌%◌, ◌<◌, Bool, true, false, List, [], ◌∷◌, ◌++◌, take, drop, Option, Some, None, eqb, ltb, refl, sym, ap, subst, ◌∙◌, ◌||◌, ◌&&◌, arith}
use Rattle.std.specs.List.{list_all, list_any}
use Rattle.std.proofs.lemmas.Bool.{eqb-true, ltb-true}
use Rattle.std.proofs.lemmas.List.{take-append-drop}
use Rattle.std.proofs.lemmas.List.Folds.{list_any-append}
use Rattle.cbor_edn_model.specs.declared.cbor.heads.Width.{Width}
use Rattle.cbor_edn_model.specs.declared.cbor.heads.Width.TheVariants.{Immediate, One, Two, Four, Eight}
use Rattle.cbor_edn_model.specs.cbor.Value.{Value, unsigned, negative, string, chunks, array, cbor_map, tag, simple, float, Values, no_values, value, Pairs, no_pairs, pair, head, break, ArgumentFits, list_encoding, encoding, encodings, pair_encodings, Fits, ValuesFit, PairsFit, EncAll}
use Rattle.cbor_edn_stream.specs.Tags.{among, value_has_tag, values_have_tag, pairs_have_tag}
use Rattle.cbor_edn_stream.specs.Heads.{is_sought, begins_tag}

-- a byte that begins the head of such a tag stands among some
abbrev pub shows_tag : List ℕ → Bool
shows_tag bytes = list_any begins_tag bytes

on_left : (a b : Bool) → a ≡ true → a || b ≡ true
on_left a b h = ap (λ (x : Bool). x || b) h

on_right : (a b : Bool) → b ≡ true → a || b ≡ true
on_right true b h = refl
on_right false b h = h

one_of : {C : Type 0} (a b : Bool) → (a ≡ true → C) → (b ≡ true → C) → a || b ≡ true → C
one_of true b first second h = first refl
one_of false b first second h = second h

none_from : (a b : Bool) → (a ≡ true → b ≡ true) → b ≡ false → a ≡ false
none_from false b shows none = refl
none_from true b shows none = absurd (let h = shows refl in cc)

in_first : (a b : List ℕ) → shows_tag a ≡ true → shows_tag (a ++ b) ≡ true
in_first a b h = list_any-append begins_tag a b ∙ on_left (shows_tag a) (shows_tag b) h

in_second : (a b : List ℕ) → shows_tag b ≡ true → shows_tag (a ++ b) ≡ true
in_second a b h = list_any-append begins_tag a b ∙ on_right (shows_tag a) (shows_tag b) h

-- one byte more, as at a step of a fold
pub shows_more : (bytes : List ℕ) (byte : ℕ) (found : Bool) → found ≡ shows_tag bytes → found || begins_tag byte ≡ shows_tag (bytes ++ (byte ∷ []))
shows_more bytes byte found is = ap (λ (x : Bool). x || begins_tag byte) is ∙ ap (λ (x : Bool). shows_tag bytes || x) (sym (alone (begins_tag byte))) ∙ sym (list_any-append begins_tag bytes (byte ∷ [])) where
  alone : (b : Bool) → b || false ≡ b
  alone true = refl
  alone false = refl

-- a front, and what is behind it
pub shows_in_parts : (n : ℕ) (bytes : List ℕ) → shows_tag bytes ≡ shows_tag (take n bytes) || shows_tag (drop n bytes)
shows_in_parts n bytes = ap shows_tag (sym (take-append-drop n bytes)) ∙ list_any-append begins_tag (take n bytes) (drop n bytes)

both : (a b : Bool) → a && b ≡ true → (a ≡ true) × (b ≡ true)
both true b h = (refl, h)
both false b h = absurd cc

pub sought_among : (numbers : List ℕ) → list_all is_sought numbers ≡ true → (n : ℕ) → among numbers n ≡ true → is_sought n ≡ true
sought_among [] all n one = absurd cc
sought_among (m ∷ ms) all n one =
    let parts = both (is_sought m) (list_all is_sought ms) all in
    one_of (eqb m n) (among ms n) (λ is. subst (λ (k : ℕ). is_sought k ≡ true) (eqb-true m n is) parts.0) (λ more. sought_among ms parts.1 n more) one

immediate_begins : (n : ℕ) → n < 24 → is_sought n ≡ true → begins_tag (32 * 6 + n) ≡ true
immediate_begins n lt sought =
    let major : (32 * 6 + n) / 32 ≡ 6 = omega (arith, lt) in
    let count : (32 * 6 + n) % 32 ≡ n = omega (arith, lt) in
    let small : ltb n 4 ≡ true = one_of (ltb n 4) (ltb 23 n) (λ is. is) (λ large. let more = ltb-true 23 n large in absurd (omega (arith, lt, more))) sought in
    rw (major, count, small) refl

tag_shows : (w : Width) (n : ℕ) → ArgumentFits w n → is_sought n ≡ true → shows_tag (head 6 w n) ≡ true
unfolding head
tag_shows Immediate n fits sought = on_left (begins_tag (32 * 6 + n)) false (immediate_begins n fits sought)
tag_shows One n fits sought = refl
tag_shows Two n fits sought = refl
tag_shows Four n fits sought = refl
tag_shows Eight n fits sought = refl

list_shows : (major : ℕ) (w : Option Width) (n : ℕ) (parts : List ℕ) → shows_tag parts ≡ true → shows_tag (list_encoding major w n parts) ≡ true
list_shows major (Some w) n parts h = in_second (head major w n) parts h
list_shows major None n parts h = on_right _ (shows_tag (parts ++ break ∷ [])) (in_first parts (break ∷ []) h)

module _ (numbers : List ℕ) (sought : (n : ℕ) → among numbers n ≡ true → is_sought n ≡ true) where
  mutual
    value_shows : (v : Value) → Fits v → value_has_tag numbers v ≡ true → shows_tag (encoding v) ≡ true
    value_shows (unsigned w n) fits h = absurd cc
    value_shows (negative w n) fits h = absurd cc
    value_shows (string k w bs) fits h = absurd cc
    value_shows (chunks k cs) fits h = absurd cc
    value_shows (array w vs) fits h = list_shows 4 w _ (encodings vs) (values_show vs fits.1 h)
    value_shows (cbor_map w ps) fits h = list_shows 5 w _ (pair_encodings ps) (pairs_show ps fits.1 h)
    value_shows (tag w n v) fits h =
        one_of (among numbers n) (value_has_tag numbers v) (λ this. in_first (head 6 w n) (encoding v) (tag_shows w n fits.0 (sought n this))) (λ inside. in_second (head 6 w n) (encoding v) (value_shows v fits.1 inside)) h
    value_shows (simple n) fits h = absurd cc
    value_shows (float w f) fits h = absurd cc

    values_show : (vs : Values) → ValuesFit vs → values_have_tag numbers vs ≡ true → shows_tag (encodings vs) ≡ true
    values_show no_values fits h = absurd cc
    values_show (value v vs) fits h =
        one_of (value_has_tag numbers v) (values_have_tag numbers vs) (λ one. in_first (encoding v) (encodings vs) (value_shows v fits.0 one)) (λ more. in_second (encoding v) (encodings vs) (values_show vs fits.1 more)) h

    pairs_show : (ps : Pairs) → PairsFit ps → pairs_have_tag numbers ps ≡ true → shows_tag (pair_encodings ps) ≡ true
    pairs_show no_pairs fits h = absurd cc
    pairs_show (pair k v ps) fits h =
        one_of (value_has_tag numbers k) (value_has_tag numbers v || pairs_have_tag numbers ps)
        (λ key. in_first (encoding k ++ encoding v) (pair_encodings ps) (in_first (encoding k) (encoding v) (value_shows k fits.0 key)))
        (λ more. one_of (value_has_tag numbers v) (pairs_have_tag numbers ps)
        (λ one. in_first (encoding k ++ encoding v) (pair_encodings ps) (in_second (encoding k) (encoding v) (value_shows v fits.1 one)))
        (λ others. in_second (encoding k ++ encoding v) (pair_encodings ps) (pairs_show ps fits.2 others)) more) h

  -- where no byte begins the head of such a tag, none stands in the values
  pub none_shown : (bytes : List ℕ) (vs : Values) → EncAll bytes vs → shows_tag bytes ≡ false → values_have_tag numbers vs ≡ false
  none_shown bytes vs enc none = none_from (values_have_tag numbers vs) (shows_tag bytes) (λ h. ap shows_tag enc.1 ∙ values_show vs enc.0 h) none
