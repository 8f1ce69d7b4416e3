-- The prefix of a literal, and what stands behind its first quote.
use Rattle.std.proofs.Common.{ℕ, ◌+◌, ◌-◌, ◌≤◌, ◌<◌, ◌≡◌, ◌≢◌, Bool, true, false, List, [], ◌∷◌, ◌++◌, length, take, drop, get_or, Option, Some, None, cond, eqb, ltb, eqb-true, one-add, refl, sym, ap, ◌∙◌, subst, append_assoc, arith}
use Rattle.std.specs.Prelude.{if◌then◌else◌, ◌||◌, ◌&&◌, position}
use Rattle.std.specs.List.{position_or_len}
use Rattle.std.specs.Str.{IsCharBoundary, IsUtf8}
use Rattle.std.proofs.lemmas.Bool.{false≢true, and_parts}
use Rattle.std.proofs.lemmas.Bool.Decides.{nat_tests}
use Rattle.std.proofs.lemmas.List.{drop_at, take_all, length-append, nil_from_length}
use Rattle.std.proofs.lemmas.List.Quantifiers.{position-Some}
use Rattle.std.proofs.lemmas.Str.{IsCharBoundary-after_ascii, IsCharBoundary-before_ascii}
use Rattle.std.proofs.Math.Seq.{get_or-append_seam, take-append_seam}
use Rattle.cbor_edn_parts.specs.internal.Lex.{Accepts}
use Rattle.cbor_edn_parts.specs.internal.LiteralTokens as tokens
use Rattle.cbor_edn_parts.specs.internal.LiteralTokens.{is_quote, is_lower, is_upper, is_digit, literal_step, literal_final, is_literal, prefix_of, quoted_of, decoded}
use Rattle.cbor_edn_parts.specs.internal.ContentReading.{same, prefixed_bytes, of_bytes, literal_content, literal_kind, quote_of, behind_quote, content_behind}
use Rattle.cbor_edn_parts.specs.declared.string.LiteralState.{LiteralState}
use Rattle.cbor_edn_parts.specs.declared.string.LiteralState.TheVariants.{Start, Lower, Upper, Inside, Closed}
use Rattle.cbor_edn_parts.specs.declared.string.QuotedState.TheVariants.{Between}
use Rattle.cbor_edn_parts.specs.declared.string.StringKind.{StringKind}
use Rattle.cbor_edn_parts.specs.declared.string.StringKind.TheVariants.{Bytes, Text}
use Rattle.cbor_edn_parts.proofs.lemmas.base.Tokens.{token_texts}

-- two texts that are the same
pub same-found : (x y : List ℕ) → same x y ≡ true → x ≡ y
same-found [] [] e = refl
same-found [] (d ∷ y) e = cc
same-found (c ∷ x) [] e = cc
same-found (c ∷ x) (d ∷ y) e = let both = and_parts (eqb c d) (same x y) e in let head = eqb-true c d both.0 in let rest = same-found x y both.1 in cc

-- two texts that differ
pub differ : (x y : List ℕ) → x ≢ y → same x y ≡ false
differ [] [] ne = absurd (ne refl)
differ [] (d ∷ y) ne = refl
differ (c ∷ x) [] ne = refl
differ (c ∷ x) (d ∷ y) ne = differ_by (eqb c d) refl (differ x y)
  where
    differ_by : (b : Bool) → eqb c d ≡ b → (x ≢ y → same x y ≡ false) → (eqb c d && same x y) ≡ false
    differ_by true e rest = rw e (rest (λ f. let head : c ≡ d = eqb-true c d e in ne (cc)))
    differ_by false e rest = rw e

-- What a text is in front of its first quote, and from there on.
module _ (c : ℕ) (t : List ℕ) where
  at_quote : is_quote c ≡ true → (prefix_of (c ∷ t) ≡ []) × (quoted_of (c ∷ t) ≡ c ∷ t)
  unfolding prefix_of quoted_of
  at_quote e = rw e (refl, refl)

  in_front : is_quote c ≡ false → (prefix_of (c ∷ t) ≡ c ∷ prefix_of t) × (quoted_of (c ∷ t) ≡ quoted_of t)
  unfolding prefix_of quoted_of
  in_front e = rw e (refl, refl)

split_by : (b : Bool) (c : ℕ) (t : List ℕ) → is_quote c ≡ b → t ≡ prefix_of t ++ quoted_of t → c ∷ t ≡ prefix_of (c ∷ t) ++ quoted_of (c ∷ t)
split_by true c t e ih = let h = at_quote c t e in rw (h.0, h.1)
split_by false c t e ih = let h = in_front c t e in rw (h.0, h.1) (ap (λ x. c ∷ x) ih)

split : (t : List ℕ) → t ≡ prefix_of t ++ quoted_of t
unfolding prefix_of quoted_of
split [] = refl
split (c ∷ t) = split_by (is_quote c) c t refl (split t)

taken_by : (b : Bool) (c : ℕ) (t : List ℕ) → is_quote c ≡ b → take (position_or_len is_quote t) t ≡ prefix_of t → take (position_or_len is_quote (c ∷ t)) (c ∷ t) ≡ prefix_of (c ∷ t)
taken_by true c t e ih = rw (e, (at_quote c t e).0)
taken_by false c t e ih = rw (e, (in_front c t e).0, one-add) (ap (λ x. c ∷ x) ih)

taken : (t : List ℕ) → take (position_or_len is_quote t) t ≡ prefix_of t
unfolding prefix_of
taken [] = refl
taken (c ∷ t) = taken_by (is_quote c) c t refl (taken t)

module _ (t : List ℕ) where
  abbrev place : ℕ
  place = position_or_len is_quote t

  pub prefix_found : (i : ℕ) → Some i ≡ position is_quote t → take i t ≡ prefix_of t
  prefix_found i e = found (ltb place (length t)) e
    where
      found : (b : Bool) → ◌≡◌ {A = Option ℕ} (Some i) (cond b (Some place) None) → take i t ≡ prefix_of t
      found true e = let at : i ≡ place = cc in rw at (taken t)
      found false e = absurd (cc)

  pub prefix_whole : None ≡ position is_quote t → t ≡ prefix_of t
  prefix_whole e = whole (ltb place (length t)) refl e
    where
      whole : (b : Bool) → ltb place (length t) ≡ b → ◌≡◌ {A = Option ℕ} None (cond b (Some place) None) → t ≡ prefix_of t
      whole true over e = absurd (cc)
      whole false over e = let all : length t ≤ place = grind (arith, nat_tests) in sym (take_all place t all) ∙ taken t

  pub quote_boundary : (i : ℕ) → Some i ≡ position is_quote t → IsCharBoundary t i
  quote_boundary i e =
      let h = position-Some is_quote t i 0 (sym e) in
      let quote = h.1 in
      IsCharBoundary-before_ascii t i h.0 (grind (arith, nat_tests, quote))

-- A literal has a quote.
abbrev pub Opened : List ℕ → Type 0
Opened t = (q : ℕ) × (x : List ℕ) × (quoted_of t ≡ q ∷ x)

Outside : LiteralState → Type 0
Outside Start = Unit {0}
Outside Lower = Unit {0}
Outside Upper = Unit {0}
Outside _ = ⊥

leads : (b : Bool) (m n : LiteralState) (o : Option LiteralState) → Outside m → (o ≡ Some n → Outside n) → (if b then Some m else o) ≡ Some n → Outside n
leads true m n o out rest e = let same : m ≡ n = cc in subst Outside same out
leads false m n o out rest e = rest e

no_quote : (c : ℕ) → is_quote c ≡ false → (eqb c 34 ≡ false) × (eqb c 39 ≡ false)
no_quote c e = (grind (arith, nat_tests), grind (arith, nat_tests))

stays_outside : (c : ℕ) (m n : LiteralState) → is_quote c ≡ false → Outside m → literal_step c m ≡ Some n → Outside n
unfolding Outside
stays_outside c Start n e o s =
    let h = no_quote c e in
    leads (is_lower c) Lower n _ tt (leads (is_upper c) Upper n None tt (λ f. absurd (cc))) (rw (h.0, h.1) at s)
stays_outside c Lower n e o s = leads (is_lower c || is_digit c) Lower n None tt (λ f. absurd (cc)) (rw (no_quote c e).1 at s)
stays_outside c Upper n e o s = leads (is_upper c || is_digit c) Upper n None tt (λ f. absurd (cc)) (rw (no_quote c e).1 at s)
stays_outside c (Inside q p) n e o s = absurd o
stays_outside c Closed n e o s = absurd o

not_final : (m : LiteralState) → Outside m → literal_final m ≡ true → ⊥
unfolding Outside
not_final Start o e = false≢true e
not_final Lower o e = false≢true e
not_final Upper o e = false≢true e
not_final (Inside q p) o e = o
not_final Closed o e = o

opened : (m : LiteralState) (t : List ℕ) → Outside m → Accepts tokens.literal m t → Opened t
opened m [] o a = absurd (not_final m o a)
opened m (c ∷ t) o a = opened_by (is_quote c) refl (λ out. opened a.0 t out a.2)
  where
    opened_by : (b : Bool) → is_quote c ≡ b → (Outside a.0 → Opened t) → Opened (c ∷ t)
    opened_by true e rest = (c, t, (at_quote c t e).1)
    opened_by false e rest = let h = rest (stays_outside c m a.0 e o a.1) in (h.0, h.1, (in_front c t e).1 ∙ h.2)

pub literal_opened : (t : List ℕ) → is_literal t ≡ true → Opened t
unfolding Outside
literal_opened t e = opened Start t tt ((token_texts tokens.literal t).1 e)

-- a prefix holds no quote
first_is : (t : List ℕ) (c : ℕ) (p : List ℕ) → prefix_of t ≡ c ∷ p → is_quote c ≡ false
unfolding prefix_of
first_is [] c p e = absurd (cc)
first_is (d ∷ t) c p e = first_by (is_quote d) refl
  where
    first_by : (b : Bool) → is_quote d ≡ b → is_quote c ≡ false
    first_by true q = let none = (at_quote d t q).0 in absurd (cc)
    first_by false q = let some = (in_front d t q).0 in let same : d ≡ c = cc in rw same at q

-- what stands behind a prefix begins with a quote
quoted_head : (t : List ℕ) (q : ℕ) (x : List ℕ) → quoted_of t ≡ q ∷ x → is_quote q ≡ true
unfolding quoted_of
quoted_head [] q x e = absurd (cc)
quoted_head (d ∷ t) q x e = head_by (is_quote d) refl (λ f. quoted_head t q x (sym f ∙ e))
  where
    head_by : (b : Bool) → is_quote d ≡ b → (quoted_of (d ∷ t) ≡ quoted_of t → is_quote q ≡ true) → is_quote q ≡ true
    head_by true is rest = let first = (at_quote d t is).1 in let same : d ≡ q = cc in rw same at is
    head_by false is rest = rest (in_front d t is).1

plain : (q : ℕ) (x : List ℕ) (k : StringKind) (b : Bool) → eqb q 34 ≡ b → k ≡ (if eqb q 34 then Text else Bytes) → content_behind [] (q ∷ x) ≡ Some (k, decoded (quote_of k) Between x)
plain q x k true e k_is = rw (k_is, e)
plain q x k false e k_is = rw (k_is, e)

prefixed : (p : List ℕ) (q : ℕ) (x : List ℕ) (k : StringKind) → p ≢ [] → ((c : ℕ) (r : List ℕ) → p ≡ c ∷ r → k ≡ Bytes)
    → content_behind p (q ∷ x) ≡ of_bytes (prefixed_bytes p (decoded (quote_of k) Between x))
prefixed [] q x k some kind = absurd (some refl)
prefixed (c ∷ p) q x k some kind = ap (λ n. of_bytes (prefixed_bytes (c ∷ p) (decoded (quote_of n) Between x))) (sym (kind c p refl))

filled : (p : List ℕ) (k : StringKind) → p ≢ [] → ((c : ℕ) (r : List ℕ) → p ≡ c ∷ r → k ≡ Bytes) → k ≡ Bytes
filled [] k some kind = absurd (some refl)
filled (c ∷ p) k some kind = kind c p refl

-- The content of a literal.
module _ (t : List ℕ) (is : is_literal t ≡ true) where
  quote : ℕ
  quote = (literal_opened t is).0

  behind : List ℕ
  behind = (literal_opened t is).1

  whole : t ≡ prefix_of t ++ (quote ∷ behind)
  unfolding quote behind
  whole = split t ∙ ap (λ y. prefix_of t ++ y) (literal_opened t is).2

  pub quoted_within : length (prefix_of t) + 1 ≤ length t
  quoted_within = omega (arith, ap length whole ∙ length-append (prefix_of t) (quote ∷ behind))

  behind_is : behind ≡ behind_quote t
  behind_is =
      sym (drop_at (prefix_of t ++ (quote ∷ [])) behind (length (prefix_of t) + 1) (length-append (prefix_of t) (quote ∷ [])))
      ∙ ap (drop (length (prefix_of t) + 1)) (append_assoc (prefix_of t) (quote ∷ []) behind ∙ sym whole)

  quoted_is : quoted_of t ≡ quote ∷ behind_quote t
  unfolding quote behind
  quoted_is = (literal_opened t is).2 ∙ ap (λ y. quote ∷ y) behind_is

  -- What stands between the quotes of a literal without prefix is a part of the text.
  module _ (none : prefix_of t ≡ []) (p : List ℕ) (b : ℕ) (last : b < 128) (ended : behind_quote t ≡ p ++ (b ∷ [])) where
    lone : t ≡ quote ∷ (p ++ (b ∷ []))
    lone = whole ∙ ap (λ y. y ++ (quote ∷ behind)) none ∙ ap (λ y. quote ∷ y) (behind_is ∙ ended)

    first : get_or t 0 0 < 128
    unfolding quote
    first = rw lone (let head = quoted_head t (literal_opened t is).0 (literal_opened t is).1 (literal_opened t is).2 in grind (arith, nat_tests, head))

    ends : get_or t (1 + length p) 0 < 128
    ends = rw (lone, one-add, get_or-append_seam p b [] 0) last

    long : length t ≡ 2 + length p
    long = omega (arith, ap length lone, length-append p (b ∷ []))

    pub lone_begins : IsUtf8 t → IsCharBoundary t 1
    lone_begins utf8 = IsCharBoundary-after_ascii t 0 utf8 (omega (arith, long)) first

    pub lone_ends : IsCharBoundary t (1 + length p)
    lone_ends = IsCharBoundary-before_ascii t (1 + length p) (omega (arith, long)) ends

    pub lone_between : take (1 + length p - 1) (drop 1 t) ≡ p
    lone_between = let count : 1 + length p - 1 ≡ length p = omega arith in rw (lone, count) (take-append_seam p (b ∷ []))

  abbrev value : List ℕ
  value = decoded (quote_of (literal_kind t)) Between (behind_quote t)

  pub plain_content : prefix_of t ≡ [] → literal_content t ≡ Some (literal_kind t, value)
  plain_content none =
      let alone : t ≡ quote ∷ behind = whole ∙ ap (λ y. y ++ (quote ∷ behind)) none in
      ap (content_behind (prefix_of t)) quoted_is
      ∙ ap (λ p. content_behind p (quote ∷ behind_quote t)) none
      ∙ plain quote (behind_quote t) (literal_kind t) (eqb quote 34) refl (ap literal_kind alone)

  prefixed_kind : (c : ℕ) (p : List ℕ) → prefix_of t ≡ c ∷ p → literal_kind t ≡ Bytes
  prefixed_kind c p some =
      let at : t ≡ c ∷ (p ++ (quote ∷ behind)) = whole ∙ ap (λ y. y ++ (quote ∷ behind)) some in
      ap literal_kind at ∙ rw (no_quote c (first_is t c p some)).0 refl

  pub prefixed_content : prefix_of t ≢ [] → literal_content t ≡ of_bytes (prefixed_bytes (prefix_of t) value)
  prefixed_content some = ap (content_behind (prefix_of t)) quoted_is ∙ prefixed (prefix_of t) quote (behind_quote t) (literal_kind t) some prefixed_kind

  pub bytes_kind : prefix_of t ≢ [] → literal_kind t ≡ Bytes
  bytes_kind some = filled (prefix_of t) (literal_kind t) some prefixed_kind

-- what a test for no prefix tells
pub prefix_empty : (p : List ℕ) → true ≡ eqb (length p) 0 → p ≡ []
prefix_empty p e = nil_from_length p (grind (arith, nat_tests))

pub prefix_filled : (p : List ℕ) → false ≡ eqb (length p) 0 → p ≢ []
prefix_filled p e empty = let zero : length p ≡ 0 = rw empty refl in absurd (grind (arith, nat_tests))
