-- The content of a literal is what is read of it.
use Rattle.std.proofs.Common.{ℕ, ◌≡◌, ◌≢◌, List, [], ◌∷◌, ◌++◌, true, false, Option, Some, None, inl, inr, refl, sym, ap, ◌∙◌, subst, arith}
use Rattle.std.specs.Prelude.{Bool, IsTrue, ◌↔◌, ◌==◌, ◌||◌}
use Rattle.std.proofs.lemmas.Bool.{cond-false, cond_both, or_cases, false≢true, ne_eqb}
use mathlib.Core.Logic.{⊎_elim}
use Rattle.cbor_edn_parts.specs.string.Literal as literals
use Rattle.cbor_edn_parts.specs.string.Literal.{IsPrefix, small, large, Quoting, Prefixed, IsLiteral, IsQuoted}
use Rattle.cbor_edn_parts.specs.internal.LiteralTokens.{is_literal, prefix_of}
use Rattle.cbor_edn_parts.specs.string.Contents.{IsBase, base64, base32, base32hex, Content, h, b64, b32, h32, HasContent, double_quoted, single_quoted, behind_h, behind_b64, behind_b32, behind_h32, NoContent, IsSupportedQuoting, IsSupported, IsRefusal, undecodable, unsupported}
use Rattle.cbor_edn_parts.specs.internal.ContentReading.{of_bytes, base_bytes, same, prefixed_bytes, literal_content, literal_kind, is_supported_prefix, is_supported, refusal}
use Rattle.cbor_edn_parts.specs.declared.base.error.InconsistentEdn.{InconsistentEdn}
use Rattle.cbor_edn_parts.specs.declared.string.StringKind.{StringKind}
use Rattle.cbor_edn_parts.specs.declared.string.StringKind.TheVariants.{Bytes, Text}
use Rattle.cbor_edn_parts.proofs.lemmas.string.Bases.{base_texts, small_base64, small_base32, small_base32hex}
use Rattle.cbor_edn_parts.proofs.lemmas.string.HexTexts.{hex_texts}
use Rattle.cbor_edn_parts.proofs.lemmas.string.LiteralContents.{content_is, prefix_named, prefix_plain}
use Rattle.cbor_edn_parts.proofs.lemmas.string.LiteralTexts.{literal_test}
use Rattle.cbor_edn_parts.proofs.lemmas.string.LiteralPrefixes.{same-found}

base64_texts : (v bs : List ℕ) → IsBase base64 v bs ↔ (base_bytes base64 0 0 v ≡ Some bs)
base64_texts = base_texts base64 (omega arith) (omega arith) refl small_base64

base32_texts : (v bs : List ℕ) → IsBase base32 v bs ↔ (base_bytes base32 0 0 v ≡ Some bs)
base32_texts = base_texts base32 (omega arith) (omega arith) refl small_base32

base32hex_texts : (v bs : List ℕ) → IsBase base32hex v bs ↔ (base_bytes base32hex 0 0 v ≡ Some bs)
base32hex_texts = base_texts base32hex (omega arith) (omega arith) refl small_base32hex

-- ---- what has a content is read so

pub content_reads : (t : List ℕ) (k : StringKind) (bs : List ℕ) → HasContent t k bs → literal_content t ≡ Some (k, bs)
content_reads t k bs (double_quoted is) = content_is literals.Double bs t is
content_reads t k bs (single_quoted is) = content_is literals.Single bs t is
content_reads t k bs (behind_h {v = v} is digits) = content_is (Prefixed h) v t is ∙ ap of_bytes ((hex_texts v bs).0 digits)
content_reads t k bs (behind_b64 {v = v} is symbols) = content_is (Prefixed b64) v t is ∙ ap of_bytes ((base64_texts v bs).0 symbols)
content_reads t k bs (behind_b32 {v = v} is symbols) = content_is (Prefixed b32) v t is ∙ ap of_bytes ((base32_texts v bs).0 symbols)
content_reads t k bs (behind_h32 {v = v} is symbols) = content_is (Prefixed h32) v t is ∙ ap of_bytes ((base32hex_texts v bs).0 symbols)

is_quoted : {t : List ℕ} {k : StringKind} {bs : List ℕ} → HasContent t k bs → IsQuoted t
is_quoted (double_quoted {v = v} is) = (literals.Double, v, is)
is_quoted (single_quoted {v = v} is) = (literals.Single, v, is)
is_quoted (behind_h {v = v} is digits) = (Prefixed h, v, is)
is_quoted (behind_b64 {v = v} is symbols) = (Prefixed b64, v, is)
is_quoted (behind_b32 {v = v} is symbols) = (Prefixed b32, v, is)
is_quoted (behind_h32 {v = v} is symbols) = (Prefixed h32, v, is)

-- ---- its kind is by its quote

-- no prefix begins with a double quote
kind_behind : {p : List ℕ} (u : List ℕ) → IsPrefix p → literal_kind (p ++ u) ≡ Bytes
kind_behind u (small {c = c} lower more) = let other : c ≢ 34 = λ e. omega arith in cond-false (c == 34) _ _ (ne_eqb c 34 other)
kind_behind u (large {c = c} upper more) = let other : c ≢ 34 = λ e. omega arith in cond-false (c == 34) _ _ (ne_eqb c 34 other)

kind_prefixed : (p v t : List ℕ) → IsLiteral (Prefixed p) v t → literal_kind t ≡ Bytes
kind_prefixed p v t (x, is, d, e) = ap literal_kind e ∙ kind_behind _ is

pub kind_is : (t : List ℕ) (k : StringKind) (bs : List ℕ) → HasContent t k bs → literal_kind t ≡ k
kind_is t k bs (double_quoted (x, d, e)) = ap literal_kind e
kind_is t k bs (single_quoted (x, d, e)) = ap literal_kind e
kind_is t k bs (behind_h {v = v} is digits) = kind_prefixed h v t is
kind_is t k bs (behind_b64 {v = v} is symbols) = kind_prefixed b64 v t is
kind_is t k bs (behind_b32 {v = v} is symbols) = kind_prefixed b32 v t is
kind_is t k bs (behind_h32 {v = v} is symbols) = kind_prefixed h32 v t is

-- ---- what is read is a content

by_prefix : (p v bs t : List ℕ) → IsLiteral (Prefixed p) v t → prefixed_bytes p v ≡ Some bs → HasContent t Bytes bs
by_prefix p v bs t is =
    cond_both (same p h) _ _ (λ o. o ≡ Some bs → HasContent t Bytes bs)
    (λ e found. behind_h (named h e) ((hex_texts v bs).1 found))
    (λ _. cond_both (same p b64) _ _ (λ o. o ≡ Some bs → HasContent t Bytes bs)
    (λ e found. behind_b64 (named b64 e) ((base64_texts v bs).1 found))
    (λ _. cond_both (same p b32) _ _ (λ o. o ≡ Some bs → HasContent t Bytes bs)
    (λ e found. behind_b32 (named b32 e) ((base32_texts v bs).1 found))
    (λ _. cond_both (same p h32) _ _ (λ o. o ≡ Some bs → HasContent t Bytes bs)
    (λ e found. behind_h32 (named h32 e) ((base32hex_texts v bs).1 found))
    (λ _ none. absurd (cc)))))
  where
    named : (x : List ℕ) → same p x ≡ true → IsLiteral (Prefixed x) v t
    named x e = subst (λ y. IsLiteral (Prefixed y) v t) (same-found p x e) is

of_kind : (m k : StringKind) (v bs : List ℕ) {t : List ℕ} → HasContent t m v → ◌≡◌ {A = Option Content} (Some (m, v)) (Some (k, bs)) → HasContent t k bs
of_kind m k v bs {t} has e =
    let same_content : ◌≡◌ {A = Content} (m, v) (k, bs) = cc in
    subst (λ (c : Content). HasContent t c.0 c.1) same_content has

by_bytes : (o : Option (List ℕ)) (k : StringKind) (bs : List ℕ) {t : List ℕ} → ((cs : List ℕ) → o ≡ Some cs → HasContent t Bytes cs) → of_bytes o ≡ Some (k, bs) → HasContent t k bs
by_bytes None k bs has e = absurd (cc)
by_bytes (Some cs) k bs has e = of_kind Bytes k cs bs (has cs refl) e

content_from : (t : List ℕ) (k : StringKind) (bs : List ℕ) → IsQuoted t → literal_content t ≡ Some (k, bs) → HasContent t k bs
content_from t k bs (literals.Double, v, is) e = of_kind Text k v bs (double_quoted is) (sym (content_is literals.Double v t is) ∙ e)
content_from t k bs (literals.Single, v, is) e = of_kind Bytes k v bs (single_quoted is) (sym (content_is literals.Single v t is) ∙ e)
content_from t k bs (Prefixed p, v, is) e = by_bytes (prefixed_bytes p v) k bs (λ cs. by_prefix p v cs t is) (sym (content_is (Prefixed p) v t is) ∙ e)

pub content_texts : (t : List ℕ) (k : StringKind) (bs : List ℕ) → HasContent t k bs ↔ (IsQuoted t × (literal_content t ≡ Some (k, bs)))
content_texts t k bs = (λ has. (is_quoted has, content_reads t k bs has), λ (is, e). content_from t k bs is e)

-- ---- the same of a text that is a literal

module _ (t : List ℕ) (is : is_literal t ≡ true) where
  pub content_read : (k : StringKind) (bs : List ℕ) → literal_content t ≡ Some (k, bs) → HasContent t k bs
  content_read k bs e = content_from t k bs ((literal_test t).1 is) e

  pub content_unread : NoContent t → literal_content t ≡ None
  content_unread none = by_answer (literal_content t) refl
    where
      by_answer : (o : Option Content) → literal_content t ≡ o → literal_content t ≡ None
      by_answer None e = e
      by_answer (Some c) e = absurd (none c.0 c.1 (content_read c.0 c.1 e))

pub no_content : (t : List ℕ) → literal_content t ≡ None → NoContent t
no_content t none k bs has = let some = content_reads t k bs has in absurd (cc)

-- ---- literals that have contents

known : (p : List ℕ) → IsSupportedQuoting (Prefixed p) → is_supported_prefix p ≡ true
known p has = ⊎_elim (λ e. rw e) (⊎_elim (λ e. rw e) (⊎_elim (λ e. rw e) (λ e. rw e))) has

no_prefix : {p : List ℕ} → IsPrefix p → p ≢ []
no_prefix (small lower more) = λ e. cc
no_prefix (large upper more) = λ e. cc

known_from : (p : List ℕ) → IsPrefix p → is_supported_prefix p ≡ true → IsSupportedQuoting (Prefixed p)
known_from p is e =
    ⊎_elim (λ none. absurd (no_prefix is (same-found p [] none)))
    (λ four. ⊎_elim
    (λ three. ⊎_elim
    (λ two. ⊎_elim (λ one. inl (same-found p h one)) (λ one. inr (inl (same-found p b64 one))) (or_cases (same p h) _ two))
    (λ one. inr (inr (inl (same-found p b32 one))))
    (or_cases (same p h || same p b64) _ three))
    (λ one. inr (inr (inr (same-found p h32 one))))
    (or_cases (same p h || same p b64 || same p b32) _ four))
    (or_cases (same p []) _ e)

prefix_is : {p t : List ℕ} (x : List ℕ) → IsPrefix p → t ≡ p ++ (39 ∷ x) → prefix_of t ≡ p
prefix_is x is e = ap prefix_of e ∙ prefix_named x (prefix_plain is)

supported_is : (q : Quoting) (v t : List ℕ) → IsLiteral q v t → IsSupportedQuoting q → is_supported t ≡ true
unfolding prefix_of
supported_is literals.Double v t (x, d, e) has = rw e
supported_is literals.Single v t (x, d, e) has = rw e
supported_is (Prefixed p) v t (x, is, d, e) has = ap is_supported_prefix (prefix_is _ is e) ∙ known p has

supported_from : (q : Quoting) (v t : List ℕ) → IsLiteral q v t → is_supported t ≡ true → IsSupportedQuoting q
supported_from literals.Double v t is e = tt
supported_from literals.Single v t is e = tt
supported_from (Prefixed p) v t (x, is, d, e) has = known_from p is (sym (ap is_supported_prefix (prefix_is _ is e)) ∙ has)

pub supported_texts : (t : List ℕ) → IsSupported t ↔ (IsQuoted t × (is_supported t ≡ true))
supported_texts t = (λ (q, v, is, has). ((q, v, is), supported_is q v t is has), λ ((q, v, is), e). (q, v, is, supported_from q v t is e))

module _ (t : List ℕ) (is : is_literal t ≡ true) where
  pub supported_by : (b : Bool) → b ≡ is_supported t → IsTrue b ↔ IsSupported t
  supported_by b e = (λ holds. (supported_texts t).1 ((literal_test t).1 is, sym e ∙ holds), λ has. e ∙ ((supported_texts t).0 has).1)

  pub refusal_is : (e : InconsistentEdn) → e ≡ refusal (is_supported t) → IsRefusal t e
  refusal_is e told =
      subst (IsRefusal t) (sym told)
      (cond_both (is_supported t) _ _ (IsRefusal t) (λ has. undecodable ((supported_by true (sym has)).0 refl)) (λ none. unsupported (λ has. false≢true ((supported_by false (sym none)).1 has))))
