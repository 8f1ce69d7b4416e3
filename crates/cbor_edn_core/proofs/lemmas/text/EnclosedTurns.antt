-- What the reader gives for keywords, numbers and tags, from what it gives for the parts, as the parser meets them.
use Rattle.std.proofs.Common.{ℕ, zero, suc, List, [], ◌∷◌, ◌++◌, ◌≡◌, ◌-◌, ◌<◌, ◌≤◌, length, take, drop, refl, sym, ap, ◌∙◌, arith, Option, Some, None, Ok, Err, false}
use Rattle.std.specs.Prelude.{eqb}
use Rattle.std.proofs.lemmas.Bool.{eqb-true, false_from_ne_true, ne_eqb}
use Rattle.std.proofs.lemmas.Option.{none-some}
use Rattle.cbor_edn_parts.specs.declared.base.error.ParseErrorKind.TheVariants.{Invalid, TooDeep}
use Rattle.cbor_edn_parts.specs.declared.base.error.Refusal.{Refusal}
use Rattle.cbor_edn_parts.specs.declared.base.error.Fault.{Fault}
use Rattle.cbor_edn_parts.specs.declared.base.error.Fault.TheVariants.{Told}
use Rattle.cbor_edn_parts.specs.declared.base.indicator.Indicator.{Indicator}
use Rattle.cbor_edn_parts.specs.base.Bytes.{Follow}
use Rattle.cbor_edn_parts.specs.base.Indicator.{indicator_at}
use Rattle.cbor_edn_parts.specs.internal.Lex as lex
use Rattle.cbor_edn_parts.specs.internal.Lex.{Automaton}
use Rattle.cbor_edn_parts.specs.internal.NumberTokens.{number}
use Rattle.cbor_edn_model.specs.declared.text.opener.OpenerKind.{OpenerKind}
use Rattle.cbor_edn_model.specs.declared.text.opener.OpenerKind.TheVariants.{Tag}
use Rattle.cbor_edn_model.specs.declared.text.opener.OpenerKind.TheVariants as opener
use Rattle.cbor_edn_model.specs.declared.text.keyword.NamedSimple.{NamedSimple}
use Rattle.cbor_edn_model.specs.declared.text.keyword.NonFinite.{NonFinite}
use Rattle.cbor_edn_model.specs.declared.text.keyword.Keyword.{Keyword}
use Rattle.cbor_edn_model.specs.declared.text.keyword.Keyword.TheVariants as keyword
use Rattle.cbor_edn_model.specs.tree.Trees.{OneItem, Standalone, Tree, NumberTree, FloatTree, NamedTree, EnclosedTree}
use Rattle.cbor_edn_model.specs.internal.Results.{◌>>=◌}
use Rattle.cbor_edn_model.specs.internal.Reading.{token, byte, or_invalid, starts_with, keyword_at, tag_number, enclosed_item, tag_item, number_end, number_item, keyword_item, plain_item, item, reads}
use Rattle.cbor_edn_core.specs.internal.ParserResults.{Fails}
use Rattle.cbor_edn_model.specs.internal.BytesAt.{IsNotAt}
use Rattle.cbor_edn_parts.proofs.lemmas.base.Indicators.{spec-again}
use Rattle.cbor_edn_parts.proofs.lemmas.base.Tokens.{munch-took}
use Rattle.cbor_edn_model.proofs.lemmas.text.Follows.{follow_unopened}
use Rattle.cbor_edn_model.proofs.lemmas.text.StepCounts.{reads-rule}
use Rattle.cbor_edn_core.proofs.lemmas.text.Turns.{bind_fails, bind_ok, fails_at, byte_there, byte_other, token_end}

-- a refusal of which only the kind is of use
abbrev invalid : Fault Refusal
invalid = Told (record { kind = Invalid; offset = 0 })

-- what stands between parentheses, behind a label

pub enclosed_shut : (limit : ℕ) (l : OpenerKind) (xs : List ℕ) → IsNotAt 40 xs → enclosed_item reads limit l xs ≡ Err Invalid
unfolding enclosed_item
enclosed_shut zero l xs n = bind_fails invalid (byte 40 xs) _ (byte_other 40 xs n)
enclosed_shut (suc limit) l xs n = bind_fails invalid (byte 40 xs) _ (byte_other 40 xs n)

pub enclosed_too_deep : (limit : ℕ) (l : OpenerKind) (xs ys : List ℕ) → limit ≡ 0 → xs ≡ 40 ∷ ys → enclosed_item reads limit l xs ≡ Err TooDeep
unfolding enclosed_item
enclosed_too_deep limit l xs ys none e = rw none (bind_ok (byte 40 xs) ys _ (byte_there 40 xs ys e))

enclosed_inside : (limit : ℕ) (l : OpenerKind) (xs ys : List ℕ) → 0 < limit → xs ≡ 40 ∷ ys → enclosed_item reads limit l xs ≡ (reads (limit - 1) Standalone ys >>= λ w. byte 41 w.1 >>= λ r. Ok (EnclosedTree l w.0, r))
unfolding enclosed_item
enclosed_inside zero l xs ys some e = absurd (omega arith)
enclosed_inside (suc limit) l xs ys some e = let same : suc limit - 1 ≡ limit = omega arith in rw same (bind_ok (byte 40 xs) ys _ (byte_there 40 xs ys e))

pub enclosed_fails : (e : Fault Refusal) (limit : ℕ) (l : OpenerKind) (xs ys : List ℕ) → 0 < limit → xs ≡ 40 ∷ ys → Fails e (reads (limit - 1) Standalone ys) → Fails e (enclosed_item reads limit l xs)
enclosed_fails e limit l xs ys some at h = fails_at e _ _ (enclosed_inside limit l xs ys some at) (bind_fails e (reads (limit - 1) Standalone ys) _ h)

pub enclosed_open : (limit : ℕ) (l : OpenerKind) (xs ys r : List ℕ) (w : Tree Standalone) → 0 < limit → xs ≡ 40 ∷ ys → reads (limit - 1) Standalone ys ≡ Ok (w, r) → IsNotAt 41 r → enclosed_item reads limit l xs ≡ Err Invalid
enclosed_open limit l xs ys r w some at h n = enclosed_inside limit l xs ys some at ∙ bind_ok _ (w, r) _ h ∙ bind_fails invalid (byte 41 r) (λ q. Ok (EnclosedTree l w, q)) (byte_other 41 r n)

pub enclosed_read : (limit : ℕ) (l : OpenerKind) (xs ys r q : List ℕ) (w : Tree Standalone) → 0 < limit → xs ≡ 40 ∷ ys → reads (limit - 1) Standalone ys ≡ Ok (w, r) → r ≡ 41 ∷ q → enclosed_item reads limit l xs ≡ Ok (EnclosedTree l w, q)
enclosed_read limit l xs ys r q w some at h close = enclosed_inside limit l xs ys some at ∙ bind_ok _ (w, r) _ h ∙ bind_ok (byte 41 r) q (λ q. Ok (EnclosedTree l w, q)) (byte_there 41 r q close)

-- numbers and tags

number_behind : (limit : ℕ) (xs x r : List ℕ) (i : Option Indicator) (q : List ℕ) → token number xs ≡ Ok (x, r) → indicator_at r ≡ (i, q) → number_item reads limit xs ≡ number_end reads limit x i q
unfolding number_item
number_behind limit xs x r i q h k = bind_ok (token number xs) (x, r) _ h ∙ ap (λ (p : Option Indicator × List ℕ). number_end reads limit x p.0 p.1) k

not_start : (b : ℕ) (xs : List ℕ) → IsNotAt b xs → starts_with b xs ≡ false
not_start b [] n = refl
not_start b (c ∷ xs) n = ne_eqb c b n

pub number_read : (limit : ℕ) (xs x r : List ℕ) (i : Option Indicator) (q : List ℕ) → token number xs ≡ Ok (x, r) → indicator_at r ≡ (i, q) → IsNotAt 40 q → number_item reads limit xs ≡ Ok (NumberTree x i, q)
unfolding number_end
number_read limit xs x r i q h k n = number_behind limit xs x r i q h k ∙ rw (not_start 40 q n) refl

-- In front of what may follow an item a number has no indicator and is no tag's.
pub plain_read : (limit : ℕ) (xs x r : List ℕ) → token number xs ≡ Ok (x, r) → Follow r → number_item reads limit xs ≡ Ok (NumberTree x None, r)
unfolding number_end
plain_read limit xs x r h follow = number_behind limit xs x r None r h (spec-again None r follow) ∙ rw (follow_unopened r follow) refl

tag_behind : (limit : ℕ) (xs x r : List ℕ) (i : Option Indicator) (q o : List ℕ) → token number xs ≡ Ok (x, r) → indicator_at r ≡ (i, q) → q ≡ 40 ∷ o → number_item reads limit xs ≡ tag_item reads limit x i q
unfolding number_end
tag_behind limit xs x r i q o h k e = number_behind limit xs x r i q h k ∙ rw e refl

-- the token that is read there, as a slice of the text
taken : {State : Type 0} (T : Automaton State) (text x : List ℕ) (from to : ℕ) → lex.token T (drop from text) ≡ Some (x, drop to text) → from ≤ length text → to ≤ length text → take (to - from) (drop from text) ≡ x
taken T text x from to h begins ends =
    let size : to - from ≡ length x = omega (arith, token_end T text x from to h begins ends) in
    rw (size, (munch-took T T.start (drop from text) x (drop to text) h).1) (take_front x (drop to text))
  where
    take_front : (a b : List ℕ) → take (length a) (a ++ b) ≡ a
    take_front [] b = refl
    take_front (c ∷ a) b = ap (◌∷◌ c) (take_front a b)

-- a number in front of a parenthesis that is no tag's
pub no_tag : (limit : ℕ) (text x : List ℕ) (from at : ℕ) (i : Option Indicator) (q o : List ℕ) → lex.token number (drop from text) ≡ Some (x, drop at text) → from ≤ length text → at ≤ length text
    → indicator_at (drop at text) ≡ (i, q) → q ≡ 40 ∷ o → None ≡ tag_number (take (at - from) (drop from text)) → number_item reads limit (drop from text) ≡ Err Invalid
unfolding tag_item
no_tag limit text x from at i q o h begins ends k e n =
    tag_behind limit (drop from text) x (drop at text) i q o (rw h refl) k e ∙ bind_fails invalid (or_invalid (tag_number x)) _ (ap or_invalid (ap tag_number (sym (taken number text x from at h begins ends)) ∙ sym n))

pub tag_at : (limit : ℕ) (text x : List ℕ) (from at n : ℕ) (i : Option Indicator) (q o : List ℕ) → lex.token number (drop from text) ≡ Some (x, drop at text) → from ≤ length text → at ≤ length text
    → indicator_at (drop at text) ≡ (i, q) → q ≡ 40 ∷ o → Some n ≡ tag_number (take (at - from) (drop from text)) → number_item reads limit (drop from text) ≡ enclosed_item reads limit (Tag i n) q
unfolding tag_item
tag_at limit text x from at n i q o h begins ends k e s =
    tag_behind limit (drop from text) x (drop at text) i q o (rw h refl) k e ∙ bind_ok (or_invalid (tag_number x)) n _ (ap or_invalid (ap tag_number (sym (taken number text x from at h begins ends)) ∙ sym s))

-- keywords

other_keyword : (c b : ℕ) (xs : List ℕ) (p : Keyword × List ℕ) → keyword_at (b ∷ xs) ≡ None → keyword_at (c ∷ xs) ≡ Some p → eqb c b ≡ false
other_keyword c b xs p none some = false_from_ne_true (eqb c b) (λ e. none-some p (sym none ∙ rw (eqb-true c b e) at some))

keyword_next : (limit c : ℕ) (xs : List ℕ) (w : Keyword) (r : List ℕ) → keyword_at (c ∷ xs) ≡ Some (w, r) → item reads limit (c ∷ xs) ≡ keyword_item reads limit w r
unfolding item plain_item keyword_at
keyword_next limit c xs w r h = rw (other_keyword c 91 xs (w, r) refl h, other_keyword c 123 xs (w, r) refl h, other_keyword c 40 xs (w, r) refl h, h) refl

pub keyword_here : (limit : ℕ) (xs : List ℕ) (w : Keyword) (r : List ℕ) → keyword_at xs ≡ Some (w, r) → reads limit OneItem xs ≡ keyword_item reads limit w r
unfolding keyword_at
keyword_here limit [] w r h = absurd (none-some (w, r) h)
keyword_here limit (c ∷ xs) w r h = reads-rule limit OneItem (c ∷ xs) ∙ keyword_next limit c xs w r h

pub named_read : (limit : ℕ) (b : NamedSimple) (xs : List ℕ) → keyword_item reads limit (keyword.Named b) xs ≡ Ok (NamedTree b, xs)
unfolding keyword_item
named_read limit b xs = refl

pub float_read : (limit : ℕ) (f : NonFinite) (xs : List ℕ) (i : Option Indicator) (q : List ℕ) → indicator_at xs ≡ (i, q) → keyword_item reads limit (keyword.NonFinite f) xs ≡ Ok (FloatTree f i, q)
unfolding keyword_item
float_read limit f xs i q k = ap (λ (p : Option Indicator × List ℕ). Ok (FloatTree f p.0, p.1)) k

pub simple_at : (limit : ℕ) (xs : List ℕ) → keyword_item reads limit keyword.Simple xs ≡ enclosed_item reads limit opener.Simple xs
unfolding keyword_item
simple_at limit xs = refl
