-- The space texts of the grammar are those that the automata accept.
use Rattle.std.proofs.Common.{ℕ, ◌≡◌, ◌≢◌, ◌≤◌, ◌<◌, ◌⊎◌, inl, inr, List, [], ◌∷◌, ◌++◌, Bool, true, false, Option, Some, None, refl, sym, ap, ◌∙◌, subst, arith}
use Rattle.std.specs.Prelude.{not, eqb, ltb, ◌||◌, ◌&&◌}
use mathlib.Core.Logic.{⊎_elim}
use Rattle.std.proofs.lemmas.Bool.{agree_below_at, false≢true, and_parts, and_from}
use Rattle.std.proofs.lemmas.Bool.Decides.{nat_tests, Decides-or, Decides-and, Decides-not, Decides-eqb, Decides-ltb, Decides-like}
use Rattle.std.specs.Bool.{Decides}
use Rattle.cbor_edn_parts.specs.base.Bytes.{Kind, Control, Comma, kind}
use Rattle.cbor_edn_parts.specs.internal.CommentReading.{is_blank}
use Rattle.cbor_edn_parts.specs.internal.Lex.{Accepts, Is}
use Rattle.cbor_edn_parts.specs.space.Space as set
use Rattle.cbor_edn_parts.specs.space.Space.{IsBlank, IsPrintable, slashes, hash, IsSpace, empty, blank, comment, IsMandatorySpace, IsListEnd, IsSeparator, space, comma, comma_first, space_alone, space_comma}
use Rattle.cbor_edn_parts.specs.internal.SpaceTokens as tokens
use Rattle.cbor_edn_parts.specs.internal.SpaceTokens.{space_step, separator_step, before, after, is_empty, is_space, is_mandatory_space, is_list_end, is_separator}
use Rattle.cbor_edn_parts.specs.declared.space.SpaceState.{SpaceState}
use Rattle.cbor_edn_parts.specs.declared.space.SpaceState.TheVariants.{Between, InSlashes, InHash}
use Rattle.cbor_edn_parts.specs.internal.SpaceTokens.{SeparatorState}
use Rattle.cbor_edn_parts.specs.internal.SpaceTokens.{Before, After}
use Rattle.cbor_edn_parts.proofs.lemmas.base.Each.{Each, end, next, each_of, all}
use Rattle.cbor_edn_parts.proofs.lemmas.base.ByteKinds.{at_each, kind-comma}
use Rattle.cbor_edn_parts.proofs.lemmas.base.Tokens.{token_texts}

-- The bytes that lead from one state to another.
abbrev pub Moves : SpaceState → SpaceState → ℕ → Type 0
Moves Between Between c = IsBlank c
Moves Between InSlashes c = c ≡ 47
Moves Between InHash c = c ≡ 35
Moves InSlashes InSlashes c = set.InSlashes c
Moves InSlashes Between c = c ≡ 47
Moves InSlashes InHash c = ⊥
Moves InHash InHash c = set.InHash c
Moves InHash Between c = c ≡ 10
Moves InHash InSlashes c = ⊥

abbrev is_printable : ℕ → Bool
is_printable c = ltb 31 c && ltb c 256

abbrev moves : SpaceState → SpaceState → ℕ → Bool
moves Between Between c = is_blank c
moves Between InSlashes c = eqb c 47
moves Between InHash c = eqb c 35
moves InSlashes InSlashes c = not (eqb c 47) && (is_blank c || is_printable c)
moves InSlashes Between c = eqb c 47
moves InSlashes InHash c = false
moves InHash InHash c = eqb c 9 || (eqb c 13 || is_printable c)
moves InHash Between c = eqb c 10
moves InHash InSlashes c = false

pub decides_blank : (c : ℕ) → Decides (is_blank c) (IsBlank c)
decides_blank c = Decides-or (eqb c 9) _ (Decides-eqb c 9) (Decides-or (eqb c 10) _ (Decides-eqb c 10) (Decides-or (eqb c 13) _ (Decides-eqb c 13) (Decides-eqb c 32)))

decides_printable : (c : ℕ) → Decides (is_printable c) (IsPrintable c)
decides_printable c = Decides-and (ltb 31 c) _ (Decides-like (ltb 31 c) (λ h. omega arith) (λ h. omega arith) (Decides-ltb 31 c)) (Decides-ltb c 256)

decides_none : (P : Type 0) → (P → ⊥) → Decides false P
decides_none P none = (λ e. absurd (false≢true e), λ h. absurd (none h))

decides : (m n : SpaceState) (c : ℕ) → Decides (moves m n c) (Moves m n c)
decides Between Between c = decides_blank c
decides Between InSlashes c = Decides-eqb c 47
decides Between InHash c = Decides-eqb c 35
decides InSlashes InSlashes c = Decides-and (not (eqb c 47)) _ (Decides-not (eqb c 47) (Decides-eqb c 47)) (Decides-or (is_blank c) _ (decides_blank c) (decides_printable c))
decides InSlashes Between c = Decides-eqb c 47
decides InSlashes InHash c = decides_none ⊥ (λ h. h)
decides InHash InHash c = Decides-or (eqb c 9) _ (Decides-eqb c 9) (Decides-or (eqb c 13) _ (Decides-eqb c 13) (decides_printable c))
decides InHash Between c = Decides-eqb c 10
decides InHash InSlashes c = decides_none ⊥ (λ h. h)

-- whether a state is reached
abbrev reaches : SpaceState → Option SpaceState → Bool
reaches Between (Some Between) = true
reaches InSlashes (Some InSlashes) = true
reaches InHash (Some InHash) = true
reaches _ _ = false

reached : (n : SpaceState) (o : Option SpaceState) → reaches n o ≡ true → o ≡ Some n
reached Between (Some Between) e = refl
reached InSlashes (Some InSlashes) e = refl
reached InHash (Some InHash) e = refl
reached _ _ e = absurd (false≢true e)

far_eqb : (k c : ℕ) → k < 256 → 256 ≤ c → eqb c k ≡ false
far_eqb k c small far = grind (arith, nat_tests)

far_blank : (c : ℕ) → 256 ≤ c → is_blank c ≡ false
far_blank c far = grind (arith, nat_tests)

far_slashes : (c : ℕ) → 256 ≤ c → (not (eqb c 47) && (is_blank c || is_printable c)) ≡ false
far_slashes c far = grind (arith, nat_tests)

far_hash : (c : ℕ) → 256 ≤ c → (eqb c 9 || (eqb c 13 || is_printable c)) ≡ false
far_hash c far = grind (arith, nat_tests)

far_moves : (m n : SpaceState) (c : ℕ) → 256 ≤ c → moves m n c ≡ false
far_moves Between Between c far = far_blank c far
far_moves Between InSlashes c far = far_eqb 47 c (omega arith) far
far_moves Between InHash c far = far_eqb 35 c (omega arith) far
far_moves InSlashes InSlashes c far = far_slashes c far
far_moves InSlashes Between c far = far_eqb 47 c (omega arith) far
far_moves InSlashes InHash c far = refl
far_moves InHash InHash c far = far_hash c far
far_moves InHash Between c far = far_eqb 10 c (omega arith) far
far_moves InHash InSlashes c far = refl

near : (m n : SpaceState) (c : ℕ) → c < 256 → reaches n (space_step (kind c) m) ≡ moves m n c
unfolding kind
near Between Between c small = agree_below_at (λ c. reaches Between (space_step (kind c) Between)) (moves Between Between) 256 c refl small
near Between InSlashes c small = agree_below_at (λ c. reaches InSlashes (space_step (kind c) Between)) (moves Between InSlashes) 256 c refl small
near Between InHash c small = agree_below_at (λ c. reaches InHash (space_step (kind c) Between)) (moves Between InHash) 256 c refl small
near InSlashes Between c small = agree_below_at (λ c. reaches Between (space_step (kind c) InSlashes)) (moves InSlashes Between) 256 c refl small
near InSlashes InSlashes c small = agree_below_at (λ c. reaches InSlashes (space_step (kind c) InSlashes)) (moves InSlashes InSlashes) 256 c refl small
near InSlashes InHash c small = agree_below_at (λ c. reaches InHash (space_step (kind c) InSlashes)) (moves InSlashes InHash) 256 c refl small
near InHash Between c small = agree_below_at (λ c. reaches Between (space_step (kind c) InHash)) (moves InHash Between) 256 c refl small
near InHash InSlashes c small = agree_below_at (λ c. reaches InSlashes (space_step (kind c) InHash)) (moves InHash InSlashes) 256 c refl small
near InHash InHash c small = agree_below_at (λ c. reaches InHash (space_step (kind c) InHash)) (moves InHash InHash) 256 c refl small

control : (m n : SpaceState) → reaches n (space_step Control m) ≡ false
control Between Between = refl
control Between InSlashes = refl
control Between InHash = refl
control InSlashes Between = refl
control InSlashes InSlashes = refl
control InSlashes InHash = refl
control InHash Between = refl
control InHash InSlashes = refl
control InHash InHash = refl

step_is : (m n : SpaceState) (c : ℕ) → reaches n (space_step (kind c) m) ≡ moves m n c
step_is m n = at_each (λ k. reaches n (space_step k m)) (moves m n) (near m n) (control m n) (far_moves m n)

pub step-to : (m n : SpaceState) (c : ℕ) → Moves m n c → space_step (kind c) m ≡ Some n
step-to m n c h = reached n (space_step (kind c) m) (step_is m n c ∙ (decides m n c).1 h)

reaches_itself : (n : SpaceState) → reaches n (Some n) ≡ true
reaches_itself Between = refl
reaches_itself InSlashes = refl
reaches_itself InHash = refl

pub step-from : (m n : SpaceState) (c : ℕ) → space_step (kind c) m ≡ Some n → Moves m n c
step-from m n c e = (decides m n c).0 (sym (step_is m n c) ∙ (ap (reaches n) e ∙ reaches_itself n))

-- A text of the grammar is accepted.
in_slashes : {x : List ℕ} (t : List ℕ) → Each set.InSlashes x → Accepts tokens.space Between t → Accepts tokens.space InSlashes ((x ++ (47 ∷ [])) ++ t)
in_slashes t end a = (Between, step-to InSlashes Between 47 refl, a)
in_slashes t (next {c = c} h more) a = (InSlashes, step-to InSlashes InSlashes c h, in_slashes t more a)

in_hash : {x : List ℕ} (t : List ℕ) → Each set.InHash x → Accepts tokens.space Between t → Accepts tokens.space InHash ((x ++ (10 ∷ [])) ++ t)
in_hash t end a = (Between, step-to InHash Between 10 refl, a)
in_hash t (next {c = c} h more) a = (InHash, step-to InHash InHash c h, in_hash t more a)

pub s-is : {t : List ℕ} → IsSpace t → Is tokens.space t
s-is empty = refl
s-is (blank {c = c} b s) = (Between, step-to Between Between c b, s-is s)
s-is (comment {x = x} (slashes c e) s) = (InSlashes, step-to Between InSlashes 47 refl, in_slashes x (each_of c e) (s-is s))
s-is (comment {x = x} (hash c e) s) = (InHash, step-to Between InHash 35 refl, in_hash x (each_of c e) (s-is s))

-- What is left of a text in a state.
abbrev Left : SpaceState → List ℕ → Type 0
Left Between t = IsSpace t
Left InSlashes t = (x : List ℕ) × (y : List ℕ) × Each set.InSlashes x × IsSpace y × (t ≡ (x ++ (47 ∷ [])) ++ y)
Left InHash t = (x : List ℕ) × (y : List ℕ) × Each set.InHash x × IsSpace y × (t ≡ (x ++ (10 ∷ [])) ++ y)

left : (m n : SpaceState) (c : ℕ) (t : List ℕ) → Moves m n c → Left n t → Left m (c ∷ t)
left Between Between c t b s = blank b s
left Between InSlashes c t e (x, y, h, s, q) = subst IsSpace (cc (e, q)) (comment (slashes x (all h)) s)
left Between InHash c t e (x, y, h, s, q) = subst IsSpace (cc (e, q)) (comment (hash x (all h)) s)
left InSlashes InSlashes c t b (x, y, h, s, q) = (c ∷ x, y, next b h, s, ap (c ∷◌) q)
left InSlashes Between c t e s = ([], t, end, s, ap (◌∷ t) e)
left InSlashes InHash c t e l = absurd e
left InHash InHash c t b (x, y, h, s, q) = (c ∷ x, y, next b h, s, ap (c ∷◌) q)
left InHash Between c t e s = ([], t, end, s, ap (◌∷ t) e)
left InHash InSlashes c t e l = absurd e

from : (m : SpaceState) (t : List ℕ) → Accepts tokens.space m t → Left m t
from Between [] a = empty
from InSlashes [] a = absurd (false≢true a)
from InHash [] a = absurd (false≢true a)
from m (c ∷ t) a = left m a.0 c t (step-from m a.0 c a.1) (from a.0 t a.2)

pub s-from : (t : List ℕ) → Is tokens.space t → IsSpace t
s-from t a = from Between t a

-- A separator before its comma, and behind it.
some_after : (o : Option SpaceState) (n : SeparatorState) → after o ≡ Some n → (m : SpaceState) × (n ≡ After m) × (o ≡ Some m)
some_after None n e = absurd (cc)
some_after (Some m) n e = (m, cc, refl)

some_before : (o : Option SpaceState) (n : SeparatorState) → before o ≡ Some n → (m : SpaceState) × (n ≡ Before m) × (o ≡ Some m)
some_before None n e = absurd (cc)
some_before (Some m) n e = (m, cc, refl)

after-to : (m : SpaceState) (t : List ℕ) → Accepts tokens.space m t → Accepts tokens.separator (After m) t
after-to m [] a = a
after-to m (c ∷ t) a = (After a.0, ap after a.1, after-to a.0 t a.2)

after-from : (m : SpaceState) (t : List ℕ) → Accepts tokens.separator (After m) t → Accepts tokens.space m t
after-from m [] a = a
after-from m (c ∷ t) a =
    let h = some_after (space_step (kind c) m) a.0 a.1 in
    (h.0, h.2, after-from h.0 t (subst (λ n. Accepts tokens.separator n t) h.1 a.2))

-- one step in front of the comma: the comma between comments, or a step of space
front_step : (k : Kind) (m : SpaceState) (n : SeparatorState) → separator_step k (Before m) ≡ Some n → ((k ≡ Comma) × (m ≡ Between) × (n ≡ After Between)) ⊎ ((i : SpaceState) × (n ≡ Before i) × (space_step k m ≡ Some i))
front_step Comma Between n e = inl (refl, refl, cc)
front_step Comma InSlashes n e = inr (some_before (space_step Comma InSlashes) n e)
front_step Comma InHash n e = inr (some_before (space_step Comma InHash) n e)
front_step k m n e = inr (some_before (space_step k m) n e)

front_space : (k : Kind) (m i : SpaceState) → space_step k m ≡ Some i → separator_step k (Before m) ≡ Some (Before i)
front_space Comma Between i e = absurd (cc)
front_space Comma InSlashes i e = ap before e
front_space Comma InHash i e = ap before e
front_space k m i e = ap before e

comma_step : separator_step (kind 44) (Before Between) ≡ Some (After Between)
unfolding kind
comma_step = refl

comma_byte : (c : ℕ) → kind c ≡ Comma → c ≡ 44
comma_byte c e = kind-comma c e

before-space : (m : SpaceState) (t : List ℕ) → Accepts tokens.space m t → Accepts tokens.separator (Before m) t
before-space m [] a = a
before-space m (c ∷ t) a = (Before a.0, front_space (kind c) m a.0 a.1, before-space a.0 t a.2)

before-comma : (m : SpaceState) (x y : List ℕ) → Accepts tokens.space m x → Accepts tokens.space Between y → Accepts tokens.separator (Before m) (x ++ (44 ∷ y))
before-comma Between [] y a b = (After Between, comma_step, after-to Between y b)
before-comma InSlashes [] y a b = absurd (false≢true a)
before-comma InHash [] y a b = absurd (false≢true a)
before-comma m (c ∷ x) y a b = (Before a.0, front_space (kind c) m a.0 a.1, before-comma a.0 x y a.2 b)

pub list_end-is : {t : List ℕ} → IsListEnd t → Is tokens.separator t
list_end-is (space {x = x} s) = before-space Between x (s-is s)
list_end-is (comma {x = x} {y = y} s r) = before-comma Between x y (s-is s) (s-is r)

-- space alone, or space, a comma and space
abbrev Split : SpaceState → List ℕ → Type 0
Split m t = Accepts tokens.space m t ⊎ ((x : List ℕ) × (y : List ℕ) × Accepts tokens.space m x × Accepts tokens.space Between y × (t ≡ x ++ (44 ∷ y)))

split_space : (m i : SpaceState) (c : ℕ) (t : List ℕ) → space_step (kind c) m ≡ Some i → Split i t → Split m (c ∷ t)
split_space m i c t e = ⊎_elim (λ a. inl (i, e, a)) (λ (x, y, a, b, q). inr (c ∷ x, y, (i, e, a), b, ap (c ∷◌) q))

split_comma : (m : SpaceState) (n : SeparatorState) (c : ℕ) (t : List ℕ) → c ≡ 44 → m ≡ Between → n ≡ After Between → Accepts tokens.separator n t → Split m (c ∷ t)
split_comma m n c t e at to a =
    inr ([], t, subst (λ i. Accepts tokens.space i []) (sym at) refl, after-from Between t (subst (λ i. Accepts tokens.separator i t) to a), ap (◌∷ t) e)

before-from : (m : SpaceState) (t : List ℕ) → Accepts tokens.separator (Before m) t → Split m t
before-from m [] a = inl a
before-from m (c ∷ t) a =
    ⊎_elim
    (λ (k, at, to). split_comma m a.0 c t (comma_byte c k) at to a.2)
    (λ (i, to, e). split_space m i c t e (before-from i t (subst (λ n. Accepts tokens.separator n t) to a.2)))
    (front_step (kind c) m a.0 a.1)

pub list_end-from : (t : List ℕ) → Is tokens.separator t → IsListEnd t
list_end-from t a =
    ⊎_elim
    (λ s. space (s-from t s))
    (λ (x, y, s, r, q). subst IsListEnd (sym q) (comma (s-from x s) (s-from y r)))
    (before-from Between t a)

-- A separator is the end of a list that is not empty.
behind : (x y : List ℕ) → x ++ (44 ∷ y) ≢ []
behind [] y = λ e. cc
behind (c ∷ x) y = λ e. cc

separator-list_end : {t : List ℕ} → IsSeparator t → IsListEnd t × (t ≢ [])
separator-list_end (comma_first {y = y} s) = (comma empty s, behind [] y)
separator-list_end (space_alone s) = (space s.0, s.1)
separator-list_end (space_comma {x = x} {y = y} s r) = (comma s.0 r, behind x y)

separating_comma : (x y : List ℕ) → IsSpace x → IsSpace y → IsSeparator (x ++ (44 ∷ y))
separating_comma [] y s r = comma_first r
separating_comma (c ∷ x) y s r = space_comma (s, λ e. cc) r

list_end-separator : {t : List ℕ} → IsListEnd t → t ≢ [] → IsSeparator t
list_end-separator (space s) some = space_alone (s, some)
list_end-separator (comma {x = x} {y = y} s r) some = separating_comma x y s r

-- The tests say the same.
pub optional_texts : (t : List ℕ) → (IsSpace t → is_space t ≡ true) × (is_space t ≡ true → IsSpace t)
optional_texts t = (λ s. (token_texts tokens.space t).0 (s-is s), λ e. s-from t ((token_texts tokens.space t).1 e))

pub at_end_texts : (t : List ℕ) → (IsListEnd t → is_list_end t ≡ true) × (is_list_end t ≡ true → IsListEnd t)
at_end_texts t = (λ s. (token_texts tokens.separator t).0 (list_end-is s), λ e. list_end-from t ((token_texts tokens.separator t).1 e))

is_some : (t : List ℕ) → t ≢ [] → not (is_empty t) ≡ true
is_some [] some = absurd (some refl)
is_some (c ∷ t) some = refl

some_is : (t : List ℕ) → not (is_empty t) ≡ true → t ≢ []
some_is [] e = absurd (false≢true e)
some_is (c ∷ t) e = λ q. cc

pub mandatory_texts : (t : List ℕ) → (IsMandatorySpace t → is_mandatory_space t ≡ true) × (is_mandatory_space t ≡ true → IsMandatorySpace t)
mandatory_texts t = (
  λ s. and_from (not (is_empty t)) (is_space t) (is_some t s.1) ((optional_texts t).0 s.0),
  λ e. let h = and_parts (not (is_empty t)) (is_space t) e in ((optional_texts t).1 h.1, some_is t h.0),
)

pub separating_texts : (t : List ℕ) → (IsSeparator t → is_separator t ≡ true) × (is_separator t ≡ true → IsSeparator t)
separating_texts t = (
  λ s. let h = separator-list_end s in and_from (not (is_empty t)) (is_list_end t) (is_some t h.1) ((at_end_texts t).0 h.0),
  λ e. let h = and_parts (not (is_empty t)) (is_list_end t) e in list_end-separator ((at_end_texts t).1 h.1) (some_is t h.0),
)
