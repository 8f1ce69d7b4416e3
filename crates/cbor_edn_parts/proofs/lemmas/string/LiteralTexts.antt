-- The quoted texts of the grammar are those that the automaton of literals accepts.
use Rattle.std.proofs.Common.{ℕ, ◌≡◌, ◌≢◌, ◌≤◌, List, [], ◌∷◌, ◌++◌, Bool, true, false, Some, None, refl, sym, ap, ◌∙◌, subst, arith, append_assoc}
use Rattle.std.specs.Prelude.{◌==◌, ◌||◌, ◌&&◌, ◌⊎◌, ◌↔◌, nat_le, if◌then◌else◌}
use Rattle.std.proofs.lemmas.Bool.{cond-true, cond-false, cond_both, eq-eqb, ne_eqb, eqb-true, le-leb, leb-true, lt-leb, and_from, and_parts, and_left, both_ways, false≢true}
use Rattle.std.proofs.lemmas.Bool.Decides.{Decides-or}
use Rattle.std.specs.Bool.{Decides}
use Rattle.cbor_edn_parts.specs.internal.Lex.{Accepts, Is}
use Rattle.cbor_edn_parts.specs.string.Literal as literals
use Rattle.cbor_edn_parts.specs.string.Literal.{IsLower, IsUpper, IsDigit, IsPrefix, small, large, Decoded, nothing, part, Quoting, Prefixed, IsLiteral, IsQuoted}
use Rattle.cbor_edn_parts.specs.internal.LiteralTokens as tokens
use Rattle.cbor_edn_parts.specs.internal.LiteralTokens.{quote_byte, Step, is_lower, is_upper, is_digit, quoted_step, ends, inside, literal_step, is_literal}
use Rattle.cbor_edn_parts.specs.declared.string.Quote.{Quote}
use Rattle.cbor_edn_parts.specs.declared.string.Quote.TheVariants.{Single, Double}
use Rattle.cbor_edn_parts.specs.declared.string.QuotedState.{QuotedState}
use Rattle.cbor_edn_parts.specs.declared.string.QuotedState.TheVariants.{Between}
use Rattle.cbor_edn_parts.specs.declared.string.LiteralState.{LiteralState}
use Rattle.cbor_edn_parts.specs.declared.string.LiteralState.TheVariants.{Start, Lower, Upper, Inside, Closed}
use Rattle.cbor_edn_parts.proofs.lemmas.base.Each.{Each, end, next, each, all}
use Rattle.cbor_edn_parts.proofs.lemmas.string.LiteralRuns.{runs_accepted, decoded_runs}
use Rattle.cbor_edn_parts.proofs.lemmas.string.LiteralSteps.{Came, came_between, Leads, step_leads}
use Rattle.cbor_edn_parts.proofs.lemmas.base.Tokens.{token_texts}

-- ---- behind the first quote

-- what follows the first quote
abbrev Closes : Quote → List ℕ → Type 0
Closes q t = (x v : List ℕ) × Decoded (quote_byte q) x v × (t ≡ x ++ (quote_byte q ∷ []))

closes-is : (q : Quote) {x v : List ℕ} → Decoded (quote_byte q) x v → Accepts tokens.literal (Inside q Between) (x ++ (quote_byte q ∷ []))
closes-is q d = runs_accepted q (quote_byte q ∷ []) (decoded_runs q d) (Closed, cond-true (quote_byte q == quote_byte q) _ _ (eq-eqb (quote_byte q) (quote_byte q) refl), refl)

closed-from : (t : List ℕ) → Accepts tokens.literal Closed t → t ≡ []
closed-from [] a = refl
closed-from (c ∷ t) a = absurd (cc (a.1))

-- the quote that ends the text
by_quote : (q : Quote) (c : ℕ) (t : List ℕ) {m : QuotedState} {p : List ℕ} → Came m p → ends q c m ≡ true → Accepts tokens.literal Closed t → Closes q (p ++ (c ∷ t))
by_quote q c t came_between e a = ([], [], nothing, rw (eqb-true c (quote_byte q) e, closed-from t a))
by_quote q c t _ e a = absurd (false≢true e)

-- a step that ends a part, or leads on
by_step : (q : Quote) (t p : List ℕ) (n : LiteralState) (o : Step) → Leads (quote_byte q) p o → inside q o ≡ Some n → Accepts tokens.literal n t
    → ((i : QuotedState) (y : List ℕ) → Came i y → Accepts tokens.literal (Inside q i) t → Closes q (y ++ t)) → Closes q (p ++ t)
by_step q t p n None l e a rest = absurd (cc)
by_step q t p n (Some (Between, b)) l e a rest =
    let to : n ≡ Inside q Between = cc in
    let (x, v, d, is) = rest Between [] came_between (subst (λ i. Accepts tokens.literal i t) to a) in
    (p ++ x, b ++ v, part l d, ap (p ++◌) is ∙ sym (append_assoc p x _))
by_step q t p n (Some (m, b)) l e a rest =
    let to : n ≡ Inside q m = cc in
    rest m p l (subst (λ i. Accepts tokens.literal i t) to a)

closes-from : (q : Quote) (m : QuotedState) (p t : List ℕ) → Came m p → Accepts tokens.literal (Inside q m) t → Closes q (p ++ t)
closes-from q m p [] came a = absurd (false≢true a)
closes-from q m p (c ∷ t) came a =
    cond_both (ends q c m) (Some Closed) (inside q (quoted_step (quote_byte q) c m)) (λ o. o ≡ Some a.0 → Closes q (p ++ (c ∷ t)))
    (λ ends step. let to : a.0 ≡ Closed = cc in by_quote q c t came ends (subst (λ i. Accepts tokens.literal i t) to a.2))
    (λ goes step. subst (Closes q) (append_assoc p (c ∷ []) t) (by_step q t (p ++ (c ∷ [])) a.0 _ (step_leads q c m p came goes) step a.2 (λ i y reached b. closes-from q i y t reached b)))
    a.1

-- ---- prefixes

pub decides_range : (low high c : ℕ) → Decides (nat_le low c && nat_le c high) ((low ≤ c) × (c ≤ high))
decides_range low high c = (
  λ e. let h = and_parts (nat_le low c) _ e in (leb-true low c h.0, leb-true c high h.1),
  λ h. and_from (nat_le low c) _ (le-leb low c h.0) (le-leb c high h.1),
)

-- In a prefix some bytes lead back, and the quote leads on.
module _ (m : LiteralState) (test : ℕ → Bool) (P : ℕ → Type 0) (decides : (c : ℕ) → Decides (test c) (P c)) (no_quote : test 39 ≡ false) (unended : tokens.literal_final m ≡ false)
    (steps : (c : ℕ) → literal_step c m ≡ (if c == 39 then Some (Inside Single Between) else if test c then Some m else None)) where
  letters-is : {x : List ℕ} (t : List ℕ) → Each P x → Accepts tokens.literal (Inside Single Between) t → Accepts tokens.literal m (x ++ (39 ∷ t))
  letters-is t end a = (Inside Single Between, steps 39, a)
  letters-is t (next {c = c} h more) a =
      let holds = (decides c).1 h in
      let other : c ≢ 39 = λ e. both_ways (test c) (ap test e ∙ no_quote) holds in
      (m, steps c ∙ (cond-false (c == 39) _ _ (ne_eqb c 39 other) ∙ cond-true (test c) _ _ holds), letters-is t more a)

  abbrev Named : List ℕ → Type 0
  Named t = (x u : List ℕ) × Each P x × Accepts tokens.literal (Inside Single Between) u × (t ≡ x ++ (39 ∷ u))

  letters-from : (t : List ℕ) → Accepts tokens.literal m t → Named t
  letters-from [] a = absurd (false≢true (sym unended ∙ a))
  letters-from (c ∷ t) a =
      cond_both (c == 39) _ _ (λ o. o ≡ Some a.0 → Named (c ∷ t))
      (λ q e. let to : a.0 ≡ Inside Single Between = cc in ([], t, end, subst (λ i. Accepts tokens.literal i t) to a.2, ap (◌∷ t) (eqb-true c 39 q)))
      (λ _. cond_both (test c) _ _ (λ o. o ≡ Some a.0 → Named (c ∷ t))
      (λ h e. let to : a.0 ≡ m = cc in
      let (x, u, letters, b, is) = letters-from t (subst (λ i. Accepts tokens.literal i t) to a.2) in
      (c ∷ x, u, next ((decides c).0 h) letters, b, ap (c ∷◌) is))
      (λ _ e. absurd (cc)))
      (sym (steps c) ∙ a.1)

pub lower_next : (c : ℕ) → Decides (is_lower c || is_digit c) (IsLower c ⊎ IsDigit c)
lower_next c = Decides-or (is_lower c) _ (decides_range 97 122 c) (decides_range 48 57 c)

pub upper_next : (c : ℕ) → Decides (is_upper c || is_digit c) (IsUpper c ⊎ IsDigit c)
upper_next c = Decides-or (is_upper c) _ (decides_range 65 90 c) (decides_range 48 57 c)

start_lower : (c : ℕ) → IsLower c → literal_step c Start ≡ Some Lower
start_lower c h =
    let double : c ≢ 34 = λ e. omega arith in
    let single : c ≢ 39 = λ e. omega arith in
    cond-false (c == 34) _ _ (ne_eqb c 34 double) ∙ (cond-false (c == 39) _ _ (ne_eqb c 39 single) ∙ cond-true (is_lower c) _ _ ((decides_range 97 122 c).1 h))

start_upper : (c : ℕ) → IsUpper c → literal_step c Start ≡ Some Upper
start_upper c h =
    let double : c ≢ 34 = λ e. omega arith in
    let single : c ≢ 39 = λ e. omega arith in
    cond-false (c == 34) _ _ (ne_eqb c 34 double)
    ∙ (cond-false (c == 39) _ _ (ne_eqb c 39 single)
    ∙ (cond-false (is_lower c) _ _ (and_left (nat_le 97 c) _ (lt-leb 97 c (omega arith)))
    ∙ cond-true (is_upper c) _ _ ((decides_range 65 90 c).1 h)))

prefixed-is : {p : List ℕ} (t : List ℕ) → IsPrefix p → Accepts tokens.literal (Inside Single Between) t → Is tokens.literal (p ++ (39 ∷ t))
prefixed-is t (small {c = c} h more) a = (Lower, start_lower c h, letters-is Lower _ _ lower_next refl refl (λ c. refl) t (each more) a)
prefixed-is t (large {c = c} h more) a = (Upper, start_upper c h, letters-is Upper _ _ upper_next refl refl (λ c. refl) t (each more) a)

-- ---- literals

pub quoted-is : (q : Quoting) (v t : List ℕ) → IsLiteral q v t → Is tokens.literal t
quoted-is literals.Double v t (x, d, e) = subst (Is tokens.literal) (sym e) (Inside Double Between, refl, closes-is Double d)
quoted-is literals.Single v t (x, d, e) = subst (Is tokens.literal) (sym e) (Inside Single Between, refl, closes-is Single d)
quoted-is (Prefixed p) v t (x, is, d, e) = subst (Is tokens.literal) (sym e) (prefixed-is _ is (closes-is Single d))

by_closes : (q : Quote) (t : List ℕ) → Accepts tokens.literal (Inside q Between) t → Closes q t
by_closes q t a = closes-from q Between [] t came_between a

by_prefix : (p u t : List ℕ) → IsPrefix p → Accepts tokens.literal (Inside Single Between) u → t ≡ p ++ (39 ∷ u) → IsQuoted t
by_prefix p u t is a e = let (x, v, d, q) = by_closes Single u a in (Prefixed p, v, (x, is, d, e ∙ ap (λ (y : List ℕ). p ++ (39 ∷ y)) q))

quoted-from : (t : List ℕ) → Is tokens.literal t → IsQuoted t
quoted-from [] a = absurd (false≢true a)
quoted-from (c ∷ t) a =
    cond_both (c == 34) _ _ (λ o. o ≡ Some a.0 → IsQuoted (c ∷ t))
    (λ h e. let to : a.0 ≡ Inside Double Between = cc in
    let (x, v, d, q) = by_closes Double t (subst (λ i. Accepts tokens.literal i t) to a.2) in
    (literals.Double, v, (x, d, cc (eqb-true c 34 h))))
    (λ _. cond_both (c == 39) _ _ (λ o. o ≡ Some a.0 → IsQuoted (c ∷ t))
    (λ h e. let to : a.0 ≡ Inside Single Between = cc in
    let (x, v, d, q) = by_closes Single t (subst (λ i. Accepts tokens.literal i t) to a.2) in
    (literals.Single, v, (x, d, cc (eqb-true c 39 h))))
    (λ _. cond_both (is_lower c) _ _ (λ o. o ≡ Some a.0 → IsQuoted (c ∷ t))
    (λ h e. let to : a.0 ≡ Lower = cc in
    let (x, u, letters, b, q) = letters-from Lower _ _ lower_next refl refl (λ c. refl) t (subst (λ i. Accepts tokens.literal i t) to a.2) in
    by_prefix (c ∷ x) u (c ∷ t) (small ((decides_range 97 122 c).0 h) (all letters)) b (ap (c ∷◌) q))
    (λ _. cond_both (is_upper c) _ _ (λ o. o ≡ Some a.0 → IsQuoted (c ∷ t))
    (λ h e. let to : a.0 ≡ Upper = cc in
    let (x, u, letters, b, q) = letters-from Upper _ _ upper_next refl refl (λ c. refl) t (subst (λ i. Accepts tokens.literal i t) to a.2) in
    by_prefix (c ∷ x) u (c ∷ t) (large ((decides_range 65 90 c).0 h) (all letters)) b (ap (c ∷◌) q))
    (λ _ e. absurd (cc)))))
    a.1

pub literal_automaton : (t : List ℕ) → IsQuoted t ↔ Is tokens.literal t
literal_automaton t = (λ (q, v, h). quoted-is q v t h, quoted-from t)

pub literal_test : (t : List ℕ) → IsQuoted t ↔ (is_literal t ≡ true)
literal_test t = (λ h. (token_texts tokens.literal t).0 ((literal_automaton t).0 h), λ e. (literal_automaton t).1 ((token_texts tokens.literal t).1 e))
