-- Keywords: what is read as one is its text, its text is read as it, and no number and no string begins with one.
use Rattle.std.proofs.Common.{ℕ, List, [], ◌∷◌, ◌++◌, ◌≡◌, refl, ap, sym, ◌∙◌, ◌<◌, length, get_or, drop, arith}
use Rattle.std.specs.Prelude.{Bool, true, false, cond, eqb, ◌||◌, Option, Some, None}
use Rattle.std.specs.List.{list_all}
use Rattle.std.proofs.lemmas.Bool.{and_parts, cond_both, eqb-true, false_from_ne_true, both_ways}
use Rattle.std.proofs.lemmas.Option.{same_Some, none-some}
use Rattle.cbor_edn_parts.specs.declared.base.bytes.Kind.{Kind}
use Rattle.cbor_edn_parts.specs.declared.base.bytes.Kind.TheVariants.{Zero, One, TwoToSeven, EightOrNine, Quote, Less, B, E, HexLetter, O, P, X, Letter}
use Rattle.cbor_edn_parts.specs.declared.base.indicator.Indicator.{Indicator}
use Rattle.cbor_edn_parts.specs.declared.number.NumberState.{NumberState}
use Rattle.cbor_edn_parts.specs.declared.number.NumberState.TheVariants.{Start}
use Rattle.cbor_edn_parts.specs.declared.string.LiteralState.{LiteralState}
use Rattle.cbor_edn_parts.specs.declared.string.LiteralState.TheVariants as in_literal
use Rattle.cbor_edn_parts.specs.base.Bytes.{kind, follows, Follow}
use Rattle.cbor_edn_parts.specs.base.Indicator.{indicator_text}
use Rattle.cbor_edn_parts.specs.internal.Lex.{Accepts}
use Rattle.cbor_edn_parts.specs.number.Number.{Decimal}
use Rattle.cbor_edn_parts.specs.internal.NumberTokens.{number, number_step, is_number}
use Rattle.cbor_edn_parts.specs.internal.LiteralTokens.{literal, literal_step, is_literal, is_lower, is_upper, is_digit}
use Rattle.cbor_edn_parts.proofs.lemmas.base.ByteKinds as kinds
use Rattle.cbor_edn_parts.proofs.lemmas.base.Tokens.{Holds, nothing, just, token_texts}
use Rattle.cbor_edn_model.specs.declared.text.keyword.NamedSimple.TheVariants.{False, True, Null, Undefined}
use Rattle.cbor_edn_model.specs.declared.text.keyword.NonFinite.TheVariants.{Infinity, NegativeInfinity, NaN}
use Rattle.cbor_edn_model.specs.declared.text.keyword.Keyword.{Keyword}
use Rattle.cbor_edn_model.specs.declared.text.keyword.Keyword.TheVariants.{Named, Simple, NonFinite}
use Rattle.cbor_edn_model.specs.text.Keywords.{keyword_text}
use Rattle.cbor_edn_model.specs.tree.Trees.{OnePiece, OneString, Tree, LiteralTree, EllipsisTree, EmbeddedTree, LastPieceTree, PlusTree, onto, starts_number}
use Rattle.cbor_edn_model.proofs.lemmas.text.Tested.{Tested}
use Rattle.cbor_edn_model.specs.internal.Reading.{keyword_of, behind_bytes, prefix_goes_on, ended, if_keyword, keyword_at}
use Rattle.cbor_edn_model.proofs.lemmas.text.Follows.{quoted}
use Rattle.cbor_edn_model.proofs.lemmas.text.Begins.{quoted_byte, digit_byte, signed_digit, literal_some, ellipsis_begin}

-- ---- what is read as a keyword

pub behind-found : (bs xs : List ℕ) → Holds (λ r. xs ≡ bs ++ r) (behind_bytes bs xs)
behind-found [] xs = just refl
behind-found (b ∷ bs) [] = nothing
behind-found (b ∷ bs) (c ∷ xs) = cond_both (eqb c b) (behind_bytes bs xs) None (Holds (λ r. c ∷ xs ≡ b ∷ (bs ++ r))) (λ e. longer (behind_bytes bs xs) (eqb-true c b e) (behind-found bs xs)) (λ e. nothing)
  where
    longer : (o : Option (List ℕ)) → c ≡ b → Holds (λ r. xs ≡ bs ++ r) o → Holds (λ r. c ∷ xs ≡ b ∷ (bs ++ r)) o
    longer _ e nothing = nothing
    longer _ e (just h) = just (cc)

abbrev pub IsFront : List ℕ → Keyword × List ℕ → Type 0
IsFront xs p = (xs ≡ keyword_text p.0 ++ p.1) × (prefix_goes_on p.1 ≡ false)

ended-found : (w : Keyword) (xs : List ℕ) (o : Option (List ℕ)) → Holds (λ r. xs ≡ keyword_text w ++ r) o → Holds (IsFront xs) (ended w o)
ended-found w xs _ nothing = nothing
ended-found w xs _ (just {x = r} h) = cond_both (prefix_goes_on r) None (Some (w, r)) (Holds (IsFront xs)) (λ e. nothing) (λ e. just (h, e))

pub keyword-found : (xs : List ℕ) → Holds (IsFront xs) (keyword_at xs)
unfolding keyword_at
keyword-found [] = nothing
keyword-found (c ∷ r) = if_keyword-found (keyword_of c)
  where
    if_keyword-found : (o : Option Keyword) → Holds (IsFront (c ∷ r)) (if_keyword o (c ∷ r))
    if_keyword-found None = nothing
    if_keyword-found (Some w) = ended-found w (c ∷ r) _ (behind-found (keyword_text w) (c ∷ r))

-- ---- keywords are read

pub keyword-again : (w : Keyword) (r : List ℕ) → prefix_goes_on r ≡ false → keyword_at (keyword_text w ++ r) ≡ Some (w, r)
unfolding keyword_at
keyword-again (Named False) r h = rw h
keyword-again (NonFinite NaN) r h = rw h
keyword-again _ r h = rw h

pub keyword_length : (w : Keyword) → 0 < length (keyword_text w)
keyword_length (Named False) = omega arith
keyword_length (NonFinite NaN) = omega arith
keyword_length _ = omega arith

-- ---- what begins with no keyword

abbrev first : Keyword → ℕ
first w = get_or (keyword_text w) 0 0

keyword_first : (c : ℕ) (Q : Option Keyword → Type 0) → ((w : Keyword) → c ≡ first w → Q (Some w)) → Q None → Q (keyword_of c)
keyword_first c Q some none =
    cond_both (eqb c 102) _ _ Q (λ e. some (Named False) (eqb-true c 102 e)) (λ e.
    cond_both (eqb c 116) _ _ Q (λ e. some (Named True) (eqb-true c 116 e)) (λ e.
    cond_both (eqb c 110) _ _ Q (λ e. some (Named Null) (eqb-true c 110 e)) (λ e.
    cond_both (eqb c 117) _ _ Q (λ e. some (Named Undefined) (eqb-true c 117 e)) (λ e.
    cond_both (eqb c 115) _ _ Q (λ e. some Simple (eqb-true c 115 e)) (λ e.
    cond_both (eqb c 73) _ _ Q (λ e. some (NonFinite Infinity) (eqb-true c 73 e)) (λ e.
    cond_both (eqb c 45) _ _ Q (λ e. some (NonFinite NegativeInfinity) (eqb-true c 45 e)) (λ e.
    cond_both (eqb c 78) _ _ Q (λ e. some (NonFinite NaN) (eqb-true c 78 e)) (λ e. none))))))))

no_keyword : (c : ℕ) (xs : List ℕ) → ((w : Keyword) → c ≡ first w → ended w (behind_bytes (keyword_text w) (c ∷ xs)) ≡ None) → keyword_at (c ∷ xs) ≡ None
unfolding keyword_at
no_keyword c xs h = keyword_first c (λ o. if_keyword o (c ∷ xs) ≡ None) h refl

-- A sign is followed by a digit or a point.
no_letter : (bs xs : List ℕ) → starts_number xs ≡ true → behind_bytes (73 ∷ bs) xs ≡ None
no_letter bs [] h = refl
no_letter bs (d ∷ xs) h = cond_both (eqb d 73) (behind_bytes bs xs) None (λ o. o ≡ None) (λ e. let no : false ≡ true = rw (eqb-true d 73 e) at h in absurd (cc)) (λ e. refl)

number_keyword : (w : Keyword) (n : NumberState) (x r : List ℕ) → number_step (kind (first w)) Start ≡ Some n → Accepts number n x → ended w (behind_bytes (keyword_text w) (first w ∷ (x ++ r))) ≡ None
unfolding kind
number_keyword (NonFinite NegativeInfinity) n x r s a = ap (ended (NonFinite NegativeInfinity)) (no_letter (drop 2 (keyword_text (NonFinite NegativeInfinity))) (x ++ r) (signed_digit x r (rw (sym (same_Some _ _ s)) at a)))
number_keyword (Named False) n x r s a = absurd (none-some n s)
number_keyword (Named _) n x r s a = absurd (none-some n s)
number_keyword (NonFinite NaN) n x r s a = absurd (none-some n s)
number_keyword _ n x r s a = absurd (none-some n s)

pub number_no_keyword : (c : ℕ) (x r : List ℕ) → is_number (c ∷ x) ≡ true → keyword_at (c ∷ (x ++ r)) ≡ None
number_no_keyword c x r v = let a = (token_texts number (c ∷ x)).1 v in no_keyword c (x ++ r) (λ w e. rw e (number_keyword w a.0 x r (sym (ap (λ d. number_step (kind d) Start) e) ∙ a.1) a.2))

-- A prefix goes on behind a keyword.
prefix_by : {A : Type 0} (lower digit single : Bool) (a b n : A) → cond single (Some a) (cond (lower || digit) (Some b) None) ≡ Some n → (lower || digit || single) ≡ true
prefix_by true digit single a b n e = refl
prefix_by false true single a b n e = refl
prefix_by false false true a b n e = refl
prefix_by false false false a b n e = cc

lower_step : (c : ℕ) → is_lower c ≡ true → literal_step c in_literal.Lower ≡ Some in_literal.Lower
lower_step c h = rw (false_from_ne_true (eqb c 39) (λ e. both_ways false refl (rw (eqb-true c 39 e) at h)), h)

lower_goes_on : (bs x r : List ℕ) → list_all is_lower bs ≡ true → Accepts literal in_literal.Lower x → Holds (λ q. prefix_goes_on q ≡ true) (behind_bytes bs (x ++ r))
lower_goes_on bs [] r l a = absurd (cc)
lower_goes_on [] (d ∷ x) r l a = just (prefix_by (is_lower d) (is_digit d) (eqb d 39) _ _ _ a.1)
lower_goes_on (b ∷ bs) (d ∷ x) r l a = cond_both (eqb d b) (behind_bytes bs (x ++ r)) None (Holds (λ q. prefix_goes_on q ≡ true)) (λ e. let both = and_parts (is_lower b) (list_all is_lower bs) l in lower_goes_on bs x r both.1 (rw (same_Some _ _ (sym a.1 ∙ lower_step d (rw (eqb-true d b e) both.0))) at a.2)) (λ e. nothing)

upper_stops : (b : ℕ) (bs x r : List ℕ) → literal_step b in_literal.Upper ≡ None → Accepts literal in_literal.Upper x → behind_bytes (b ∷ bs) (x ++ r) ≡ None
upper_stops b bs [] r l a = absurd (cc)
upper_stops b bs (d ∷ x) r l a = cond_both (eqb d b) (behind_bytes bs (x ++ r)) None (λ o. o ≡ None) (λ e. let s = rw (eqb-true d b e) at a.1 in absurd (cc)) (λ e. refl)

not_ended : (w : Keyword) (o : Option (List ℕ)) → Holds (λ q. prefix_goes_on q ≡ true) o → ended w o ≡ None
not_ended w _ nothing = refl
not_ended w _ (just h) = rw h

literal_keyword : (w : Keyword) (n : LiteralState) (x r : List ℕ) → literal_step (first w) in_literal.Start ≡ Some n → Accepts literal n x → ended w (behind_bytes (keyword_text w) (first w ∷ (x ++ r))) ≡ None
literal_keyword (NonFinite Infinity) n x r s a = ap (ended (NonFinite Infinity)) (upper_stops 110 (drop 2 (keyword_text (NonFinite Infinity))) x r refl (rw (sym (same_Some _ _ s)) at a))
literal_keyword (NonFinite NegativeInfinity) n x r s a = absurd (none-some n s)
literal_keyword (NonFinite NaN) n x r s a = ap (ended (NonFinite NaN)) (upper_stops 97 (drop 2 (keyword_text (NonFinite NaN))) x r refl (rw (sym (same_Some _ _ s)) at a))
literal_keyword (Named False) n x r s a = not_ended (Named False) _ (lower_goes_on (97 ∷ 108 ∷ 115 ∷ 101 ∷ []) x r refl (rw (sym (same_Some _ _ s)) at a))
literal_keyword w n x r s a = not_ended w _ (lower_goes_on (drop 1 (keyword_text w)) x r refl (rw (sym (same_Some _ _ s)) at a))

pub literal_no_keyword : (c : ℕ) (x r : List ℕ) → is_literal (c ∷ x) ≡ true → keyword_at (c ∷ (x ++ r)) ≡ None
literal_no_keyword c x r v = let a = (token_texts literal (c ∷ x)).1 v in no_keyword c (x ++ r) (λ w e. rw e (literal_keyword w a.0 x r (sym (ap (λ d. literal_step d in_literal.Start) e) ∙ a.1) a.2))

piece_no_keyword : (p : Tree OnePiece) (r : List ℕ) → Tested p → keyword_at (onto p r) ≡ None
unfolding onto Tested keyword_at
piece_no_keyword (LiteralTree [] i) r v = absurd (literal_some v)
piece_no_keyword (LiteralTree (c ∷ x) i) r v = literal_no_keyword c x (indicator_text i ++ r) v
piece_no_keyword (EllipsisTree x) r v = rw (ellipsis_begin x v).1
piece_no_keyword (EmbeddedTree w i) r v = refl

pub string_no_keyword : (w : Tree OneString) (r : List ℕ) → Tested w → keyword_at (onto w r) ≡ None
unfolding onto Tested
string_no_keyword (LastPieceTree p) r v = piece_no_keyword p r v
string_no_keyword (PlusTree p s t w) r v = piece_no_keyword p _ v.0

-- ---- where no prefix goes on

follows-prefixless : (k : Kind) → follows k ≡ true → (quoted k || kinds.is_digit Decimal k) ≡ false
follows-prefixless Quote h = cc
follows-prefixless Less h = cc
follows-prefixless B h = cc
follows-prefixless E h = cc
follows-prefixless HexLetter h = cc
follows-prefixless O h = cc
follows-prefixless P h = cc
follows-prefixless X h = cc
follows-prefixless Letter h = cc
follows-prefixless Zero h = cc
follows-prefixless One h = cc
follows-prefixless TwoToSeven h = cc
follows-prefixless EightOrNine h = cc
follows-prefixless _ h = refl

none_of : (double single less lower upper digit : Bool) → ((double || single || less || lower || upper) || digit) ≡ false → (lower || digit || single) ≡ false
none_of true single less lower upper digit e = cc
none_of false true less lower upper digit e = cc
none_of false false true lower upper digit e = cc
none_of false false false true upper digit e = cc
none_of false false false false true digit e = cc
none_of false false false false false digit e = rw e

pub follow_ends : (r : List ℕ) → Follow r → prefix_goes_on r ≡ false
follow_ends [] h = refl
follow_ends (c ∷ r) h = none_of (eqb c 34) (eqb c 39) (eqb c 60) (is_lower c) (is_upper c) (is_digit c) (rw (← quoted_byte c, ← digit_byte c) (follows-prefixless (kind c) h))

pub indicator_ends : (i : Option Indicator) (r : List ℕ) → Follow r → prefix_goes_on (indicator_text i ++ r) ≡ false
indicator_ends None r h = follow_ends r h
indicator_ends (Some i) r h = refl
