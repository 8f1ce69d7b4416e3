-- What may follow what: each fact by the kind of one byte.
use Rattle.std.proofs.Common.{ℕ, List, [], ◌∷◌, ◌++◌, ◌≡◌, refl, ap}
use Rattle.std.specs.Prelude.{Bool, true, false, Option, Some, None}
use Rattle.std.proofs.lemmas.Bool.{both_ways}
use Rattle.cbor_edn_parts.specs.declared.base.bytes.Kind.{Kind}
use Rattle.cbor_edn_parts.specs.declared.base.bytes.Kind.TheVariants.{Blank, Tab, Lf, Slash, Hash, Comma, Close, Less, Quote, Plus, Minus, Zero, One, TwoToSeven, EightOrNine, Dot, B, E, HexLetter, O, P, X, Letter}
use Rattle.cbor_edn_parts.specs.declared.base.indicator.Indicator.{Indicator}
use Rattle.cbor_edn_parts.specs.base.Bytes.{kind, follows, closing, begins, Follow, Closes, Begins, is_closed}
use Rattle.cbor_edn_parts.specs.declared.base.indicator.Indicator.TheVariants.{Indefinite}
use Rattle.cbor_edn_parts.specs.base.Indicator.{indicator_text, indicator_at, suffix_at}
use Rattle.cbor_edn_parts.specs.internal.Lex.{munch, is_token}
use Rattle.cbor_edn_parts.specs.internal.SpaceTokens.{space, separator, space_step, space_final, separator_step, separator_final, before, after, is_separator}
use Rattle.cbor_edn_parts.specs.internal.NumberTokens.{number, number_step}
use Rattle.cbor_edn_parts.proofs.lemmas.number.NumberEnds.{number_stop}
use Rattle.cbor_edn_parts.specs.declared.space.SpaceState.{SpaceState}
use Rattle.cbor_edn_parts.specs.declared.space.SpaceState.TheVariants.{Between}
use Rattle.cbor_edn_parts.specs.internal.SpaceTokens.{SeparatorState}
use Rattle.cbor_edn_parts.specs.internal.SpaceTokens.{Before, After}
use Rattle.cbor_edn_parts.specs.declared.number.NumberState.{NumberState}
use Rattle.cbor_edn_parts.specs.declared.number.NumberState.TheVariants.{Start}
use Rattle.cbor_edn_parts.specs.internal.LiteralTokens.{literal, ellipsis, literal_step, literal_final}
use Rattle.cbor_edn_parts.specs.declared.string.LiteralState.{LiteralState}
use Rattle.cbor_edn_parts.specs.declared.string.LiteralState.TheVariants.{Closed}
use Rattle.cbor_edn_model.specs.tree.Items.{Bracketed, Array, Map}
use Rattle.cbor_edn_model.specs.text.Spelling.{close_byte}
use Rattle.cbor_edn_model.specs.internal.Reading.{starts_with}
use Rattle.cbor_edn_parts.proofs.lemmas.base.ByteKinds.{differs}
use Rattle.cbor_edn_parts.proofs.lemmas.base.Indicators.{Plain, begins-plain, Follow-plain}
use Rattle.cbor_edn_parts.proofs.lemmas.base.Tokens.{Halts, token_texts}

-- What begins no space and no separator.
abbrev pub solid : Kind → Bool
solid Blank = false
solid Tab = false
solid Lf = false
solid Slash = false
solid Hash = false
solid Comma = false
solid _ = true

abbrev pub Solid : List ℕ → Type 0
Solid [] = Unit {0}
Solid (c ∷ r) = solid (kind c) ≡ true

-- What may end a space: a comma ends it too.
abbrev pub spaceless : Kind → Bool
spaceless Comma = true
spaceless k = solid k

abbrev pub Spaceless : List ℕ → Type 0
Spaceless [] = Unit {0}
Spaceless (c ∷ r) = spaceless (kind c) ≡ true

-- What a number begins with.
abbrev pub numeric : Kind → Bool
numeric Plus = true
numeric Minus = true
numeric Zero = true
numeric One = true
numeric TwoToSeven = true
numeric EightOrNine = true
numeric Dot = true
numeric _ = false

-- What a string other than dots begins with.
abbrev pub quoted : Kind → Bool
quoted Quote = true
quoted Less = true
quoted B = true
quoted E = true
quoted HexLetter = true
quoted O = true
quoted P = true
quoted X = true
quoted Letter = true
quoted _ = false

solid-spaceless : (k : Kind) → solid k ≡ true → spaceless k ≡ true
solid-spaceless Comma h = refl
solid-spaceless k h = h

space_stop : (k : Kind) (m : SpaceState) → space_final m ≡ true → spaceless k ≡ true → space_step k m ≡ None
space_stop Blank m e h = cc
space_stop Tab m e h = cc
space_stop Lf m e h = cc
space_stop Slash m e h = cc
space_stop Hash m e h = cc
space_stop _ Between e h = refl
space_stop _ _ e h = cc

separator_stop : (k : Kind) (m : SeparatorState) → separator_final m ≡ true → solid k ≡ true → separator_step k m ≡ None
separator_stop Comma m e h = cc
separator_stop k (Before m) e h = ap before (space_stop k m e (solid-spaceless k h))
separator_stop k (After m) e h = ap after (space_stop k m e (solid-spaceless k h))

closing-solid : (k : Kind) → closing k ≡ true → solid k ≡ true
closing-solid Close h = refl
closing-solid _ h = cc

closing-follows : (k : Kind) → closing k ≡ true → follows k ≡ true
closing-follows Close h = refl
closing-follows _ h = cc

begins-solid : (k : Kind) → begins k ≡ true → solid k ≡ true
begins-solid Blank h = cc
begins-solid Tab h = cc
begins-solid Lf h = cc
begins-solid Slash h = cc
begins-solid Hash h = cc
begins-solid Comma h = cc
begins-solid _ h = refl

begins-open : (k : Kind) → begins k ≡ true → closing k ≡ false
begins-open Close h = cc
begins-open _ h = refl

pub numeric-begins : (k : Kind) → numeric k ≡ true → begins k ≡ true
numeric-begins Plus h = refl
numeric-begins Minus h = refl
numeric-begins Zero h = refl
numeric-begins One h = refl
numeric-begins TwoToSeven h = refl
numeric-begins EightOrNine h = refl
numeric-begins Dot h = refl
numeric-begins _ h = cc

number_first : (k : Kind) (n : NumberState) → number_step k Start ≡ Some n → numeric k ≡ true
number_first Plus n h = refl
number_first Minus n h = refl
number_first Zero n h = refl
number_first One n h = refl
number_first TwoToSeven n h = refl
number_first EightOrNine n h = refl
number_first Dot n h = refl
number_first _ n h = cc

space_first : (k : Kind) (n : SpaceState) → space_step k Between ≡ Some n → follows k ≡ true
space_first Blank n h = refl
space_first Tab n h = refl
space_first Lf n h = refl
space_first Slash n h = refl
space_first Hash n h = refl
space_first _ n h = cc

separator_first : (k : Kind) (n : SeparatorState) → separator_step k (Before Between) ≡ Some n → follows k ≡ true
separator_first Blank n h = refl
separator_first Tab n h = refl
separator_first Lf n h = refl
separator_first Slash n h = refl
separator_first Hash n h = refl
separator_first Comma n h = refl
separator_first _ n h = cc

-- The same over lists.
pub solid_spaceless : (r : List ℕ) → Solid r → Spaceless r
solid_spaceless [] h = tt
solid_spaceless (c ∷ r) h = solid-spaceless (kind c) h

pub halts_space : (r : List ℕ) → Spaceless r → Halts space r
halts_space [] h = tt
halts_space (c ∷ r) h = λ m e. space_stop (kind c) m e h

pub halts_separator : (r : List ℕ) → Solid r → Halts separator r
halts_separator [] h = tt
halts_separator (c ∷ r) h = λ m e. separator_stop (kind c) m e h

pub halts_number : (r : List ℕ) → Follow r → Halts number r
halts_number [] h = tt
halts_number (c ∷ r) h = λ m e. number_stop (kind c) m e h

literal_stop : (c : ℕ) (m : LiteralState) → literal_final m ≡ true → literal_step c m ≡ None
literal_stop c Closed e = refl
literal_stop c _ e = cc

-- A literal ends at its quote.
pub halts_literal : (r : List ℕ) → Halts literal r
halts_literal [] = tt
halts_literal (c ∷ r) = λ m e. literal_stop c m e

pub halts_ellipsis : (r : List ℕ) → Follow r → Halts ellipsis r
unfolding kind
halts_ellipsis [] h = tt
halts_ellipsis (c ∷ r) h = λ m e. rw (differs follows c 46 h refl)

pub closes_solid : (r : List ℕ) → Closes r → Solid r
closes_solid [] h = tt
closes_solid (c ∷ r) h = closing-solid (kind c) h

pub closes_follow : (r : List ℕ) → Closes r → Follow r
closes_follow [] h = tt
closes_follow (c ∷ r) h = closing-follows (kind c) h

pub closes_closed : (r : List ℕ) → Closes r → is_closed r ≡ true
closes_closed [] h = refl
closes_closed (c ∷ r) h = h

pub begins_solid : (r : List ℕ) → Begins r → Solid r
begins_solid [] h = tt
begins_solid (c ∷ r) h = begins-solid (kind c) h

pub begins_open : (r : List ℕ) → Begins r → is_closed r ≡ false
begins_open [] h = absurd h
begins_open (c ∷ r) h = begins-open (kind c) h

pub space_before : (c : ℕ) (s r : List ℕ) → is_token space (c ∷ s) ≡ true → Follow (c ∷ r)
space_before c s r v = let a = (token_texts space (c ∷ s)).1 v in space_first (kind c) a.0 a.1

pub space_follow : (s r : List ℕ) → is_token space s ≡ true → Follow r → Follow (s ++ r)
space_follow [] r v h = h
space_follow (c ∷ s) r v h = space_before c s (s ++ r) v

pub separator_follow : (s r : List ℕ) → is_token separator s ≡ true → Follow r → Follow (s ++ r)
separator_follow [] r v h = h
separator_follow (c ∷ s) r v h = let a = (token_texts separator (c ∷ s)).1 v in separator_first (kind c) a.0 a.1

pub separating_follow : (s r : List ℕ) → is_separator s ≡ true → Follow (s ++ r)
separating_follow [] r v = absurd (cc)
separating_follow (c ∷ s) r v = let a = (token_texts separator (c ∷ s)).1 v in separator_first (kind c) a.0 a.1

pub numeric_start : (c : ℕ) (x : List ℕ) → is_token number (c ∷ x) ≡ true → numeric (kind c) ≡ true
numeric_start c x v = let a = (token_texts number (c ∷ x)).1 v in number_first (kind c) a.0 a.1

pub number_some : is_token number [] ≡ true → ⊥
unfolding munch
number_some v = both_ways false refl v

-- A space and an item begin with no indicator.
pub space_plain : (s r : List ℕ) → is_token space s ≡ true → Begins r → Plain (s ++ r)
space_plain [] [] v h = tt
space_plain [] (c ∷ r) v h = begins-plain (kind c) h
space_plain (c ∷ s) r v h = Follow-plain (c ∷ s) (space_before c s s v)

-- No number goes on with an indicator.
pub halts_indicator : (i : Option Indicator) (r : List ℕ) → Follow r → Halts number (indicator_text i ++ r)
unfolding kind
halts_indicator None r h = halts_number r h
halts_indicator (Some i) r h = λ m e. refl

-- A tag's number and its indicator end at a parenthesis, and behind a number no parenthesis follows.
pub halts_tag : (i : Option Indicator) (r : List ℕ) → Halts number (indicator_text i ++ (40 ∷ r))
unfolding kind
halts_tag None r = λ m e. refl
halts_tag (Some i) r = λ m e. refl

pub spec-tag : (i : Option Indicator) (r : List ℕ) → indicator_at (indicator_text i ++ (40 ∷ r)) ≡ (i, 40 ∷ r)
unfolding indicator_at suffix_at
spec-tag None r = refl
spec-tag (Some Indefinite) r = refl
spec-tag (Some _) r = refl

pub follow_unopened : (r : List ℕ) → Follow r → starts_with 40 r ≡ false
unfolding kind
follow_unopened [] h = refl
follow_unopened (c ∷ r) h = differs follows c 40 h refl

-- A key's colon.
pub colon_solid : (r : List ℕ) → Solid (58 ∷ r)
unfolding kind
colon_solid r = refl

pub colon_follow : (r : List ℕ) → Follow (58 ∷ r)
unfolding kind
colon_follow r = refl

-- A plus sign between two pieces.
pub plus_solid : (r : List ℕ) → Solid (43 ∷ r)
unfolding kind
plus_solid r = refl

pub plus_follow : (r : List ℕ) → Follow (43 ∷ r)
unfolding kind
plus_follow r = refl

-- The bytes that end lists.
pub ending_closes : (k : Bracketed) (r : List ℕ) → Closes (close_byte k ∷ r)
unfolding kind
ending_closes Array r = refl
ending_closes Map r = refl

pub stream_closes : (r : List ℕ) → Closes (41 ∷ r)
unfolding kind
stream_closes r = refl

pub embedded_closes : (r : List ℕ) → Closes (62 ∷ r)
unfolding kind
embedded_closes r = refl
