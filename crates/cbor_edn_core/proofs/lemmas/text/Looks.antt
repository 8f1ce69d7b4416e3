-- Who pays the reads for a keyword that does not stand there.
use Rattle.std.proofs.Common.{ℕ, List, [], ◌∷◌, ◌++◌, ◌≡◌, ◌≤◌, ◌<◌, ◌+◌, ◌*◌, length, drop, refl, ap, arith, false, Option, Some, Result, Ok, Err}
use Rattle.std.specs.Prelude.{eqb}
use Rattle.std.proofs.lemmas.Bool.{cond_both, both_ways}
use Rattle.cbor_edn_parts.specs.internal.Lex as lex
use Rattle.cbor_edn_parts.specs.internal.Lex.{Automaton, Accepts}
use Rattle.cbor_edn_parts.specs.internal.LiteralTokens.{literal, ellipsis, literal_final, ellipsis_final, is_lower, is_upper}
use Rattle.cbor_edn_parts.specs.declared.space.read.ItemEnd.{ItemEnd}
use Rattle.cbor_edn_parts.proofs.lemmas.base.Tokens.{munch-took, Holds, nothing, just}
use Rattle.cbor_edn_model.specs.internal.LookCosts.{a_byte, longest_keyword, extra, refused_extra, keyword_extra, enclosed_extra, refused_enclosed_extra}
use Rattle.cbor_edn_model.specs.tree.Trees.{OneItem}
use Rattle.cbor_edn_core.specs.internal.ParserResults.{CostsEnd, CostsEndAhead}
use Rattle.cbor_edn_model.specs.internal.BytesAt.{ahead}
use Rattle.cbor_edn_core.proofs.lemmas.text.Turns.{token_end}

pub ahead_small : (text : List ℕ) (at : ℕ) → ahead text at ≤ longest_keyword
ahead_small text at = omega arith

-- tokens of two bytes or more

-- No text is one of a single byte.
abbrev pub Open : {State : Type 0} → Automaton State → Type 0
Open {State} T = (c : ℕ) → Holds (λ (n : State). T.final n ≡ false) (T.step c T.start)

held : {A : Type 0} {P : A → Type 0} (o : Option A) (n : A) → Holds P o → o ≡ Some n → P n
held {P = P} _ n nothing e = absurd (cc)
held {P = P} _ n (just {x = m} p) e = let same : m ≡ n = cc in rw same at p

two_accepted : {State : Type 0} (T : Automaton State) (x : List ℕ) → T.final T.start ≡ false → Open T → Accepts T T.start x → 2 ≤ length x
two_accepted T [] none none_final a = absurd (both_ways (T.final T.start) none a)
two_accepted T (c ∷ []) none none_final a = absurd (both_ways (T.final a.0) (held (T.step c T.start) a.0 (none_final c) a.1) a.2)
two_accepted T (c ∷ d ∷ x) none none_final a = omega arith

pub token_two : {State : Type 0} (T : Automaton State) (text x : List ℕ) (from to : ℕ) → T.final T.start ≡ false → Open T → lex.token T (drop from text) ≡ Some (x, drop to text) → from ≤ length text → to ≤ length text → from + 2 ≤ to
token_two T text x from to none none_final h begins ends = omega (arith, token_end T text x from to h begins ends, two_accepted T x none none_final (munch-took T T.start (drop from text) x (drop to text) h).0)

pub literal_open : Open literal
literal_open c =
    cond_both (eqb c 34) _ _ (Holds (λ n. literal_final n ≡ false)) (λ e. just refl) (λ e.
    cond_both (eqb c 39) _ _ (Holds (λ n. literal_final n ≡ false)) (λ e. just refl) (λ e.
    cond_both (is_lower c) _ _ (Holds (λ n. literal_final n ≡ false)) (λ e. just refl) (λ e.
    cond_both (is_upper c) _ _ (Holds (λ n. literal_final n ≡ false)) (λ e. just refl) (λ e. nothing))))

pub ellipsis_open : Open ellipsis
ellipsis_open c = cond_both (eqb c 46) _ _ (Holds (λ n. ellipsis_final n ≡ false)) (λ e. just refl) (λ e. nothing)

-- the first of several pieces

-- what it has spared
abbrev pub spared : {X : Type 0} → List X → ℕ → ℕ
spared [] n = 0
spared (x ∷ xs) n = n

pub spared_push : {X : Type 0} (xs : List X) (x : X) (n : ℕ) → spared (xs ++ x ∷ []) n ≡ n
spared_push [] x n = refl
spared_push (y ∷ xs) x n = refl

pub pushed_some : {X : Type 0} (xs : List X) (x : X) → xs ++ x ∷ [] ≡ [] → ⊥
pushed_some [] x e = cc
pushed_some (y ∷ xs) x e = cc

pub spared_first : {X : Type 0} (row : List X) (text : List ℕ) (at from count old : ℕ) → (row ≡ [] → at ≡ from) → count + spared row (ahead text from) + a_byte * from ≤ old + a_byte * at → count + ahead text from + a_byte * from ≤ old + a_byte * at + ahead text at
spared_first [] text at from count old first h = omega (arith, h, ap (ahead text) (first refl))
spared_first (x ∷ row) text at from count old first h = omega (arith, h)

-- A number pays for the reads that asked what begins there.
pub opened_costs : {X E : Type 0} (text : List ℕ) (from old before new : ℕ) (r : Result (X × ItemEnd) E) → old < before → before ≤ old + ahead text from + 2 → CostsEndAhead a_byte keyword_extra keyword_extra text from before new r → CostsEnd a_byte (extra OneItem) (refused_extra OneItem) text from old new r
opened_costs text from old before new (Ok p) some most c = (omega (arith, some, most, c.0), omega (arith, some, c.1))
opened_costs text from old before new (Err e) some most c = (omega (arith, some, most, c.0), omega (arith, some, c.1))

-- what follows a number
pub costs_ahead : {X E : Type 0} (text : List ℕ) (from at old now new : ℕ) (r : Result (X × ItemEnd) E) → now + ahead text from + a_byte * from ≤ old + a_byte * at + 3 → old + at ≤ now + from → CostsEnd a_byte enclosed_extra refused_enclosed_extra text at now new r → CostsEndAhead a_byte keyword_extra keyword_extra text from old new r
costs_ahead text from at old now new (Ok p) most least c = (omega (arith, most, c.0), omega (arith, least, c.1))
costs_ahead text from at old now new (Err e) most least c = (omega (arith, most, c.0), omega (arith, least, c.1))
