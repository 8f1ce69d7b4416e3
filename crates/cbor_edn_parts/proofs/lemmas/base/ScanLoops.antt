-- A loop over the bytes of a text takes what its automaton takes.
use Rattle.std.proofs.Common.{ℕ, zero, suc, ◌+◌, ◌-◌, ◌≤◌, ◌<◌, ◌≡◌, Bool, true, false, List, [], ◌∷◌, ◌++◌, length, take, drop, get_or, cond, Option, Some, None, refl, sym, ap, subst, ◌∙◌, append_assoc, add-zero, length-drop, arith}
use Rattle.std.specs.Prelude.{slice_range, IfSome, MatchOption, ⊤}
use Rattle.std.specs.Str.{IsCharBoundary}
use Rattle.std.proofs.lemmas.List.{drop-drop, append-nil, get_or-drop}
use Rattle.std.proofs.lemmas.Str.{IsCharBoundary-before_ascii, IsCharBoundary-end}
use Rattle.cbor_edn_parts.specs.base.Bytes.{IsLong}
use Rattle.cbor_edn_parts.specs.internal.Lex.{Automaton, push, munch}
unfoldable pub use Rattle.cbor_edn_parts.specs.internal.Lex.{front}
use Rattle.cbor_edn_parts.specs.internal.Scans.{IsAt, IsRead}
use Rattle.cbor_edn_parts.proofs.lemmas.base.ByteKinds.{ascii_or_long}

pub front_none : (o : Option (List ℕ × List ℕ)) → o ≡ front [] o
unfolding front
front_none None = refl
front_none (Some p) = refl

front_push : (xs : List ℕ) (c : ℕ) (o : Option (List ℕ × List ℕ)) → front (xs ++ (c ∷ [])) o ≡ front xs (push c o)
unfolding front push
front_push xs c None = refl
front_push xs c (Some p) = rw append_assoc

front_cond : (xs rest : List ℕ) (b : Bool) → front xs (cond b (Some ([], rest)) None) ≡ cond b (Some (xs, rest)) None
unfolding front
front_cond xs rest true = rw append-nil
front_cond xs rest false = refl

take_next : (n : ℕ) (text : List ℕ) (c : ℕ) (rest : List ℕ) → drop n text ≡ c ∷ rest → take (suc n) text ≡ take n text ++ (c ∷ [])
take_next zero [] c rest h = absurd (cc)
take_next zero (b ∷ text) c rest h = cc
take_next (suc n) [] c rest h = absurd (cc)
take_next (suc n) (b ∷ text) c rest h = ap (λ xs. b ∷ xs) (take_next n text c rest h)

-- a piece and the byte behind it
piece_next : (text : List ℕ) (from at c : ℕ) (rest : List ℕ) → from ≤ at → drop at text ≡ c ∷ rest → slice_range text from (at + 1) ≡ slice_range text from at ++ (c ∷ [])
piece_next text from at c rest le h =
    let n : (at + 1) - from ≡ suc (at - from) = omega arith in
    let whole : from + (at - from) ≡ at = omega arith in
    rw n (take_next (at - from) (drop from text) c rest (rw (drop-drop (at - from) from text, whole) h))

pub piece_none : (text : List ℕ) (at : ℕ) → slice_range text at at ≡ []
piece_none text at = let n : at - at ≡ 0 = omega arith in rw n

module _ {State : Type 0} (T : Automaton State) where
  pub munch_some : (m n : State) (c : ℕ) (xs : List ℕ) → T.step c m ≡ Some n → munch T m (c ∷ xs) ≡ push c (munch T n xs)
  unfolding munch
  munch_some m n c xs e = rw (e, munch)

  pub munch_none : (m : State) (c : ℕ) (xs : List ℕ) → T.step c m ≡ None → munch T m (c ∷ xs) ≡ cond (T.final m) (Some ([], c ∷ xs)) None
  unfolding munch
  munch_none m c xs e = rw (e, munch)

  pub munch_end : (m : State) → munch T m [] ≡ cond (T.final m) (Some ([], [])) None
  unfolding munch
  munch_end m = refl

  -- no byte is read yet
  pub begun : (m : State) (text : List ℕ) (from : ℕ) → munch T m (drop from text) ≡ front (slice_range text from from) (munch T m (drop from text))
  begun m text from = rw (piece_none text from) (front_none (munch T m (drop from text)))

  -- one byte more is read
  pub going : (total : Option (List ℕ × List ℕ)) (text : List ℕ) (from at c : ℕ) (m n : State) → from ≤ at → drop at text ≡ c ∷ drop (at + 1) text → T.step c m ≡ Some n
      → total ≡ front (slice_range text from at) (munch T m (drop at text)) → total ≡ front (slice_range text from (at + 1)) (munch T n (drop (at + 1) text))
  going total text from at c m n le here some so_far =
      so_far ∙ ap (front (slice_range text from at)) (ap (munch T m) here ∙ munch_some m n c (drop (at + 1) text) some)
      ∙ sym (front_push (slice_range text from at) c (munch T n (drop (at + 1) text)))
      ∙ ap (λ (xs : List ℕ). front xs (munch T n (drop (at + 1) text))) (sym (piece_next text from at c (drop (at + 1) text) le here))

  -- the next byte leads no further
  stopped : (total : Option (List ℕ × List ℕ)) (text : List ℕ) (from at c : ℕ) (rest : List ℕ) (m : State) → drop at text ≡ c ∷ rest → T.step c m ≡ None
      → total ≡ front (slice_range text from at) (munch T m (drop at text)) → total ≡ cond (T.final m) (Some (slice_range text from at, drop at text)) None
  stopped total text from at c rest m here none so_far =
      so_far ∙ ap (front (slice_range text from at)) (ap (munch T m) here ∙ munch_none m c rest none)
      ∙ front_cond (slice_range text from at) (c ∷ rest) (T.final m)
      ∙ ap (λ (xs : List ℕ). cond (T.final m) (Some (slice_range text from at, xs)) None) (sym here)

  -- no byte is left
  ended : (total : Option (List ℕ × List ℕ)) (text : List ℕ) (from at : ℕ) (m : State) → drop at text ≡ []
      → total ≡ front (slice_range text from at) (munch T m (drop at text)) → total ≡ cond (T.final m) (Some (slice_range text from at, drop at text)) None
  ended total text from at m here so_far =
      so_far ∙ ap (front (slice_range text from at)) (ap (munch T m) here ∙ munch_end m)
      ∙ front_cond (slice_range text from at) [] (T.final m)
      ∙ ap (λ (xs : List ℕ). cond (T.final m) (Some (slice_range text from at, xs)) None) (sym here)

-- A scan that began at `from`, whose byte was the last of `old` reads, stands at a place in the state m. The byte there is read, and each
-- byte behind the first took one read.
pub record Stands {State : Type 0} (T : Automaton State) (start : State) (text : List ℕ) (from old : ℕ) (m : State) (at : ℕ) (byte : Option ℕ) (count : ℕ) : Type 0 where
  pub order : from ≤ at
  pub within : at ≤ length text
  pub here : IsAt text at byte
  pub behind : IfSome byte (λ c. c < 128 → IsCharBoundary text (at + 1))
  pub place : (d : ℕ) → IsLong d → T.step d m ≡ None → IsCharBoundary text at
  pub reads : munch T start (drop from text) ≡ front (slice_range text from at) (munch T m (drop at text))
  pub cost : count + from ≡ old + at

-- The byte there leads to the state n, and the next one is read.
pub onward : {State : Type 0} (T : Automaton State) → ((c d : ℕ) → IsLong c → IsLong d → (m n : State) → T.step c m ≡ Some n → T.step d n ≡ Some n)
    → (start : State) (text : List ℕ) (from old : ℕ) (m n : State) (at c count more : ℕ) (byte next : Option ℕ) → Stands T start text from old m at byte count → byte ≡ Some c → c < 256 → T.step c m ≡ Some n
    → IsAt text (at + 1) next → IfSome next (λ d. d < 128 → IsCharBoundary text (at + 1 + 1)) → more ≡ count + 1 → Stands T start text from old n (at + 1) next more
onward T stays start text from old m n at c count more byte next s is small some here behind looked =
    let read : IsAt text at (Some c) = subst (IsAt text at) is s.here in
    let ascii : c < 128 → IsCharBoundary text (at + 1) = subst (λ b. IfSome b (λ d. d < 128 → IsCharBoundary text (at + 1))) is s.behind in
    record {
      order = omega (arith, s.order);
      within = omega (arith, read.1);
      here = here;
      behind = behind;
      place = λ d far none. ascii_or_long c small ascii (λ long. let kept : T.step d n ≡ Some n = stays c d long far m n some in absurd (cc));
      reads = going T (munch T start (drop from text)) text from at c m n s.order read.0 some s.reads;
      cost = omega (arith, s.cost);
    }

-- Where the byte leads no further, or none is left, the token ends, if it may.
pub over : {State : Type 0} (T : Automaton State) (start : State) (text : List ℕ) (from old : ℕ) (m : State) (at count : ℕ) (byte : Option ℕ) → Stands T start text from old m at byte count
    → MatchOption byte ⊤ (λ c. T.step c m ≡ None) → munch T start (drop from text) ≡ cond (T.final m) (Some (slice_range text from at, drop at text)) None
over T start text from old m at count None s none = ended T (munch T start (drop from text)) text from at m s.here s.reads
over T start text from old m at count (Some c) s none = stopped T (munch T start (drop from text)) text from at c (drop (at + 1) text) m s.here.0 none s.reads

-- Where the byte that is there leads no further, or none is there, a token ends in a final state.
pub halted : {State : Type 0} (T : Automaton State) (m : State) (text : List ℕ) (at : ℕ) (next : Option ℕ) → T.final m ≡ true → IsAt text at next → MatchOption next ⊤ (λ c. T.step c m ≡ None) → munch T m (drop at text) ≡ Some ([], drop at text)
halted T m text at None final here none = ap (munch T m) here ∙ (munch_end T m ∙ rw (final, here) refl)
halted T m text at (Some c) final here none = ap (munch T m) here.0 ∙ (munch_none T m c (drop (at + 1) text) none ∙ rw (final, here.0) refl)

before_ascii : (text : List ℕ) (at c : ℕ) (rest : List ℕ) → drop at text ≡ c ∷ rest → at < length text → c < 128 → IsCharBoundary text at
before_ascii text at c rest here within ascii =
    let same : get_or (drop at text) 0 0 ≡ c = rw here refl in
    let is : get_or text at 0 ≡ c = rw (get_or-drop at text 0 0, add-zero) at same in
    IsCharBoundary-before_ascii text at within (rw is ascii)

at_end : (text : List ℕ) (at : ℕ) → drop at text ≡ [] → at ≤ length text → IsCharBoundary text at
at_end text at none within =
    let e : at ≡ length text = omega (arith, simp length-drop at (ap length none)) in
    subst (IsCharBoundary text) (sym e) (IsCharBoundary-end text)

-- There a character begins, or the text ends.
pub over_read : {State : Type 0} (T : Automaton State) (start : State) (text : List ℕ) (from old : ℕ) (m : State) (at count : ℕ) (byte : Option ℕ) → Stands T start text from old m at byte count
    → MatchOption byte ⊤ (λ c. (c < 256) × (IsLong c → T.step c m ≡ None)) → IsRead text at byte
over_read T start text from old m at count None s none = record { place = at_end text at s.here s.within; here = s.here; behind = s.behind }
over_read T start text from old m at count (Some c) s none = record {
  place = ascii_or_long c none.0 (before_ascii text at c (drop (at + 1) text) s.here.0 s.here.1) (λ long. s.place c long (none.1 long));
  here = s.here;
  behind = s.behind;
}
