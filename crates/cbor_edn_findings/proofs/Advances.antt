-- What a step over a head leaves to complete.
use Rattle.std.proofs.Common.{◌≡◌, ◌≢◌, ℕ, zero, suc, ◌+◌, ◌-◌, ◌*◌, ◌≤◌, ◌<◌, Bool, true, false, cond, leb, ltb, eqb, take, drop, List, [], ◌∷◌, ◌++◌, length, Option, Some, None, Result, Ok, Err, refl, sym, ap, subst, ◌∙◌, append_assoc, arith, inl, inr, eq-eqb}
use Rattle.std.specs.Prelude.{option_map, ◌||◌, ◌&&◌, nat_lt}
use Rattle.std.specs.Option.{is_some}
use Rattle.std.proofs.lemmas.Bool.{ltb-true, leb-true, leb-false, eqb-true}
use Rattle.std.proofs.lemmas.List.{append-nil}
use Rattle.cbor_edn_parts.specs.declared.string.StringKind.{StringKind}
use Rattle.cbor_edn_parts.specs.declared.string.StringKind.TheVariants.{Bytes, Text}
use Rattle.cbor_edn_model.specs.declared.cbor.heads.Width.{Width}
use Rattle.cbor_edn_model.specs.declared.cbor.heads.Width.TheVariants.{Immediate, One, Two, Four, Eight}
use Rattle.cbor_edn_model.specs.declared.cbor.decode.CborError.{CborError}
use Rattle.cbor_edn_model.specs.declared.text.keyword.NonFinite.{NonFinite}
use Rattle.cbor_edn_model.specs.cbor.Value.{Value, Chunk, unsigned, negative, string, chunks, array, cbor_map, tag, simple, float, Values, no_values, value, values_len, Pairs, no_pairs, pair, pairs_len, head, open_head, break, simple_width, float_bits, string_major, ArgumentFits, ChunkFits, chunk_encoding, chunk_encodings, encoding, encodings, pair_encodings, Fits, ValuesFit, IsSimple, IsFloatWidth}
use Rattle.cbor_edn_model.specs.internal.CborReading.{Argument, Head, DecoderResult, head_at, simple_nesting, float_of}
use Rattle.cbor_edn_model.proofs.lemmas.cbor.Nestings.{value_nesting, values_nesting, pairs_nesting}
use Rattle.cbor_edn_model.proofs.lemmas.cbor.CborHeads.{chosen, head_again, open_again}
use Rattle.cbor_edn_model.proofs.lemmas.cbor.CborSpecials.{one_byte, two_bytes, float_found}
use Rattle.cbor_edn_findings.specs.declared.bytes.Open.{Open}
use Rattle.cbor_edn_findings.specs.declared.bytes.Open.TheVariants.{Counted, Items, Chunks}
use Rattle.cbor_edn_findings.specs.declared.bytes.Open.TheVariants as frame
use Rattle.cbor_edn_findings.specs.FaultOffsets.{IsHead, with_argument, indefinite, of_string}
use Rattle.cbor_edn_findings.specs.internal.Steps.{Opened, Content, closed, is_simple, is_special, nothing_if, content_of_chunk, entered, item_begun, gone_further, ended, broken, gone_closed, behind_content, step_behind, step_by, step}
use Rattle.cbor_edn_findings.proofs.Completions.{AreCounted, AreValues, ArePairs, IsOne, AreChunks, Completes, close_on, IsClosed, closed_is, TakesItems, begun, length-begun, one_next, paired, encodings-flat, values_len-flat, values_nesting-flat, pairs_fit, further, content_left}

abbrev given : {A : Type 0} → A → Option A
given x = Some x

pub some_is : {A : Type 0} (x y : A) → given x ≡ given y → x ≡ y
some_is x y e = cc

pub none_some : {A : Type 0} (x : A) → None ≡ given x → ⊥
none_some x e = cc

-- Behind a head this content follows, and what completes that which is open then completes with the head in front what was open.
pub record Leads (limit : ℕ) (s : Opened) (front : List ℕ) (content : Content) (p : Opened × Content) : Type 0 where
  pub content_is : p.1 ≡ content
  pub completes : (y : List ℕ) → Completes limit p.0 y → Completes limit s (front ++ y)

entered_is : (deep : Bool) (o : Open) (s : Opened) (p : Opened × Content) → entered deep o s ≡ Some p → (deep ≡ false) × ((o ∷ s, None) ≡ p)
entered_is true o s p e = absurd (none_some p e)
entered_is false o s p e = (refl, some_is (o ∷ s, None) p e)

one_of : (vs : Values) → values_len vs ≡ 1 → (v : Value) × (vs ≡ value v no_values)
one_of no_values e = absurd (omega (arith, e))
one_of (value v no_values) e = (v, refl)
one_of (value v (value w vs)) e = absurd (omega (arith, e))

named_or_room : (b : Bool) (room : ℕ) → (b || nat_lt 0 room) ≡ true → cond b 0 1 ≤ room
named_or_room true room e = omega arith
named_or_room false room e = omega (arith, ltb-true 0 room e)

both : (a b : Bool) → (a && b) ≡ true → (a ≡ true) × (b ≡ true)
both true b e = (refl, e)
both false b e = absurd cc

some_of : (o : Option NonFinite) → is_some o ≡ true → (f : NonFinite) × (o ≡ Some f)
some_of None e = absurd cc
some_of (Some f) e = (f, refl)

-- a simple value or a floating-point number with this head
abbrev Special : ℕ → Width → ℕ → Type 0
Special room w n = (v : Value) × Fits v × (value_nesting v ≤ room) × (head 7 w n ≡ encoding v)

simple_special : (room : ℕ) (w : Width) (n : ℕ) → IsSimple n → simple_width n ≡ w → is_simple room n ≡ true → Special room w n
simple_special room w n fits width e = (simple n, fits, named_or_room (leb 20 n && ltb n 24) room e, ap (λ u. head 7 u n) (sym width))

float_special : (room : ℕ) (w : Width) (n : ℕ) → IsFloatWidth w → is_some (float_of w n) ≡ true → Special room w n
float_special room w n fits e =
    let f = some_of (float_of w n) e in
    (float w f.0, fits, omega arith, ap (λ k. head 7 w k) (float_found w n f.0 f.1))

special_of : (room : ℕ) (w : Width) (n : ℕ) → ArgumentFits w n → is_special room w n ≡ true → Special room w n
special_of room Immediate n fits e = simple_special room Immediate n (inl fits) (one_byte n fits) e
special_of room One n fits e =
    let b = both (leb 32 n) (is_simple room n) e in
    let wide : 32 ≤ n = leb-true 32 n b.0 in
    simple_special room One n (inr (wide, fits)) (two_bytes n (omega arith)) b.1
special_of room Two n fits e = float_special room Two n tt e
special_of room Four n fits e = float_special room Four n tt e
special_of room Eight n fits e = float_special room Eight n tt e

module _ (limit : ℕ) (s : Opened) (t : TakesItems s) where
  -- one value more
  leaf : (v : Value) (content : Content) → Fits v → value_nesting v ≤ limit - length s → Leads limit s (encoding v) content (begun s, content)
  leaf v content fits within = record {
    content_is = refl;
    completes = λ y c. one_next limit s (encoding v ++ y) t (record { one = v; behind = y; fits = fits; within = within; parts = refl; on = c });
  }

  array_leads : (w : Width) (n : ℕ) → ArgumentFits w n → length (begun s) < limit → Leads limit s (head 4 w n) None (Counted n ∷ begun s, None)
  array_leads w n fits room = record {
    content_is = refl;
    completes = λ y (c : AreCounted (limit - suc (length (begun s))) n (Completes limit (begun s)) y). one_next limit s (head 4 w n ++ y) t (record {
      one = array (Some w) c.values;
      behind = c.behind;
      fits = (subst (ArgumentFits w) (sym c.count) fits, c.fits);
      within = omega (arith, c.within, length-begun s);
      parts = ap (λ (l : List ℕ). head 4 w n ++ l) c.parts ∙ (sym (append_assoc (head 4 w n) (encodings c.values) c.behind) ∙ ap (λ k. (head 4 w k ++ encodings c.values) ++ c.behind) (sym c.count));
      on = c.on;
    });
  }

  map_leads : (w : Width) (n : ℕ) → ArgumentFits w n → length (begun s) < limit → Leads limit s (head 5 w n) None (Counted (2 * n) ∷ begun s, None)
  map_leads w n fits room = record {
    content_is = refl;
    completes = λ y (c : AreCounted (limit - suc (length (begun s))) (2 * n) (Completes limit (begun s)) y).
        let h = paired n c.values c.count in
        let all : encodings c.values ≡ pair_encodings h.0 = ap encodings (sym h.1) ∙ encodings-flat h.0 in
        let twice : 2 * pairs_len h.0 ≡ 2 * n = sym (values_len-flat h.0) ∙ (ap values_len h.1 ∙ c.count) in
        let count : pairs_len h.0 ≡ n = omega (arith, twice) in
        let deep : pairs_nesting h.0 ≡ values_nesting c.values = sym (values_nesting-flat h.0) ∙ ap values_nesting h.1 in
        one_next limit s (head 5 w n ++ y) t (record {
          one = cbor_map (Some w) h.0;
          behind = c.behind;
          fits = (subst (ArgumentFits w) (sym count) fits, pairs_fit h.0 (subst ValuesFit (sym h.1) c.fits));
          within = omega (arith, c.within, length-begun s, deep);
          parts = ap (λ (l : List ℕ). head 5 w n ++ l) (c.parts ∙ ap (λ (l : List ℕ). l ++ c.behind) all) ∙ (sym (append_assoc (head 5 w n) (pair_encodings h.0) c.behind) ∙ ap (λ k. (head 5 w k ++ pair_encodings h.0) ++ c.behind) (sym count));
          on = c.on;
        });
  }

  tag_leads : (w : Width) (n : ℕ) → ArgumentFits w n → length (begun s) < limit → Leads limit s (head 6 w n) None (Counted 1 ∷ begun s, None)
  tag_leads w n fits room = record {
    content_is = refl;
    completes = λ y (c : AreCounted (limit - suc (length (begun s))) 1 (Completes limit (begun s)) y).
        let h = one_of c.values c.count in
        let all : encodings c.values ≡ encoding h.0 = ap encodings h.1 ∙ append-nil (encoding h.0) in
        let fit : ValuesFit (value h.0 no_values) = subst ValuesFit h.1 c.fits in
        let deep : values_nesting c.values ≡ values_nesting (value h.0 no_values) = ap values_nesting h.1 in
        one_next limit s (head 6 w n ++ y) t (record {
          one = tag w n h.0;
          behind = c.behind;
          fits = (fits, fit.0);
          within = omega (arith, c.within, length-begun s, deep);
          parts = ap (λ (l : List ℕ). head 6 w n ++ l) (c.parts ∙ ap (λ (l : List ℕ). l ++ c.behind) all) ∙ sym (append_assoc (head 6 w n) (encoding h.0) c.behind);
          on = c.on;
        });
  }

  values_lead : length (begun s) < limit → Leads limit s (open_head 4 ∷ []) None (Items ∷ begun s, None)
  values_lead room = record {
    content_is = refl;
    completes = λ y (c : AreValues (limit - suc (length (begun s))) (Completes limit (begun s)) y). one_next limit s (open_head 4 ∷ y) t (record {
      one = array None c.values;
      behind = c.behind;
      fits = (tt, c.fits);
      within = omega (arith, c.within, length-begun s);
      parts = ap (λ (l : List ℕ). open_head 4 ∷ l) (c.parts ∙ sym (append_assoc (encodings c.values) (break ∷ []) c.behind));
      on = c.on;
    });
  }

  pairs_lead : length (begun s) < limit → Leads limit s (open_head 5 ∷ []) None (frame.Pairs false ∷ begun s, None)
  pairs_lead room = record {
    content_is = refl;
    completes = λ y (c : ArePairs (limit - suc (length (begun s))) (Completes limit (begun s)) y). one_next limit s (open_head 5 ∷ y) t (record {
      one = cbor_map None c.pairs;
      behind = c.behind;
      fits = (tt, c.fits);
      within = omega (arith, c.within, length-begun s);
      parts = ap (λ (l : List ℕ). open_head 5 ∷ l) (c.parts ∙ sym (append_assoc (pair_encodings c.pairs) (break ∷ []) c.behind));
      on = c.on;
    });
  }

  chunks_lead : (k : StringKind) → Leads limit s (open_head (string_major k) ∷ []) None (Chunks k ∷ begun s, None)
  chunks_lead k = record {
    content_is = refl;
    completes = λ y (c : AreChunks k (Completes limit (begun s)) y). one_next limit s (open_head (string_major k) ∷ y) t (record {
      one = chunks k c.strings;
      behind = c.behind;
      fits = c.fits;
      within = omega arith;
      parts = ap (λ (l : List ℕ). open_head (string_major k) ∷ l) (c.parts ∙ sym (append_assoc (chunk_encodings k c.strings) (break ∷ []) c.behind));
      on = c.on;
    });
  }

  abbrev begins : Content → Opened × Content
  begins c = (begun s, c)

  special_leads : (w : Width) (n : ℕ) → ArgumentFits w n → (b : Bool) → is_special (limit - length (begun s)) w n ≡ b → (p : Opened × Content) → option_map begins (nothing_if b) ≡ Some p → Leads limit s (head 7 w n) None p
  special_leads w n fits true is p e =
      let v = special_of (limit - length (begun s)) w n fits is in
      subst (Leads limit s (head 7 w n) None) (some_is (begun s, None) p e) (subst (λ (l : List ℕ). Leads limit s l None (begun s, None)) (sym v.3) (leaf v.0 None v.1 (omega (arith, v.2, length-begun s))))
  special_leads w n fits false is p e = absurd (none_some p e)

  item_leads : (major : ℕ) (w : Width) (n : ℕ) → major < 8 → major ≢ 2 → major ≢ 3 → ArgumentFits w n → (p : Opened × Content) → item_begun limit (begun s) major (Some (w, n)) ≡ Some p → Leads limit s (head major w n) None p
  item_leads zero w n lt not_bytes not_text fits p e = subst (Leads limit s (head 0 w n) None) (some_is (begun s, None) p e) (leaf (unsigned w n) None fits (omega arith))
  item_leads (suc zero) w n lt not_bytes not_text fits p e = subst (Leads limit s (head 1 w n) None) (some_is (begun s, None) p e) (leaf (negative w n) None fits (omega arith))
  item_leads (suc (suc zero)) w n lt not_bytes not_text fits p e = absurd (not_bytes refl)
  item_leads (suc (suc (suc zero))) w n lt not_bytes not_text fits p e = absurd (not_text refl)
  item_leads (suc (suc (suc (suc zero)))) w n lt not_bytes not_text fits p e =
      let h = entered_is (leb limit (length (begun s))) (Counted n) (begun s) p e in
      subst (Leads limit s (head 4 w n) None) h.1 (array_leads w n fits (leb-false limit (length (begun s)) h.0))
  item_leads (suc (suc (suc (suc (suc zero))))) w n lt not_bytes not_text fits p e =
      let h = entered_is (leb limit (length (begun s))) (Counted (2 * n)) (begun s) p e in
      subst (Leads limit s (head 5 w n) None) h.1 (map_leads w n fits (leb-false limit (length (begun s)) h.0))
  item_leads (suc (suc (suc (suc (suc (suc zero)))))) w n lt not_bytes not_text fits p e =
      let h = entered_is (leb limit (length (begun s))) (Counted 1) (begun s) p e in
      subst (Leads limit s (head 6 w n) None) h.1 (tag_leads w n fits (leb-false limit (length (begun s)) h.0))
  item_leads (suc (suc (suc (suc (suc (suc (suc zero))))))) w n lt not_bytes not_text fits p e = special_leads w n fits (is_special (limit - length (begun s)) w n) refl p e
  item_leads (suc (suc (suc (suc (suc (suc (suc (suc m)))))))) w n lt not_bytes not_text fits p e = absurd (omega (arith, lt))

  open_leads : (major : ℕ) → major < 8 → (p : Opened × Content) → item_begun limit (begun s) major None ≡ Some p → Leads limit s (open_head major ∷ []) None p
  open_leads zero lt p e = absurd (none_some p e)
  open_leads (suc zero) lt p e = absurd (none_some p e)
  open_leads (suc (suc zero)) lt p e = subst (Leads limit s (open_head 2 ∷ []) None) (some_is (Chunks Bytes ∷ begun s, None) p e) (chunks_lead Bytes)
  open_leads (suc (suc (suc zero))) lt p e = subst (Leads limit s (open_head 3 ∷ []) None) (some_is (Chunks Text ∷ begun s, None) p e) (chunks_lead Text)
  open_leads (suc (suc (suc (suc zero)))) lt p e =
      let h = entered_is (leb limit (length (begun s))) Items (begun s) p e in
      subst (Leads limit s (open_head 4 ∷ []) None) h.1 (values_lead (leb-false limit (length (begun s)) h.0))
  open_leads (suc (suc (suc (suc (suc zero))))) lt p e =
      let h = entered_is (leb limit (length (begun s))) (frame.Pairs false) (begun s) p e in
      subst (Leads limit s (open_head 5 ∷ []) None) h.1 (pairs_lead (leb-false limit (length (begun s)) h.0))
  open_leads (suc (suc (suc (suc (suc (suc zero)))))) lt p e = absurd (none_some p e)
  open_leads (suc (suc (suc (suc (suc (suc (suc zero))))))) lt p e = absurd (none_some p e)
  open_leads (suc (suc (suc (suc (suc (suc (suc (suc m)))))))) lt p e = absurd (omega (arith, lt))

  string_leads : (k : StringKind) (c : Chunk) → ChunkFits k c → (p : Opened × Content) → item_begun limit (begun s) (string_major k) (Some (c.0, length c.1)) ≡ Some p → Leads limit s (chunk_encoding k c) (Some (k, length c.1)) p
  string_leads Bytes c fits p e = subst (Leads limit s (chunk_encoding Bytes c) (Some (Bytes, length c.1))) (some_is (begun s, Some (Bytes, length c.1)) p e) (leaf (string Bytes c.0 c.1) (Some (Bytes, length c.1)) fits (omega arith))
  string_leads Text c fits p e = subst (Leads limit s (chunk_encoding Text c) (Some (Text, length c.1))) (some_is (begun s, Some (Text, length c.1)) p e) (leaf (string Text c.0 c.1) (Some (Text, length c.1)) fits (omega arith))

-- ---- in a string of indefinite length

other_major : (k : StringKind) (major : ℕ) → major ≢ 2 → major ≢ 3 → major ≢ string_major k
other_major Bytes major not_bytes not_text = not_bytes
other_major Text major not_bytes not_text = not_text

abbrev chunked : StringKind → Opened → Content → Opened × Content
chunked k s c = (Chunks k ∷ s, c)

no_chunk : (limit : ℕ) (k : StringKind) (s : Opened) (major : ℕ) (w : Width) (n : ℕ) → major ≢ 2 → major ≢ 3 → (p : Opened × Content) → option_map (chunked k s) (content_of_chunk k major (Some (w, n))) ≡ Some p → ⊥
no_chunk limit k s major w n not_bytes not_text p e = by (eqb major (string_major k)) refl e where
  by : (b : Bool) → eqb major (string_major k) ≡ b → option_map (chunked k s) (cond b (Some (Some (k, n))) None) ≡ Some p → ⊥
  by true is e = other_major k major not_bytes not_text (eqb-true major (string_major k) is)
  by false is e = none_some p e

chunk_leads : (limit : ℕ) (k : StringKind) (s : Opened) (c : Chunk) → ChunkFits k c → Leads limit (Chunks k ∷ s) (chunk_encoding k c) (Some (k, length c.1)) (Chunks k ∷ s, Some (k, length c.1))
chunk_leads limit k s c fits = record {
  content_is = refl;
  completes = λ y (h : AreChunks k (Completes limit s) y). record {
    strings = c ∷ h.strings;
    behind = h.behind;
    fits = (fits, h.fits);
    parts = ap (λ (l : List ℕ). chunk_encoding k c ++ l) h.parts ∙ sym (append_assoc (chunk_encoding k c) (chunk_encodings k h.strings) (break ∷ h.behind));
    on = h.on;
  };
}

chunk_in : (limit : ℕ) (k j : StringKind) (s : Opened) (c : Chunk) → ChunkFits j c → (p : Opened × Content) → option_map (chunked k s) (content_of_chunk k (string_major j) (Some (c.0, length c.1))) ≡ Some p
    → Leads limit (Chunks k ∷ s) (chunk_encoding j c) (Some (j, length c.1)) p
chunk_in limit Bytes Bytes s c fits p e = subst (Leads limit (Chunks Bytes ∷ s) (chunk_encoding Bytes c) (Some (Bytes, length c.1))) (some_is (Chunks Bytes ∷ s, Some (Bytes, length c.1)) p e) (chunk_leads limit Bytes s c fits)
chunk_in limit Bytes Text s c fits p e = absurd (none_some p e)
chunk_in limit Text Bytes s c fits p e = absurd (none_some p e)
chunk_in limit Text Text s c fits p e = subst (Leads limit (Chunks Text ∷ s) (chunk_encoding Text c) (Some (Text, length c.1))) (some_is (Chunks Text ∷ s, Some (Text, length c.1)) p e) (chunk_leads limit Text s c fits)

-- ---- a break

broken_leads : (limit : ℕ) (s : Opened) (p : Opened × Content) → broken s ≡ Some p → Leads limit s (break ∷ []) None p
broken_leads limit [] p e = absurd (none_some p e)
broken_leads limit (Counted n ∷ s) p e = absurd (none_some p e)
broken_leads limit (Items ∷ s) p e = subst (Leads limit (Items ∷ s) (break ∷ []) None) (some_is (s, None) p e) (record {
  content_is = refl;
  completes = λ y c. record { values = no_values; behind = y; fits = tt; within = omega arith; parts = refl; on = c };
})
broken_leads limit (frame.Pairs true ∷ s) p e = absurd (none_some p e)
broken_leads limit (frame.Pairs false ∷ s) p e = subst (Leads limit (frame.Pairs false ∷ s) (break ∷ []) None) (some_is (s, None) p e) (record {
  content_is = refl;
  completes = λ y c. record { pairs = no_pairs; behind = y; fits = tt; within = omega arith; parts = refl; on = c };
})
broken_leads limit (Chunks k ∷ s) p e = subst (Leads limit (Chunks k ∷ s) (break ∷ []) None) (some_is (s, None) p e) (record {
  content_is = refl;
  completes = λ y c. record { strings = []; behind = y; fits = tt; parts = refl; on = c };
})

-- ---- any head

pub gone_with : (limit : ℕ) (s : Opened) → IsClosed s → (major : ℕ) (w : Width) (n : ℕ) → major < 8 → major ≢ 2 → major ≢ 3 → ArgumentFits w n → (p : Opened × Content) → gone_closed limit s major (Some (w, n)) ≡ Some p → Leads limit s (head major w n) None p
gone_with limit [] c major w n lt a b fits p e = item_leads limit [] tt major w n lt a b fits p e
gone_with limit (Counted zero ∷ s) c major w n lt a b fits p e = absurd c
gone_with limit (Counted (suc m) ∷ s) c major w n lt a b fits p e = item_leads limit (Counted (suc m) ∷ s) tt major w n lt a b fits p e
gone_with limit (Items ∷ s) c major w n lt a b fits p e = item_leads limit (Items ∷ s) tt major w n lt a b fits p e
gone_with limit (frame.Pairs v ∷ s) c major w n lt a b fits p e = item_leads limit (frame.Pairs v ∷ s) tt major w n lt a b fits p e
gone_with limit (Chunks k ∷ s) c major w n lt a b fits p e = absurd (no_chunk limit k s major w n a b p e)

further_open : (limit : ℕ) (s : Opened) → IsClosed s → (major : ℕ) → major < 8 → (p : Opened × Content) → gone_further limit s major None ≡ Some p → Leads limit s (open_head major ∷ []) None p
further_open limit [] c major lt p e = open_leads limit [] tt major lt p e
further_open limit (Counted zero ∷ s) c major lt p e = absurd c
further_open limit (Counted (suc m) ∷ s) c major lt p e = open_leads limit (Counted (suc m) ∷ s) tt major lt p e
further_open limit (Items ∷ s) c major lt p e = open_leads limit (Items ∷ s) tt major lt p e
further_open limit (frame.Pairs v ∷ s) c major lt p e = open_leads limit (frame.Pairs v ∷ s) tt major lt p e
further_open limit (Chunks k ∷ s) c major lt p e = absurd (none_some p e)

pub gone_open : (limit : ℕ) (s : Opened) → IsClosed s → (major : ℕ) → major < 8 → (p : Opened × Content) → gone_closed limit s major None ≡ Some p → Leads limit s (open_head major ∷ []) None p
gone_open limit s c major lt p e =
    elim (chosen (eqb major 7) (broken s) (gone_further limit s major None) (Some p) e) [
      | inl h ↦ subst (λ m. Leads limit s (open_head m ∷ []) None p) (sym (eqb-true major 7 h.0)) (broken_leads limit s p h.1)
      | inr h ↦ further_open limit s c major lt p h.1
    ]

gone_string : (limit : ℕ) (s : Opened) → IsClosed s → (k : StringKind) (c : Chunk) → ChunkFits k c → (p : Opened × Content) → gone_closed limit s (string_major k) (Some (c.0, length c.1)) ≡ Some p → Leads limit s (chunk_encoding k c) (Some (k, length c.1)) p
gone_string limit [] closed_is k c fits p e = string_leads limit [] tt k c fits p e
gone_string limit (Counted zero ∷ s) closed_is k c fits p e = absurd closed_is
gone_string limit (Counted (suc m) ∷ s) closed_is k c fits p e = string_leads limit (Counted (suc m) ∷ s) tt k c fits p e
gone_string limit (Items ∷ s) closed_is k c fits p e = string_leads limit (Items ∷ s) tt k c fits p e
gone_string limit (frame.Pairs v ∷ s) closed_is k c fits p e = string_leads limit (frame.Pairs v ∷ s) tt k c fits p e
gone_string limit (Chunks j ∷ s) closed_is k c fits p e = chunk_in limit j k s c fits p e

-- what follows the head of a string, whatever it is
item_content : (limit : ℕ) (s : Opened) (k : StringKind) (w : Width) (n : ℕ) (p : Opened × Content) → item_begun limit s (string_major k) (Some (w, n)) ≡ Some p → p.1 ≡ Some (k, n)
item_content limit s Bytes w n p e = ap (λ (q : Opened × Content). q.1) (sym (some_is (s, Some (Bytes, n)) p e))
item_content limit s Text w n p e = ap (λ (q : Opened × Content). q.1) (sym (some_is (s, Some (Text, n)) p e))

chunk_content : (j k : StringKind) (s : Opened) (w : Width) (n : ℕ) (p : Opened × Content) → option_map (chunked j s) (content_of_chunk j (string_major k) (Some (w, n))) ≡ Some p → p.1 ≡ Some (k, n)
chunk_content Bytes Bytes s w n p e = ap (λ (q : Opened × Content). q.1) (sym (some_is (Chunks Bytes ∷ s, Some (Bytes, n)) p e))
chunk_content Bytes Text s w n p e = absurd (none_some p e)
chunk_content Text Bytes s w n p e = absurd (none_some p e)
chunk_content Text Text s w n p e = ap (λ (q : Opened × Content). q.1) (sym (some_is (Chunks Text ∷ s, Some (Text, n)) p e))

pub string_content : (limit : ℕ) (s : Opened) (k : StringKind) (w : Width) (n : ℕ) (p : Opened × Content) → gone_closed limit s (string_major k) (Some (w, n)) ≡ Some p → p.1 ≡ Some (k, n)
string_content limit [] k w n p e = item_content limit [] k w n p e
string_content limit (Counted m ∷ s) k w n p e = item_content limit (begun (Counted m ∷ s)) k w n p e
string_content limit (Items ∷ s) k w n p e = item_content limit (Items ∷ s) k w n p e
string_content limit (frame.Pairs v ∷ s) k w n p e = item_content limit (begun (frame.Pairs v ∷ s)) k w n p e
string_content limit (Chunks j ∷ s) k w n p e = chunk_content j k s w n p e

-- ---- a step

-- with any bytes behind these, a step over them leaves this open, and what completes it completes with them in front what was open
pub record Advances (limit : ℕ) (s t : Opened) (front : List ℕ) : Type 0 where
  pub again : (y : List ℕ) → step limit s (front ++ y) ≡ Some (t, y)
  pub completes : (y : List ℕ) → Completes limit t y → Completes limit s (front ++ y)

-- a head, and what follows it
pub record Reads (front : List ℕ) (major : ℕ) (argument : Argument) (content : Content) (rest : List ℕ → List ℕ) : Type 0 where
  pub read : (y : List ℕ) → head_at (front ++ y) ≡ Ok ((major, argument), rest y)
  pub left : (y : List ℕ) → behind_content content (rest y) ≡ Some y

module _ (limit : ℕ) (s : Opened) (front : List ℕ) (major : ℕ) (argument : Argument) (content : Content) (rest : List ℕ → List ℕ) (r : Reads front major argument content rest) where
  again_by : (p : Opened × Content) → gone_closed limit (closed s) major argument ≡ Some p → p.1 ≡ content → (y : List ℕ) → step limit s (front ++ y) ≡ Some (p.0, y)
  again_by p is same y =
      ap (step_by limit s) (r.read y) ∙ (ap (step_behind (rest y)) is ∙ (ap (λ (c : Content). option_map (λ (l : List ℕ). (p.0, l)) (behind_content c (rest y))) same ∙ ap (λ (o : Option (List ℕ)). option_map (λ (l : List ℕ). (p.0, l)) o) (r.left y)))

  advance_by : ((p : Opened × Content) → gone_closed limit (closed s) major argument ≡ Some p → Leads limit (closed s) front content p) → (x b : List ℕ) (t : Opened)
      → (o : Option (Opened × Content)) → gone_closed limit (closed s) major argument ≡ o → step_behind (rest x) o ≡ Some (t, b) → step limit s (front ++ x) ≡ Some (t, b) → Advances limit s t front
  advance_by leads x b t None is e whole = absurd (none_some (t, b) e)
  advance_by leads x b t (Some p) is e whole =
      let l = leads p is in
      let same : p.0 ≡ t = ap (λ (q : Opened × List ℕ). q.0) (some_is (p.0, x) (t, b) (sym (again_by p is l.content_is x) ∙ whole)) in
      subst (λ u. Advances limit s u front) same (record {
        again = again_by p is l.content_is;
        completes = λ y c. close_on limit s (front ++ y) (l.completes y c);
      })

  pub advances_by : ((p : Opened × Content) → gone_closed limit (closed s) major argument ≡ Some p → Leads limit (closed s) front content p) → (x b : List ℕ) (t : Opened) → step limit s (front ++ x) ≡ Some (t, b) → Advances limit s t front
  advances_by leads x b t e = advance_by leads x b t (gone_closed limit (closed s) major argument) refl (sym (ap (step_by limit s) (r.read x)) ∙ e) e

pub advances : (limit : ℕ) (s : Opened) (front : List ℕ) → IsHead front → (x b : List ℕ) (t : Opened) → step limit s (front ++ x) ≡ Some (t, b) → Advances limit s t front
advances limit s front (with_argument major w n lt not_bytes not_text fits is) x b t e =
    subst (Advances limit s t) (sym is)
    (advances_by limit s (head major w n) major (Some (w, n)) None (λ y. y) (record { read = λ y. head_again major w n y fits; left = λ y. refl })
    (λ p h. gone_with limit (closed s) (closed_is s) major w n lt not_bytes not_text fits p h) x b t (ap (λ (l : List ℕ). step limit s (l ++ x)) (sym is) ∙ e))
advances limit s front (indefinite major lt is) x b t e =
    subst (Advances limit s t) (sym is)
    (advances_by limit s (open_head major ∷ []) major None None (λ y. y) (record { read = λ y. open_again major y; left = λ y. refl })
    (λ p h. gone_open limit (closed s) (closed_is s) major lt p h) x b t (ap (λ (l : List ℕ). step limit s (l ++ x)) (sym is) ∙ e))
advances limit s front (of_string k c fits is) x b t e =
    subst (Advances limit s t) (sym is)
    (advances_by limit s (chunk_encoding k c) (string_major k) (Some (c.0, length c.1)) (Some (k, length c.1)) (λ y. c.1 ++ y) (record {
      read = λ y. ap head_at (append_assoc (head (string_major k) c.0 (length c.1)) c.1 y) ∙ head_again (string_major k) c.0 (length c.1) (c.1 ++ y) fits.0;
      left = λ y. content_left k c.1 y fits.2;
    })
    (λ p h. gone_string limit (closed s) (closed_is s) k c fits p h) x b t (ap (λ (l : List ℕ). step limit s (l ++ x)) (sym is) ∙ e))
