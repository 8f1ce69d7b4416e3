-- Lists of fewer than 2^64 entries: those of values that are encoded in fewer than 2^64 bytes.
use Rattle.std.proofs.Common.{length-append, ◌≡◌, ℕ, ◌+◌, ◌^◌, ◌<◌, ◌≤◌, List, ◌++◌, length, Option, Some, None, sym, subst, arith}
use Rattle.cbor_edn_parts.specs.declared.base.indicator.Indicator.{Indicator}
use Rattle.cbor_edn_model.specs.declared.cbor.heads.Width.{Width}
use Rattle.cbor_edn_model.specs.declared.cbor.heads.Width.TheVariants.{Immediate, One, Two, Four, Eight}
use Rattle.cbor_edn_model.specs.tree.Items.{Row, Elements, Pairs, Strings, Bracketed, Array, Map, entries_of, Sort, Item, Piece, Pieces, Entry, Entries}
use Rattle.cbor_edn_model.specs.cbor.Value as values
use Rattle.cbor_edn_model.specs.cbor.Value.{Value, Values, unsigned, negative, string, chunks, array, cbor_map, tag, simple, float, values_len, pairs_len, head, encoding, encodings, pair_encodings, list_encoding}
use Rattle.cbor_edn_model.specs.cbor.Meaning.{length_of, MeaningOf, EntryOf, RowOf, row_len, listed, one_more}
use Rattle.cbor_edn_model.proofs.lemmas.cbor.MeaningSteps.{both_steps, some_is}

-- ---- lists of fewer than 2^64 entries

abbrev mutual
  pub Counted : Value → Type 0
  Counted (array w vs) = (values_len vs < 2 ^ 64) × AllCounted vs
  Counted (cbor_map w ps) = (pairs_len ps < 2 ^ 64) × PairsCounted ps
  Counted (tag w n v) = Counted v
  Counted _ = Unit {0}

  pub AllCounted : Values → Type 0
  AllCounted values.no_values = Unit {0}
  AllCounted (values.value v vs) = Counted v × AllCounted vs

  pub PairsCounted : values.Pairs → Type 0
  PairsCounted values.no_pairs = Unit {0}
  PairsCounted (values.pair k v ps) = Counted k × Counted v × PairsCounted ps

abbrev pub EntryCounted : (k : Row) → EntryOf k → Type 0
EntryCounted Elements v = Counted v
EntryCounted Pairs p = Counted p.0 × Counted p.1
EntryCounted Strings p = Unit {0}

abbrev pub RowCounted : (k : Row) → RowOf k → Type 0
RowCounted Elements vs = AllCounted vs
RowCounted Pairs ps = PairsCounted ps
RowCounted Strings ps = Unit {0}

abbrev pub MeaningCounted : (s : Sort) → MeaningOf s → Type 0
MeaningCounted Item v = Counted v
MeaningCounted Piece c = Unit {0}
MeaningCounted Pieces c = Unit {0}
MeaningCounted (Entry k) x = EntryCounted k x
MeaningCounted (Entries k) r = RowCounted k r

pub listed_counted : (k : Bracketed) (i : Option Indicator) (r : RowOf (entries_of k)) (v : Value) → listed k i r ≡ Some v → Counted v → (row_len (entries_of k) r < 2 ^ 64) × RowCounted (entries_of k) r
listed_counted Array i vs v e c = let b = both_steps (length_of i (values_len vs)) (λ w. Some (array w vs)) v e in subst Counted (sym (some_is (array b.0 vs) v b.2)) c
listed_counted Map i ps v e c = let b = both_steps (length_of i (pairs_len ps)) (λ w. Some (cbor_map w ps)) v e in subst Counted (sym (some_is (cbor_map b.0 ps) v b.2)) c

pub more_counted : (k : Row) (x : EntryOf k) (r : RowOf k) → RowCounted k (one_more k x r) → EntryCounted k x × RowCounted k r
more_counted Elements v vs c = c
more_counted Pairs p ps c = ((c.0, c.1), c.2)
more_counted Strings p ps c = (tt, tt)

-- ---- what is encoded in fewer than 2^64 bytes

head_some : (major : ℕ) (w : Width) (n : ℕ) → 1 ≤ length (head major w n)
unfolding head
head_some major Immediate n = omega arith
head_some major One n = omega arith
head_some major Two n = omega arith
head_some major Four n = omega arith
head_some major Eight n = omega arith

list_some : (major : ℕ) (w : Option Width) (n : ℕ) (parts : List ℕ) → length parts < length (list_encoding major w n parts)
list_some major (Some w) n parts = let h = head_some major w n in simp length-append (omega (arith, h))
list_some major None n parts = simp length-append (omega arith)

front_some : (x y : List ℕ) → 1 ≤ length x → 1 ≤ length (x ++ y)
front_some x y h = simp length-append (omega (arith, h))

some_byte : (v : Value) → 1 ≤ length (encoding v)
some_byte (unsigned w n) = head_some 0 w n
some_byte (negative w n) = head_some 1 w n
some_byte (string k w bs) = front_some (head (values.string_major k) w (length bs)) bs (head_some (values.string_major k) w (length bs))
some_byte (chunks k cs) = omega arith
some_byte (array w vs) = let h = list_some 4 w (values_len vs) (encodings vs) in omega (arith, h)
some_byte (cbor_map w ps) = let h = list_some 5 w (pairs_len ps) (pair_encodings ps) in omega (arith, h)
some_byte (tag w n v) = front_some (head 6 w n) (encoding v) (head_some 6 w n)
some_byte (simple n) = head_some 7 (values.simple_width n) n
some_byte (float w f) = head_some 7 w (values.float_bits w f)

as_many : (vs : Values) → values_len vs ≤ length (encodings vs)
as_many values.no_values = omega arith
as_many (values.value v vs) = let h = some_byte v in let ih = as_many vs in simp length-append (omega (arith, h, ih))

as_many_pairs : (ps : values.Pairs) → pairs_len ps ≤ length (pair_encodings ps)
as_many_pairs values.no_pairs = omega arith
as_many_pairs (values.pair k v ps) = let h = some_byte k in let ih = as_many_pairs ps in simp length-append (omega (arith, h, ih))

behind_below : (x y : List ℕ) → length (x ++ y) < 2 ^ 64 → (length x < 2 ^ 64) × (length y < 2 ^ 64)
behind_below x y lt = let h : length x + length y < 2 ^ 64 = simp length-append at lt in (omega (arith, h), omega (arith, h))

mutual
  pub counted : (v : Value) → length (encoding v) < 2 ^ 64 → Counted v
  counted (unsigned w n) lt = tt
  counted (negative w n) lt = tt
  counted (string k w bs) lt = tt
  counted (chunks k cs) lt = tt
  counted (array w vs) lt =
      let h = list_some 4 w (values_len vs) (encodings vs) in
      let m = as_many vs in
      (omega (arith, h, m, lt), all_counted vs (omega (arith, h, lt)))
  counted (cbor_map w ps) lt =
      let h = list_some 5 w (pairs_len ps) (pair_encodings ps) in
      let m = as_many_pairs ps in
      (omega (arith, h, m, lt), pairs_counted ps (omega (arith, h, lt)))
  counted (tag w n v) lt = counted v (behind_below (head 6 w n) (encoding v) lt).1
  counted (simple n) lt = tt
  counted (float w f) lt = tt

  pub all_counted : (vs : Values) → length (encodings vs) < 2 ^ 64 → AllCounted vs
  all_counted values.no_values lt = tt
  all_counted (values.value v vs) lt = let b = behind_below (encoding v) (encodings vs) lt in (counted v b.0, all_counted vs b.1)

  pairs_counted : (ps : values.Pairs) → length (pair_encodings ps) < 2 ^ 64 → PairsCounted ps
  pairs_counted values.no_pairs lt = tt
  pairs_counted (values.pair k v ps) lt =
      let b = behind_below (encoding k ++ encoding v) (pair_encodings ps) lt in
      let c = behind_below (encoding k) (encoding v) b.0 in
      (counted k c.0, counted v c.1, pairs_counted ps b.1)
