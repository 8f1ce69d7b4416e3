-- A part of a Rust tree with one item in it as a loan left it.
use Rattle.std.proofs.Common.{◌≡◌, ℕ, ◌+◌, ◌*◌, ◌/◌, ◌%◌, ◌<◌, ◌≤◌, length, map, Option, Some, None, refl, sym, ap, ◌∙◌, arith}
use mathlib.Core.Option as maybe
use Rattle.std.proofs.Math.Seq.{map-set_same}
use Rattle.std.specs.Option.{OnSome}
use Rattle.std.specs.Prelude.{get_or}
use Rattle.std.specs.Vec.{with_item as with_entry}
use Rattle.cbor_edn_model.specs.tree.TreeLeaves.{Ghosts}
use Rattle.cbor_edn_model.specs.access.Paths.{items_in, with_item}
use Rattle.cbor_edn_model.specs.tree.Rows.{entries_onto, pieces_onto}
use Rattle.cbor_edn_model.specs.tree.Trees.{Tree, OneItem, LastTree, LastPieceTree, ElementTree, ChunkTree, StreamTree, SequenceTree}
use Rattle.cbor_edn_model.specs.internal.Counted.{IsCounted}
use Rattle.cbor_edn_model.proofs.lemmas.access.CountedItems.{alike, with_in_part, with_in_rest, with_in_piece, with_in_last}
use Rattle.cbor_edn_core.specs.tree.View.{seen, seen_pair, seen_piece, seen_string, view_item, view_items, view_pair, view_pairs, view_piece, view_string, view_strings, view_stream, view_sequence, view_some}
use Rattle.cbor_edn_core.specs.declared.tree.ItemOf.{ItemOf}
use Rattle.cbor_edn_core.specs.declared.tree.ItemsOf.{ItemsOf, out-ItemsOf, roll-ItemsOf}
use Rattle.cbor_edn_core.specs.declared.tree.PairOf.{PairOf}
use Rattle.cbor_edn_core.specs.declared.tree.PairsOf.{PairsOf, out-PairsOf, roll-PairsOf}
use Rattle.cbor_edn_core.specs.declared.tree.PieceOf.{PieceOf}
use Rattle.cbor_edn_core.specs.declared.tree.CborStringOf.{CborStringOf}
use Rattle.cbor_edn_core.specs.declared.tree.StringsOf.{StringsOf, out-StringsOf, roll-StringsOf}
use Rattle.cbor_edn_core.specs.declared.tree.StreamOf.{StreamOf, out-StreamOf, roll-StreamOf}
use Rattle.cbor_edn_core.specs.declared.tree.SequenceOf.{SequenceOf, out-SequenceOf, roll-SequenceOf}
use Rattle.cbor_edn_core.proofs.lemmas.tree.Views.{view_items_is, view_items_made, view_pairs_is, view_pairs_made, view_strings_is, view_strings_made, view_stream_is, view_stream_made, view_sequence_is, view_sequence_made}

pub then_some : {A : Type 0} {P Q : Type 0} (o : Option A) → OnSome o P → (P → Q) → OnSome o Q
then_some None h f = tt
then_some (Some a) h f = f h

-- the view of a value that is known by another name
pub viewed : {A B : Type 0} (f : A → B) {x : A} (y : A) {z : B} → x ≡ y → f y ≡ z → f x ≡ z
viewed f y e v = ap f e ∙ v

-- a value with another part, where a reading finds the values beside the part
abbrev pub with_part : {V X M : Type 0} → (V → M → X) → maybe.Option V → X → M → X
with_part make maybe.none x m = x
with_part make (maybe.some v) x m = make v m

-- the same of a value that is known by another name
pub with_part_of : {V X M : Type 0} (read : X → maybe.Option V) (make : V → M → X) {x y z : X} (m : M) → x ≡ y → with_part make (read y) y m ≡ z → with_part make (read x) x m ≡ z
with_part_of read make m e v = ap (λ x. with_part make (read x) x m) e ∙ v

pub on_some : {A : Type 0} {P Q : Type 0} (o : Option A) → (P → Q) → OnSome o P → OnSome o Q
on_some None f h = tt
on_some (Some a) f h = f h

module _ {S P M O N T D : Type 0} (leaves : Ghosts S P M O N T D) (w : ItemOf S P M O N T D) (i : ℕ) where
  abbrev new : Tree OneItem
  new = view_item leaves w

  module _ (x : ItemsOf S P M O N T D) where
    counted : (place : ℕ) → i ≡ place → place ≤ length (out-ItemsOf S P M O N T D x).row.items → IsCounted (map (λ p. length (items_in (seen leaves p).0)) (out-ItemsOf S P M O N T D x).row.items) i (place, 0)
    counted place e le = alike (λ p. length (items_in (seen leaves p).0)) 1 (λ p. refl) (out-ItemsOf S P M O N T D x).row.items i place 0 (omega (arith, e)) le (omega arith)

    pub element_replaced : (d : ItemOf S P M O N T D × M) → i < length (out-ItemsOf S P M O N T D x).row.items → d ≡ get_or (out-ItemsOf S P M O N T D x).row.items i d
        → view_items leaves (roll-ItemsOf S P M O N T D (record (out-ItemsOf S P M O N T D x) { row = with_entry (out-ItemsOf S P M O N T D x).row i (w, d.1) })) ≡ with_item i new (view_items leaves x)
    element_replaced d lt e =
        view_items_made leaves (record (out-ItemsOf S P M O N T D x) { row = with_entry (out-ItemsOf S P M O N T D x).row i (w, d.1) })
        ∙ with_in_part (seen leaves) new (out-ItemsOf S P M O N T D x).row.items (LastTree (ElementTree (view_item leaves (out-ItemsOf S P M O N T D x).last)) (leaves.end (out-ItemsOf S P M O N T D x).end)) i i 0 d (w, d.1) (counted i refl (omega (arith, lt))) lt e refl
        ∙ sym (ap (λ t. with_item i new t) (view_items_is leaves x))

    pub last_element_replaced : i ≡ length (out-ItemsOf S P M O N T D x).row.items → view_items leaves (roll-ItemsOf S P M O N T D (record (out-ItemsOf S P M O N T D x) { last = w })) ≡ with_item i new (view_items leaves x)
    last_element_replaced e =
        view_items_made leaves (record (out-ItemsOf S P M O N T D x) { last = w })
        ∙ with_in_rest (seen leaves) new (out-ItemsOf S P M O N T D x).row.items (LastTree (ElementTree (view_item leaves (out-ItemsOf S P M O N T D x).last)) (leaves.end (out-ItemsOf S P M O N T D x).end)) (LastTree (ElementTree new) (leaves.end (out-ItemsOf S P M O N T D x).end)) i (length (out-ItemsOf S P M O N T D x).row.items) 0
        (counted (length (out-ItemsOf S P M O N T D x).row.items) e (omega arith)) (omega arith) refl
        ∙ sym (ap (λ t. with_item i new t) (view_items_is leaves x))

  module _ (x : PairsOf S P M O N T D) where
    counted_pairs : (place left : ℕ) → i ≡ 2 * place + left → left < 2 → place ≤ length (out-PairsOf S P M O N T D x).row.items → IsCounted (map (λ p. length (items_in (seen_pair leaves p).0)) (out-PairsOf S P M O N T D x).row.items) i (place, left)
    counted_pairs place left e lt le = alike (λ p. length (items_in (seen_pair leaves p).0)) 2 (λ p. refl) (out-PairsOf S P M O N T D x).row.items i place left e le lt

    pub key_replaced : (d : PairOf S P M O N T D × M) → i % 2 ≡ 0 → i / 2 < length (out-PairsOf S P M O N T D x).row.items → d ≡ get_or (out-PairsOf S P M O N T D x).row.items (i / 2) d
        → view_pairs leaves (roll-PairsOf S P M O N T D (record (out-PairsOf S P M O N T D x) { row = with_entry (out-PairsOf S P M O N T D x).row (i / 2) (record d.0 { key = w }, d.1) })) ≡ with_item i new (view_pairs leaves x)
    key_replaced d even lt e =
        view_pairs_made leaves (record (out-PairsOf S P M O N T D x) { row = with_entry (out-PairsOf S P M O N T D x).row (i / 2) (record d.0 { key = w }, d.1) })
        ∙ with_in_part (seen_pair leaves) new (out-PairsOf S P M O N T D x).row.items (LastTree (view_pair leaves (out-PairsOf S P M O N T D x).last) (leaves.end (out-PairsOf S P M O N T D x).end)) i (i / 2) 0 d (record d.0 { key = w }, d.1)
        (counted_pairs (i / 2) 0 (omega (arith, even)) (omega arith) (omega (arith, lt))) lt e refl
        ∙ sym (ap (λ t. with_item i new t) (view_pairs_is leaves x))

    pub value_replaced : (d : PairOf S P M O N T D × M) → (i % 2 ≡ 0 → ⊥) → i / 2 < length (out-PairsOf S P M O N T D x).row.items → d ≡ get_or (out-PairsOf S P M O N T D x).row.items (i / 2) d
        → view_pairs leaves (roll-PairsOf S P M O N T D (record (out-PairsOf S P M O N T D x) { row = with_entry (out-PairsOf S P M O N T D x).row (i / 2) (record d.0 { value = w }, d.1) })) ≡ with_item i new (view_pairs leaves x)
    value_replaced d odd lt e =
        view_pairs_made leaves (record (out-PairsOf S P M O N T D x) { row = with_entry (out-PairsOf S P M O N T D x).row (i / 2) (record d.0 { value = w }, d.1) })
        ∙ with_in_part (seen_pair leaves) new (out-PairsOf S P M O N T D x).row.items (LastTree (view_pair leaves (out-PairsOf S P M O N T D x).last) (leaves.end (out-PairsOf S P M O N T D x).end)) i (i / 2) 1 d (record d.0 { value = w }, d.1)
        (counted_pairs (i / 2) 1 (omega (arith, odd)) (omega arith) (omega (arith, lt))) lt e refl
        ∙ sym (ap (λ t. with_item i new t) (view_pairs_is leaves x))

    pub last_key_replaced : i % 2 ≡ 0 → i / 2 ≡ length (out-PairsOf S P M O N T D x).row.items → view_pairs leaves (roll-PairsOf S P M O N T D (record (out-PairsOf S P M O N T D x) { last = record (out-PairsOf S P M O N T D x).last { key = w } })) ≡ with_item i new (view_pairs leaves x)
    last_key_replaced even e =
        view_pairs_made leaves (record (out-PairsOf S P M O N T D x) { last = record (out-PairsOf S P M O N T D x).last { key = w } })
        ∙ with_in_rest (seen_pair leaves) new (out-PairsOf S P M O N T D x).row.items (LastTree (view_pair leaves (out-PairsOf S P M O N T D x).last) (leaves.end (out-PairsOf S P M O N T D x).end)) (LastTree (view_pair leaves (record (out-PairsOf S P M O N T D x).last { key = w })) (leaves.end (out-PairsOf S P M O N T D x).end)) i (length (out-PairsOf S P M O N T D x).row.items) 0
        (counted_pairs (length (out-PairsOf S P M O N T D x).row.items) 0 (omega (arith, even, e)) (omega arith) (omega arith)) (omega arith) refl
        ∙ sym (ap (λ t. with_item i new t) (view_pairs_is leaves x))

    pub last_value_replaced : (i % 2 ≡ 0 → ⊥) → i / 2 ≡ length (out-PairsOf S P M O N T D x).row.items → view_pairs leaves (roll-PairsOf S P M O N T D (record (out-PairsOf S P M O N T D x) { last = record (out-PairsOf S P M O N T D x).last { value = w } })) ≡ with_item i new (view_pairs leaves x)
    last_value_replaced odd e =
        view_pairs_made leaves (record (out-PairsOf S P M O N T D x) { last = record (out-PairsOf S P M O N T D x).last { value = w } })
        ∙ with_in_rest (seen_pair leaves) new (out-PairsOf S P M O N T D x).row.items (LastTree (view_pair leaves (out-PairsOf S P M O N T D x).last) (leaves.end (out-PairsOf S P M O N T D x).end)) (LastTree (view_pair leaves (record (out-PairsOf S P M O N T D x).last { value = w })) (leaves.end (out-PairsOf S P M O N T D x).end)) i (length (out-PairsOf S P M O N T D x).row.items) 1
        (counted_pairs (length (out-PairsOf S P M O N T D x).row.items) 1 (omega (arith, odd, e)) (omega arith) (omega arith)) (omega arith) refl
        ∙ sym (ap (λ t. with_item i new t) (view_pairs_is leaves x))

  module _ (x : CborStringOf S P M O N T D) where
    pub in_piece_replaced : (place left : ℕ) (d : PieceOf S P M O N T D × S × S) (p : PieceOf S P M O N T D) → IsCounted (map (λ p. length (items_in (view_piece leaves p.0))) x.row.items) i (place, left)
        → place < length x.row.items → d ≡ get_or x.row.items place d → view_piece leaves p ≡ with_item left new (view_piece leaves d.0)
        → view_string leaves (record x { row = with_entry x.row place (p, d.1, d.2) }) ≡ with_item i new (view_string leaves x)
    in_piece_replaced place left d p c lt e is =
        with_in_piece (seen_piece leaves) new x.row.items (LastPieceTree (view_piece leaves x.last)) i place left d (p, d.1, d.2) c lt e (ap (λ t. (t, leaves.space d.1, leaves.space d.2)) is)

    pub in_last_piece_replaced : (place left : ℕ) (p : PieceOf S P M O N T D) → IsCounted (map (λ p. length (items_in (view_piece leaves p.0))) x.row.items) i (place, left)
        → length x.row.items ≤ place → view_piece leaves p ≡ with_item left new (view_piece leaves x.last) → view_string leaves (record x { last = p }) ≡ with_item i new (view_string leaves x)
    in_last_piece_replaced place left p c le is =
        with_in_last (seen_piece leaves) new x.row.items (LastPieceTree (view_piece leaves x.last)) (LastPieceTree (view_piece leaves p)) i place left c le (ap LastPieceTree is)

  module _ (x : StringsOf S P M O N T D) where
    pub in_string_replaced : (place left : ℕ) (d : CborStringOf S P M O N T D × M) (p : CborStringOf S P M O N T D) → IsCounted (map (λ p. length (items_in (view_string leaves p.0))) (out-StringsOf S P M O N T D x).row.items) i (place, left)
        → place < length (out-StringsOf S P M O N T D x).row.items → d ≡ get_or (out-StringsOf S P M O N T D x).row.items place d → view_string leaves p ≡ with_item left new (view_string leaves d.0)
        → view_strings leaves (roll-StringsOf S P M O N T D (record (out-StringsOf S P M O N T D x) { row = with_entry (out-StringsOf S P M O N T D x).row place (p, d.1) })) ≡ with_item i new (view_strings leaves x)
    in_string_replaced place left d p c lt e is =
        view_strings_made leaves (record (out-StringsOf S P M O N T D x) { row = with_entry (out-StringsOf S P M O N T D x).row place (p, d.1) })
        ∙ with_in_part (seen_string leaves) new (out-StringsOf S P M O N T D x).row.items (LastTree (ChunkTree (view_string leaves (out-StringsOf S P M O N T D x).last)) (leaves.end (out-StringsOf S P M O N T D x).end)) i place left d (p, d.1) c lt e (ap (λ t. (ChunkTree t, leaves.separator d.1)) is)
        ∙ sym (ap (λ t. with_item i new t) (view_strings_is leaves x))

    pub in_last_string_replaced : (place left : ℕ) (p : CborStringOf S P M O N T D) → IsCounted (map (λ p. length (items_in (view_string leaves p.0))) (out-StringsOf S P M O N T D x).row.items) i (place, left)
        → length (out-StringsOf S P M O N T D x).row.items ≤ place → view_string leaves p ≡ with_item left new (view_string leaves (out-StringsOf S P M O N T D x).last)
        → view_strings leaves (roll-StringsOf S P M O N T D (record (out-StringsOf S P M O N T D x) { last = p })) ≡ with_item i new (view_strings leaves x)
    in_last_string_replaced place left p c le is =
        view_strings_made leaves (record (out-StringsOf S P M O N T D x) { last = p })
        ∙ with_in_rest (seen_string leaves) new (out-StringsOf S P M O N T D x).row.items (LastTree (ChunkTree (view_string leaves (out-StringsOf S P M O N T D x).last)) (leaves.end (out-StringsOf S P M O N T D x).end)) (LastTree (ChunkTree (view_string leaves p)) (leaves.end (out-StringsOf S P M O N T D x).end)) i place left c le
        (ap (λ t. LastTree (ChunkTree t) (leaves.end (out-StringsOf S P M O N T D x).end)) is)
        ∙ sym (ap (λ t. with_item i new t) (view_strings_is leaves x))

  module _ (x : StreamOf S P M O N T D) where
    pub in_stream_replaced : (m : StringsOf S P M O N T D) → view_strings leaves m ≡ with_item i new (view_strings leaves (out-StreamOf S P M O N T D x).strings)
        → view_stream leaves (roll-StreamOf S P M O N T D (record (out-StreamOf S P M O N T D x) { strings = m })) ≡ with_item i new (view_stream leaves x)
    in_stream_replaced m is =
        view_stream_made leaves (record (out-StreamOf S P M O N T D x) { strings = m }) ∙ ap (StreamTree (leaves.mandatory (out-StreamOf S P M O N T D x).space)) is ∙ sym (ap (λ t. with_item i new t) (view_stream_is leaves x))

  module _ (x : SequenceOf S P M O N T D) where
    pub in_sequence_replaced : (old m : ItemsOf S P M O N T D) → (out-SequenceOf S P M O N T D x).items ≡ Some old → view_items leaves m ≡ with_item i new (view_items leaves old)
        → view_sequence leaves (roll-SequenceOf S P M O N T D (record (out-SequenceOf S P M O N T D x) { items = Some m })) ≡ with_item i new (view_sequence leaves x)
    in_sequence_replaced old m e is =
        view_sequence_made leaves (record (out-SequenceOf S P M O N T D x) { items = Some m }) ∙ ap (SequenceTree (leaves.space (out-SequenceOf S P M O N T D x).before)) is
        ∙ sym (ap (λ t. with_item i new t) (view_sequence_is leaves x ∙ ap (view_some leaves (leaves.space (out-SequenceOf S P M O N T D x).before)) e))

-- ---- where a loan left a part as it was

module _ {S P M O N T D : Type 0} (leaves : Ghosts S P M O N T D) where
  pub piece_kept : (x : CborStringOf S P M O N T D) (place : ℕ) (d : PieceOf S P M O N T D × S × S) (p : PieceOf S P M O N T D) → d ≡ get_or x.row.items place d → view_piece leaves p ≡ view_piece leaves d.0
      → view_string leaves (record x { row = with_entry x.row place (p, d.1, d.2) }) ≡ view_string leaves x
  piece_kept x place d p e is =
      ap (λ ps. pieces_onto ps (LastPieceTree (view_piece leaves x.last)))
      (map-set_same (seen_piece leaves) x.row.items place (p, d.1, d.2) d (ap (λ t. (t, leaves.space d.1, leaves.space d.2)) is ∙ ap (seen_piece leaves) e))

  pub string_kept : (x : StringsOf S P M O N T D) (place : ℕ) (d : CborStringOf S P M O N T D × M) (p : CborStringOf S P M O N T D) → d ≡ get_or (out-StringsOf S P M O N T D x).row.items place d
      → view_string leaves p ≡ view_string leaves d.0 → view_strings leaves (roll-StringsOf S P M O N T D (record (out-StringsOf S P M O N T D x) { row = with_entry (out-StringsOf S P M O N T D x).row place (p, d.1) })) ≡ view_strings leaves x
  string_kept x place d p e is =
      let strings = out-StringsOf S P M O N T D x in
      view_strings_made leaves (record strings { row = with_entry strings.row place (p, d.1) })
      ∙ ap (λ ps. entries_onto ps (LastTree (ChunkTree (view_string leaves strings.last)) (leaves.end strings.end)))
      (map-set_same (seen_string leaves) strings.row.items place (p, d.1) d (ap (λ t. (ChunkTree t, leaves.separator d.1)) is ∙ ap (seen_string leaves) e))
      ∙ sym (view_strings_is leaves x)

  pub last_string_kept : (x : StringsOf S P M O N T D) (p : CborStringOf S P M O N T D) → view_string leaves p ≡ view_string leaves (out-StringsOf S P M O N T D x).last
      → view_strings leaves (roll-StringsOf S P M O N T D (record (out-StringsOf S P M O N T D x) { last = p })) ≡ view_strings leaves x
  last_string_kept x p is =
      let strings = out-StringsOf S P M O N T D x in
      view_strings_made leaves (record strings { last = p })
      ∙ ap (λ t. entries_onto (map (seen_string leaves) strings.row.items) (LastTree (ChunkTree t) (leaves.end strings.end))) is
      ∙ sym (view_strings_is leaves x)

  pub stream_kept : (x : StreamOf S P M O N T D) (m : StringsOf S P M O N T D) → view_strings leaves m ≡ view_strings leaves (out-StreamOf S P M O N T D x).strings
      → view_stream leaves (roll-StreamOf S P M O N T D (record (out-StreamOf S P M O N T D x) { strings = m })) ≡ view_stream leaves x
  stream_kept x m is =
      let stream = out-StreamOf S P M O N T D x in
      view_stream_made leaves (record stream { strings = m }) ∙ ap (StreamTree (leaves.mandatory stream.space)) is ∙ sym (view_stream_is leaves x)

  pub sequence_kept : (x : SequenceOf S P M O N T D) (old m : ItemsOf S P M O N T D) → (out-SequenceOf S P M O N T D x).items ≡ Some old → view_items leaves m ≡ view_items leaves old
      → view_sequence leaves (roll-SequenceOf S P M O N T D (record (out-SequenceOf S P M O N T D x) { items = Some m })) ≡ view_sequence leaves x
  sequence_kept x old m e is =
      let sequence = out-SequenceOf S P M O N T D x in
      view_sequence_made leaves (record sequence { items = Some m }) ∙ ap (SequenceTree (leaves.space sequence.before)) is
      ∙ sym (view_sequence_is leaves x ∙ ap (view_some leaves (leaves.space sequence.before)) e)
