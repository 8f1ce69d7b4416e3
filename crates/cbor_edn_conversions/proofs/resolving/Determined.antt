-- A whole visit whose calls have one answer each has one result.
use Rattle.std.proofs.Common.{ℕ, ◌≡◌, ◌≤◌, ◌<◌, List, [], ◌∷◌, ◌++◌, Option, Some, All, refl, sym, ap, ◌∙◌, subst, arith}
use Rattle.std.proofs.lemmas.List.Elements.{All-head, All-tail}
use Rattle.cbor_edn_parts.proofs.lemmas.string.Applications.{one_application}
use Rattle.cbor_edn_model.specs.access.Accessed.{IsApplicationPiece}
use Rattle.cbor_edn_model.specs.declared.text.opener.OpenerKind.TheVariants as opener
use Rattle.cbor_edn_model.specs.visit.Depth.{depth}
use Rattle.cbor_edn_model.specs.tree.Items.{Row, Elements, Strings, entries_of}
use Rattle.cbor_edn_model.specs.visit.Seeking.{CallArguments, number, prefix_and_text, IsTag, IsApplication, SoughtCall, VisitItem, passed, entered, stayed, refused, not_called, VisitParts, of_number, of_float, of_name, of_tag, of_simple, of_list, of_string, of_stream, of_literal, of_ellipsis, of_embedded, of_last_piece, of_pieces, of_pieces_cut, of_none_inside, of_all_inside, of_last, of_more, of_more_cut, of_nothing, of_sequence, of_standalone, VisitEntry, of_element, of_pair, of_pair_cut, of_chunk}
use Rattle.cbor_edn_model.specs.tree.Trees.{Rule, Tree, OneItem, OnePiece, OneString, OneEntry, Inside, Rest, Seq, Standalone, NumberTree, FloatTree, NamedTree, EnclosedTree, ListTree, StringTree, StreamTree, LiteralTree, EllipsisTree, EmbeddedTree, LastPieceTree, PlusTree, ElementTree, PairTree, ChunkTree, EmptyTree, FullTree, LastTree, MoreTree, NothingTree, SequenceTree, StandaloneTree}
use Rattle.cbor_edn_model.specs.visit.Visits.{Answer, answered, Ending, whole}
use Rattle.cbor_edn_conversions.proofs.resolving.Keeping.{all_split}

abbrev call_of : CallArguments → Tree OneItem → Answer → Tree OneItem → SoughtCall
call_of a b n v = record { arguments = a; before = b; answer = n; after = v }

same_calls : (c d : SoughtCall) → c.arguments ≡ d.arguments → c.before ≡ d.before → c.answer ≡ d.answer → c.after ≡ d.after → c ≡ d
same_calls c d arguments before answer after =
    ap (λ a. call_of a c.before c.answer c.after) arguments
    ∙ (ap (λ b. call_of d.arguments b c.answer c.after) before ∙ (ap (λ n. call_of d.arguments d.before n c.after) answer ∙ ap (call_of d.arguments d.before d.answer) after))

module _ (Sought : Tree OneItem → CallArguments → Type 0) where
  -- ---- what a visit did, by the part of the tree that it began with

  abbrev Parts : {k : Rule} → Tree k → List SoughtCall → Tree k → Ending → Type 0
  Parts {k} w ds u q = VisitParts Sought k w ds u q

  abbrev Inverted : {k : Rule} → Tree k → List SoughtCall → Tree k → Ending → Type 0
  Inverted (NumberTree x i) ds u q = (u ≡ NumberTree x i) × (ds ≡ [])
  Inverted (FloatTree f i) ds u q = (u ≡ FloatTree f i) × (ds ≡ [])
  Inverted (NamedTree b) ds u q = (u ≡ NamedTree b) × (ds ≡ [])
  Inverted (EnclosedTree (opener.Tag i n) w) ds u q = (y : Tree Standalone) × Parts w ds y q × (u ≡ EnclosedTree (opener.Tag i n) y)
  Inverted (EnclosedTree opener.Simple w) ds u q = (u ≡ EnclosedTree opener.Simple w) × (ds ≡ [])
  Inverted (ListTree k w) ds u q = (y : Tree (Inside k)) × Parts w ds y q × (u ≡ ListTree k y)
  Inverted (StringTree w) ds u q = (y : Tree OneString) × Parts w ds y q × (u ≡ StringTree y)
  Inverted (StreamTree ms m) ds u q = (n : Tree (Rest Strings)) × Parts m ds n q × (u ≡ StreamTree ms n)
  Inverted (LiteralTree x i) ds u q = (u ≡ LiteralTree x i) × (ds ≡ [])
  Inverted (EllipsisTree x) ds u q = (u ≡ EllipsisTree x) × (ds ≡ [])
  Inverted (EmbeddedTree w i) ds u q = (y : Tree Seq) × Parts w ds y q × (u ≡ EmbeddedTree y i)
  Inverted (LastPieceTree p) ds u q = (y : Tree OnePiece) × Parts p ds y q × (u ≡ LastPieceTree y)
  Inverted (PlusTree p s t w) ds u q = (y : Tree OnePiece) × (z : Tree OneString) × (before behind : List SoughtCall) × Parts p before y whole × Parts w behind z q × (ds ≡ before ++ behind) × (u ≡ PlusTree y s t z)
  Inverted (ElementTree w) ds u q = Unit {0}
  Inverted (PairTree v s t w) ds u q = Unit {0}
  Inverted (ChunkTree w) ds u q = Unit {0}
  Inverted (EmptyTree i s) ds u q = (u ≡ EmptyTree i s) × (ds ≡ [])
  Inverted (FullTree {k} h s m) ds u q = (n : Tree (Rest (entries_of k))) × Parts m ds n q × (u ≡ FullTree h s n)
  Inverted (LastTree {k} e s) ds u q = (f : Tree (OneEntry k)) × (t : List ℕ) × VisitEntry Sought k e s ds f t q × (u ≡ LastTree f t)
  Inverted (MoreTree {k} e s m) ds u q = (f : Tree (OneEntry k)) × (t : List ℕ) × (n : Tree (Rest k)) × (before behind : List SoughtCall) × VisitEntry Sought k e s before f t whole × Parts m behind n q × (ds ≡ before ++ behind) × (u ≡ MoreTree f t n)
  Inverted (NothingTree s) ds u q = (u ≡ NothingTree s) × (ds ≡ [])
  Inverted (SequenceTree s m) ds u q = (n : Tree (Rest Elements)) × Parts m ds n q × (u ≡ SequenceTree s n)
  Inverted (StandaloneTree s w t) ds u q = (v : Tree OneItem) × (x : List ℕ) × VisitItem Sought w t ds v x q × (u ≡ StandaloneTree s v x)

  inverted : {k : Rule} {w u : Tree k} {ds : List SoughtCall} {q : Ending} → VisitParts Sought k w ds u q → q ≡ whole → Inverted w ds u q
  inverted of_number is = (refl, refl)
  inverted of_float is = (refl, refl)
  inverted of_name is = (refl, refl)
  inverted (of_tag {v = v} a) is = (v, a, refl)
  inverted of_simple is = (refl, refl)
  inverted (of_list {v = v} a) is = (v, a, refl)
  inverted (of_string {v = v} a) is = (v, a, refl)
  inverted (of_stream {n = n} a) is = (n, a, refl)
  inverted of_literal is = (refl, refl)
  inverted of_ellipsis is = (refl, refl)
  inverted (of_embedded {v = v} a) is = (v, a, refl)
  inverted (of_last_piece {q = q} a) is = (q, a, refl)
  inverted (of_pieces {q = q} {v = v} {cs = cs} {ds = ds} a b e) is = (q, v, cs, ds, a, b, e, refl)
  inverted (of_pieces_cut a) is = absurd cc
  inverted of_none_inside is = (refl, refl)
  inverted (of_all_inside {n = n} a) is = (n, a, refl)
  inverted (of_last {f = f} {t = t} a) is = (f, t, a, refl)
  inverted (of_more {f = f} {t = t} {n = n} {cs = cs} {ds = ds} a b e) is = (f, t, n, cs, ds, a, b, e, refl)
  inverted (of_more_cut a) is = absurd cc
  inverted of_nothing is = (refl, refl)
  inverted (of_sequence {n = n} a) is = (n, a, refl)
  inverted (of_standalone {u = u} {v = v} a) is = (v, u, a, refl)

  abbrev EntryInverted : {k : Row} → Tree (OneEntry k) → List ℕ → List SoughtCall → Tree (OneEntry k) → List ℕ → Ending → Type 0
  EntryInverted (ElementTree w) s ds f t q = (v : Tree OneItem) × VisitItem Sought w s ds v t q × (f ≡ ElementTree v)
  EntryInverted (PairTree w s u x) a ds f b q = (v y : Tree OneItem) × (t : List ℕ) × (before behind : List SoughtCall) × VisitItem Sought w s before v t whole × VisitItem Sought x a behind y b q × (ds ≡ before ++ behind) × (f ≡ PairTree v t u y)
  EntryInverted (ChunkTree w) s ds f t q = (v : Tree OneString) × Parts w ds v q × (f ≡ ChunkTree v) × (t ≡ s)

  entry_inverted : {k : Row} {e f : Tree (OneEntry k)} {s t : List ℕ} {ds : List SoughtCall} {q : Ending} → VisitEntry Sought k e s ds f t q → q ≡ whole → EntryInverted e s ds f t q
  entry_inverted (of_element {v = v} a) is = (v, a, refl)
  entry_inverted (of_pair {v = v} {y = y} {t = t} {cs = cs} {ds = ds} a b e) is = (v, y, t, cs, ds, a, b, e, refl)
  entry_inverted (of_pair_cut a) is = absurd cc
  entry_inverted (of_chunk {v = v} a) is = (v, a, refl, refl)

  data Came (w : Tree OneItem) (s : List ℕ) : List SoughtCall → Tree OneItem → List ℕ → Ending → Type 0 where
    passes : {v : Tree OneItem} {cs : List SoughtCall} {r : Ending} → ((a : CallArguments) → Sought w a → ⊥) → VisitParts Sought OneItem w cs v r → Came w s cs v s r
    enters : {c : SoughtCall} {v : Tree OneItem} {cs : List SoughtCall} {r : Ending}
        → w ≡ c.before → Sought w c.arguments → depth c.after ≤ depth w → VisitParts Sought OneItem c.after cs v r → Came w s (c ∷ cs) v (answered c.answer s) r
    stays : {c : SoughtCall} → w ≡ c.before → Sought w c.arguments → depth w < depth c.after → Came w s (c ∷ []) c.after (answered c.answer s) whole

  came : {w u : Tree OneItem} {s x : List ℕ} {ds : List SoughtCall} {q : Ending} → VisitItem Sought w s ds u x q → q ≡ whole → Came w s ds u x q
  came (passed n a) is = passes n a
  came (entered a f d b) is = enters refl a d b
  came (stayed a f d) is = stays refl a d
  came (refused a f) is = absurd cc
  came (not_called s) is = absurd cc

  -- ---- one result

  module _ (arguments_once : (w : Tree OneItem) (a b : CallArguments) → Sought w a → Sought w b → a ≡ b) (Good : SoughtCall → Type 0)
      (answers_once : (c d : SoughtCall) → Good c → Good d → c.arguments ≡ d.arguments → c.before ≡ d.before → (c.answer ≡ d.answer) × (c.after ≡ d.after)) where
    same_call : (w : Tree OneItem) (c d : SoughtCall) → w ≡ c.before → w ≡ d.before → Sought w c.arguments → Sought w d.arguments → Good c → Good d → (c.answer ≡ d.answer) × (c.after ≡ d.after) × (c ≡ d)
    same_call w c d i j a b g h =
        let arguments = arguments_once w c.arguments d.arguments a b in
        let before : c.before ≡ d.before = sym i ∙ j in
        let rest = answers_once c d g h arguments before in
        (rest.0, rest.1, same_calls c d arguments before rest.0 rest.1)

    abbrev ItemOnce : Tree OneItem → List ℕ → List SoughtCall → Tree OneItem → List ℕ → Type 0
    ItemOnce w s cs v t = (u : Tree OneItem) (x : List ℕ) (ds : List SoughtCall) (q : Ending) → VisitItem Sought w s ds u x q → q ≡ whole → All Good ds → (v ≡ u) × (t ≡ x) × (cs ≡ ds)

    abbrev PartsOnce : {k : Rule} → Tree k → List SoughtCall → Tree k → Type 0
    PartsOnce {k} w cs v = (u : Tree k) (ds : List SoughtCall) (q : Ending) → VisitParts Sought k w ds u q → q ≡ whole → All Good ds → (v ≡ u) × (cs ≡ ds)

    passed_once : (w v : Tree OneItem) (s : List ℕ) (cs : List SoughtCall) → ((a : CallArguments) → Sought w a → ⊥) → PartsOnce w cs v → {u : Tree OneItem} {x : List ℕ} {ds : List SoughtCall} {q : Ending} → Came w s ds u x q → q ≡ whole → All Good ds → (v ≡ u) × (s ≡ x) × (cs ≡ ds)
    passed_once w v s cs n once (passes {v = u} {cs = ds} {r = q} m b) is all = let h = once u ds q b is all in (h.0, refl, h.1)
    passed_once w v s cs n once (enters {c = c} i a d b) is all = absurd (n c.arguments a)
    passed_once w v s cs n once (stays {c = c} i a d) is all = absurd (n c.arguments a)

    entered_once : (c : SoughtCall) (v : Tree OneItem) (s : List ℕ) (cs : List SoughtCall) → Sought c.before c.arguments → depth c.after ≤ depth c.before → Good c → PartsOnce c.after cs v → {u : Tree OneItem} {x : List ℕ} {ds : List SoughtCall} {q : Ending} → Came c.before s ds u x q → q ≡ whole → All Good ds → (v ≡ u) × (answered c.answer s ≡ x) × ((c ∷ cs) ≡ ds)
    entered_once c v s cs a d g once (passes n b) is all = absurd (n c.arguments a)
    entered_once c v s cs a d g once (enters {c = e} {v = u} {cs = ds} {r = q} j b f p) is all =
        let same = same_call c.before c e refl j a b g (All-head Good e ds all) in
        let rest = once u ds q (subst (λ w. VisitParts Sought OneItem w ds u q) (sym same.1) p) is (All-tail Good e ds all) in
        (rest.0, ap (λ k. answered k s) same.0, ap (λ y. y ∷ cs) same.2 ∙ ap (λ l. e ∷ l) rest.1)
    entered_once c v s cs a d g once (stays {c = e} j b f) is all =
        let same = same_call c.before c e refl j a b g (All-head Good e [] all) in
        let h = ap depth same.1 in absurd (omega (arith, h, d, f))

    stayed_once : (c : SoughtCall) (s : List ℕ) → Sought c.before c.arguments → depth c.before < depth c.after → Good c → {u : Tree OneItem} {x : List ℕ} {ds : List SoughtCall} {q : Ending} → Came c.before s ds u x q → q ≡ whole → All Good ds → (c.after ≡ u) × (answered c.answer s ≡ x) × ((c ∷ []) ≡ ds)
    stayed_once c s a d g (passes n b) is all = absurd (n c.arguments a)
    stayed_once c s a d g (enters {c = e} {cs = ds} j b f p) is all =
        let same = same_call c.before c e refl j a b g (All-head Good e ds all) in
        let h = ap depth same.1 in absurd (omega (arith, h, d, f))
    stayed_once c s a d g (stays {c = e} j b f) is all =
        let same = same_call c.before c e refl j a b g (All-head Good e [] all) in
        (same.1, ap (λ k. answered k s) same.0, ap (λ y. y ∷ []) same.2)

    mutual
      pub item_once : {w v : Tree OneItem} {s t : List ℕ} {cs : List SoughtCall} {r : Ending} → VisitItem Sought w s cs v t r → r ≡ whole → All Good cs → ItemOnce w s cs v t
      item_once (passed {w = w} {v = v} {s = s} {cs = cs} n a) end all u x ds q b is others = passed_once w v s cs n (parts_once a end all) (came b is) is others
      item_once (entered {c = c} {v = v} {s = s} {cs = cs} h f d a) end all u x ds q b is others = entered_once c v s cs h d (All-head Good c cs all) (parts_once a end (All-tail Good c cs all)) (came b is) is others
      item_once (stayed {c = c} {s = s} h f d) end all u x ds q b is others = stayed_once c s h d (All-head Good c [] all) (came b is) is others
      item_once (refused h f) end all u x ds q b is others = absurd cc
      item_once (not_called s) end all u x ds q b is others = absurd cc

      pub parts_once : {k : Rule} {w v : Tree k} {cs : List SoughtCall} {r : Ending} → VisitParts Sought k w cs v r → r ≡ whole → All Good cs → PartsOnce w cs v
      parts_once of_number end all u ds q b is others = let h = inverted b is in (sym h.0, sym h.1)
      parts_once of_float end all u ds q b is others = let h = inverted b is in (sym h.0, sym h.1)
      parts_once of_name end all u ds q b is others = let h = inverted b is in (sym h.0, sym h.1)
      parts_once (of_tag {n = n} {i = i} a) end all u ds q b is others = let h = inverted b is in let o = parts_once a end all h.0 ds q h.1 is others in (ap (EnclosedTree (opener.Tag i n)) o.0 ∙ sym h.2, o.1)
      parts_once of_simple end all u ds q b is others = let h = inverted b is in (sym h.0, sym h.1)
      parts_once (of_list {k = k} a) end all u ds q b is others = let h = inverted b is in let o = parts_once a end all h.0 ds q h.1 is others in (ap (ListTree k) o.0 ∙ sym h.2, o.1)
      parts_once (of_string a) end all u ds q b is others = let h = inverted b is in let o = parts_once a end all h.0 ds q h.1 is others in (ap StringTree o.0 ∙ sym h.2, o.1)
      parts_once (of_stream {ms = ms} a) end all u ds q b is others = let h = inverted b is in let o = parts_once a end all h.0 ds q h.1 is others in (ap (StreamTree ms) o.0 ∙ sym h.2, o.1)
      parts_once of_literal end all u ds q b is others = let h = inverted b is in (sym h.0, sym h.1)
      parts_once of_ellipsis end all u ds q b is others = let h = inverted b is in (sym h.0, sym h.1)
      parts_once (of_embedded {i = i} a) end all u ds q b is others = let h = inverted b is in let o = parts_once a end all h.0 ds q h.1 is others in (ap (λ w. EmbeddedTree w i) o.0 ∙ sym h.2, o.1)
      parts_once (of_last_piece a) end all u ds q b is others = let h = inverted b is in let o = parts_once a end all h.0 ds q h.1 is others in (ap LastPieceTree o.0 ∙ sym h.2, o.1)
      parts_once (of_pieces {s = s} {t = t} {v = v} {cs = cs} {ds = es} a c e) end all u ds q b is others =
          let h = inverted b is in
          let mine = all_split Good cs es (subst (All Good) e all) in
          let theirs = all_split Good h.2 h.3 (subst (All Good) h.6 others) in
          let first = parts_once a refl mine.0 h.0 h.2 whole h.4 refl theirs.0 in
          let rest = parts_once c end mine.1 h.1 h.3 q h.5 is theirs.1 in
          (ap (λ p. PlusTree p s t v) first.0 ∙ (ap (PlusTree h.0 s t) rest.0 ∙ sym h.7), e ∙ (ap (λ l. l ++ es) first.1 ∙ (ap (λ l. h.2 ++ l) rest.1 ∙ sym h.6)))
      parts_once (of_pieces_cut a) end all u ds q b is others = absurd cc
      parts_once of_none_inside end all u ds q b is others = let h = inverted b is in (sym h.0, sym h.1)
      parts_once (of_all_inside {h = head} {s = s} a) end all u ds q b is others = let h = inverted b is in let o = parts_once a end all h.0 ds q h.1 is others in (ap (FullTree head s) o.0 ∙ sym h.2, o.1)
      parts_once (of_last {t = t} a) end all u ds q b is others =
          let h = inverted b is in
          let o = entry_once a end all h.0 h.1 ds q h.2 is others in
          (ap (λ e. LastTree e t) o.0 ∙ (ap (LastTree h.0) o.1 ∙ sym h.3), o.2)
      parts_once (of_more {t = t} {n = n} {cs = cs} {ds = es} a c e) end all u ds q b is others =
          let h = inverted b is in
          let mine = all_split Good cs es (subst (All Good) e all) in
          let theirs = all_split Good h.3 h.4 (subst (All Good) h.7 others) in
          let first = entry_once a refl mine.0 h.0 h.1 h.3 whole h.5 refl theirs.0 in
          let rest = parts_once c end mine.1 h.2 h.4 q h.6 is theirs.1 in
          (ap (λ f. MoreTree f t n) first.0 ∙ (ap (λ t. MoreTree h.0 t n) first.1 ∙ (ap (MoreTree h.0 h.1) rest.0 ∙ sym h.8)), e ∙ (ap (λ l. l ++ es) first.2 ∙ (ap (λ l. h.3 ++ l) rest.1 ∙ sym h.7)))
      parts_once (of_more_cut a) end all u ds q b is others = absurd cc
      parts_once of_nothing end all u ds q b is others = let h = inverted b is in (sym h.0, sym h.1)
      parts_once (of_sequence {s = s} a) end all u ds q b is others = let h = inverted b is in let o = parts_once a end all h.0 ds q h.1 is others in (ap (SequenceTree s) o.0 ∙ sym h.2, o.1)
      parts_once (of_standalone {s = s} {u = t} a) end all u ds q b is others =
          let h = inverted b is in
          let o = item_once a end all h.0 h.1 ds q h.2 is others in
          (ap (λ w. StandaloneTree s w t) o.0 ∙ (ap (StandaloneTree s h.0) o.1 ∙ sym h.3), o.2)

      pub entry_once : {k : Row} {e f : Tree (OneEntry k)} {s t : List ℕ} {cs : List SoughtCall} {r : Ending} → VisitEntry Sought k e s cs f t r → r ≡ whole → All Good cs
          → (g : Tree (OneEntry k)) (x : List ℕ) (ds : List SoughtCall) (q : Ending) → VisitEntry Sought k e s ds g x q → q ≡ whole → All Good ds → (f ≡ g) × (t ≡ x) × (cs ≡ ds)
      entry_once (of_element a) end all g x ds q b is others = let h = entry_inverted b is in let o = item_once a end all h.0 x ds q h.1 is others in (ap ElementTree o.0 ∙ sym h.2, o.1, o.2)
      entry_once (of_pair {v = v} {y = y} {t = t} {u = u} {cs = cs} {ds = es} a c e) end all g x ds q b is others =
          let h = entry_inverted b is in
          let mine = all_split Good cs es (subst (All Good) e all) in
          let theirs = all_split Good h.3 h.4 (subst (All Good) h.7 others) in
          let first = item_once a refl mine.0 h.0 h.2 h.3 whole h.5 refl theirs.0 in
          let rest = item_once c end mine.1 h.1 x h.4 q h.6 is theirs.1 in
          (ap (λ v. PairTree v t u y) first.0 ∙ (ap (λ t. PairTree h.0 t u y) first.1 ∙ (ap (PairTree h.0 h.2 u) rest.0 ∙ sym h.8)), rest.1, e ∙ (ap (λ l. l ++ es) first.2 ∙ (ap (λ l. h.3 ++ l) rest.2 ∙ sym h.7)))
      entry_once (of_pair_cut a) end all g x ds q b is others = absurd cc
      entry_once (of_chunk a) end all g x ds q b is others = let h = entry_inverted b is in let o = parts_once a end all h.0 ds q h.1 is others in (ap ChunkTree o.0 ∙ sym h.2, sym h.3, o.1)

-- ---- the arguments of tags and of literals

pub tag_arguments_once : (w : Tree OneItem) (a b : CallArguments) → IsTag w a → IsTag w b → a ≡ b
tag_arguments_once w (number n) (number m) a b = cc
tag_arguments_once w (number n) (prefix_and_text p v) a b = absurd b
tag_arguments_once w (prefix_and_text p v) b a c = absurd a

piece_arguments_once : (l : Tree OnePiece) (p v q u : List ℕ) → IsApplicationPiece l p v → IsApplicationPiece l q u → prefix_and_text p v ≡ prefix_and_text q u
piece_arguments_once (LiteralTree x i) p v q u a b = let h = one_application p v q u x a b in cc
piece_arguments_once (EllipsisTree x) p v q u a b = absurd a
piece_arguments_once (EmbeddedTree w i) p v q u a b = absurd a

pub application_arguments_once : (w : Tree OneItem) (a b : CallArguments) → IsApplication w a → IsApplication w b → a ≡ b
application_arguments_once w (number n) b a c = absurd a
application_arguments_once w (prefix_and_text p v) (number n) a b = absurd b
application_arguments_once w (prefix_and_text p v) (prefix_and_text q u) a b =
    let same : a.0 ≡ b.0 = last_is a.0 b.0 (sym a.1 ∙ b.1) in
    piece_arguments_once a.0 p v q u a.2 (subst (λ l. IsApplicationPiece l q u) (sym same) b.2)
  where
    last_is : (l m : Tree OnePiece) → ◌≡◌ {A = Option (Tree OneString)} (Some (LastPieceTree l)) (Some (LastPieceTree m)) → l ≡ m
    last_is l m e = cc
