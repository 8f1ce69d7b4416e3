-- Visits that change spaces alone.
use Rattle.std.proofs.Common.{List, [], ◌≡◌, All, refl, ap, subst, ◌∙◌}
use Rattle.std.proofs.lemmas.List.Elements.{All-head, All-tail, All-weaker}
use Rattle.cbor_edn_model.specs.tree.Items as kind
use Rattle.cbor_edn_model.specs.tree.Items.{Row, Elements, Pairs, Bracketed, Node, Entries, Entry, Item, Piece, Pieces}
use Rattle.cbor_edn_model.specs.visit.Seeking.{CallArguments, SoughtCall, VisitItem, passed, entered, stayed, refused, not_called, VisitParts, of_number, of_float, of_name, of_tag, of_simple, of_list, of_string, of_stream, of_literal, of_ellipsis, of_embedded, of_last_piece, of_pieces, of_pieces_cut, of_none_inside, of_all_inside, of_last, of_more, of_more_cut, of_nothing, of_sequence, of_standalone, VisitEntry, of_element, of_pair, of_pair_cut, of_chunk}
use Rattle.cbor_edn_model.specs.tree.Trees.{Rule, Tree, OneItem, OneEntry, head_indicator, items}
use Rattle.cbor_edn_model.specs.visit.Visits.{Answer, fine, comment, no_memory, Ending, whole, cut}
use Rattle.cbor_edn_application.specs.Acts.{Act, ActsBy, EndsBy, IsVisited}
use Rattle.cbor_edn_conversions.specs.Resolving.{AnswersBy}
use Rattle.cbor_edn_application.proofs.VisitChains.{all_split}

-- the call left the same items
abbrev pub Unmoved : SoughtCall → Type 0
Unmoved c = items c.after ≡ items c.before

then_same : {k : Row} (x y : Node (Entry k)) (m n : Node (Entries k)) → x ≡ y → m ≡ n → kind.Then x m ≡ kind.Then y n
then_same x y m n e f = ap (λ z. kind.Then z m) e ∙ ap (λ z. kind.Then y z) f

plus_same : (x y : Node Piece) (m n : Node Pieces) → x ≡ y → m ≡ n → kind.Plus x m ≡ kind.Plus y n
plus_same x y m n e f = ap (λ z. kind.Plus z m) e ∙ ap (λ z. kind.Plus y z) f

pair_same : (x y v w : Node Item) → x ≡ y → v ≡ w → kind.Pair x v ≡ kind.Pair y w
pair_same x y v w e f = ap (λ z. kind.Pair z v) e ∙ ap (λ z. kind.Pair y z) f

module _ (Sought : Tree OneItem → CallArguments → Type 0) where
  mutual
    unfolding items

    pub item_unmoved : {w v : Tree OneItem} {s t : List _} {cs : List SoughtCall} {r : Ending} → VisitItem Sought w s cs v t r → All Unmoved cs → items v ≡ items w
    item_unmoved (passed n a) all = parts_unmoved a all
    item_unmoved (entered {c = c} {cs = cs} s had d a) all = parts_unmoved a (All-tail Unmoved c cs all) ∙ All-head Unmoved c cs all
    item_unmoved (stayed {c = c} s had d) all = All-head Unmoved c [] all
    item_unmoved (refused {c = c} s f) all = All-head Unmoved c [] all
    item_unmoved (not_called s) all = refl

    pub parts_unmoved : {k : Rule} {w v : Tree k} {cs : List SoughtCall} {r : Ending} → VisitParts Sought k w cs v r → All Unmoved cs → items v ≡ items w
    parts_unmoved of_number all = refl
    parts_unmoved of_float all = refl
    parts_unmoved of_name all = refl
    parts_unmoved (of_tag {n = n} {i = i} a) all = ap (λ x. kind.Tagged n i x) (parts_unmoved a all)
    parts_unmoved of_simple all = refl
    parts_unmoved (of_list {k = k} a) all = ap (λ x. kind.Listed k x.0 x.1) (parts_unmoved a all)
    parts_unmoved (of_string a) all = ap (λ x. kind.String x) (parts_unmoved a all)
    parts_unmoved (of_stream a) all = ap (λ x. kind.Stream x) (parts_unmoved a all)
    parts_unmoved of_literal all = refl
    parts_unmoved of_ellipsis all = refl
    parts_unmoved (of_embedded {i = i} a) all = ap (λ x. kind.Embedded x i) (parts_unmoved a all)
    parts_unmoved (of_last_piece a) all = ap (λ x. kind.LastPiece x) (parts_unmoved a all)
    parts_unmoved (of_pieces {cs = cs} {ds = ds} a b e) all = let h = all_split Unmoved cs ds (subst (All Unmoved) e all) in plus_same _ _ _ _ (parts_unmoved a h.0) (parts_unmoved b h.1)
    parts_unmoved (of_pieces_cut a) all = plus_same _ _ _ _ (parts_unmoved a all) refl
    parts_unmoved of_none_inside all = refl
    parts_unmoved (of_all_inside {h = h} a) all = ap (λ x. (head_indicator h, x)) (parts_unmoved a all)
    parts_unmoved (of_last a) all = then_same _ _ _ _ (entry_unmoved a all) refl
    parts_unmoved (of_more {cs = cs} {ds = ds} a b e) all = let h = all_split Unmoved cs ds (subst (All Unmoved) e all) in then_same _ _ _ _ (entry_unmoved a h.0) (parts_unmoved b h.1)
    parts_unmoved (of_more_cut a) all = then_same _ _ _ _ (entry_unmoved a all) refl
    parts_unmoved of_nothing all = refl
    parts_unmoved (of_sequence a) all = parts_unmoved a all
    parts_unmoved (of_standalone a) all = item_unmoved a all

    pub entry_unmoved : {k : Row} {e f : Tree (OneEntry k)} {s t : List _} {cs : List SoughtCall} {r : Ending} → VisitEntry Sought k e s cs f t r → All Unmoved cs → items f ≡ items e
    entry_unmoved (of_element a) all = ap (λ x. kind.Element x) (item_unmoved a all)
    entry_unmoved (of_pair {cs = cs} {ds = ds} a b e) all = let h = all_split Unmoved cs ds (subst (All Unmoved) e all) in pair_same _ _ _ _ (item_unmoved a h.0) (item_unmoved b h.1)
    entry_unmoved (of_pair_cut a) all = pair_same _ _ _ _ (item_unmoved a all) refl
    entry_unmoved (of_chunk a) all = ap (λ x. kind.Chunk x) (parts_unmoved a all)

-- ---- visits by a function that leaves the items

acted_unmoved : (act : Act) → ((a : CallArguments) (w : Tree OneItem) → items (act a w).1 ≡ items w) → (a : CallArguments) (w v : Tree OneItem) (r : Answer) → ActsBy act a w r v → items v ≡ items w
acted_unmoved act leaves a w v fine h = ap (λ x. items x) h.1 ∙ leaves a w
acted_unmoved act leaves a w v (comment c) h = ap (λ x. items x) h.1 ∙ leaves a w
acted_unmoved act leaves a w v no_memory h = ap (λ x. items x) h

answered_unmoved : (act : Act) → ((a : CallArguments) (w : Tree OneItem) → items (act a w).1 ≡ items w) → (c : SoughtCall) → AnswersBy act c → Unmoved c
answered_unmoved act leaves c h = ap (λ x. items x) h.1 ∙ leaves c.arguments c.before

calls_unmoved : (act : Act) → ((a : CallArguments) (w : Tree OneItem) → items (act a w).1 ≡ items w) → (cs : List SoughtCall) (r : Ending) → EndsBy act cs r → All Unmoved cs
calls_unmoved act leaves cs whole all = All-weaker (AnswersBy act) Unmoved (λ c. answered_unmoved act leaves c) cs all
calls_unmoved act leaves cs cut all = All-weaker (λ c. ActsBy act c.arguments c.before c.answer c.after) Unmoved (λ c. acted_unmoved act leaves c.arguments c.before c.after c.answer) cs all

pub visit_unmoved : (Sought : Tree OneItem → CallArguments → Type 0) (act : Act) → ((a : CallArguments) (w : Tree OneItem) → items (act a w).1 ≡ items w) → (k : Rule) (w v : Tree k) (r : Ending) → IsVisited Sought act w r v → items v ≡ items w
visit_unmoved Sought act leaves k w v r h = parts_unmoved Sought h.2 (calls_unmoved act leaves h.0 r h.1)
