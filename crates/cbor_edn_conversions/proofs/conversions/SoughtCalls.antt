-- Each call of a visit is at an item that is sought.
use Rattle.std.proofs.Common.{◌≡◌, List, [], ◌∷◌, ◌++◌, All, sym, subst}
use Rattle.std.proofs.lemmas.List.Elements.{All-nil, All-cons, All-append, All-head, All-tail}
use Rattle.cbor_edn_model.specs.tree.Items.{Row}
use Rattle.cbor_edn_model.specs.visit.Seeking.{CallArguments, SoughtCall, VisitItem, VisitParts, VisitEntry, passed, entered, stayed, refused, not_called, of_number, of_float, of_name, of_tag, of_simple, of_list, of_string, of_stream, of_literal, of_ellipsis, of_embedded, of_last_piece, of_pieces, of_pieces_cut, of_none_inside, of_all_inside, of_last, of_more, of_more_cut, of_nothing, of_sequence, of_standalone, of_element, of_pair, of_pair_cut, of_chunk}
use Rattle.cbor_edn_model.specs.tree.Trees.{Rule, Tree, OneItem, OneEntry}
use Rattle.cbor_edn_model.specs.visit.Visits.{Ending}

module _ (IsSought : Tree OneItem → CallArguments → Type 0) where
  abbrev pub Sought : SoughtCall → Type 0
  Sought c = IsSought c.before c.arguments

  both : (cs ds all : List SoughtCall) → all ≡ cs ++ ds → All Sought cs → All Sought ds → All Sought all
  both cs ds all e h k = subst (All Sought) (sym e) (All-append Sought cs ds h k)

  mutual
    item_sought : {w v : Tree OneItem} {s t : _} {cs : List SoughtCall} {r : Ending} → VisitItem IsSought w s cs v t r → All Sought cs
    item_sought (passed unsought h) = parts_sought h
    item_sought (entered {c} {v} {s} {cs} is n d h) = All-cons Sought c cs is (parts_sought h)
    item_sought (stayed {c} is n d) = All-cons Sought c [] is (All-nil Sought)
    item_sought (refused {c} is n) = All-cons Sought c [] is (All-nil Sought)
    item_sought (not_called is) = All-nil Sought

    pub parts_sought : {k : Rule} {w v : Tree k} {cs : List SoughtCall} {r : Ending} → VisitParts IsSought k w cs v r → All Sought cs
    parts_sought of_number = All-nil Sought
    parts_sought of_float = All-nil Sought
    parts_sought of_name = All-nil Sought
    parts_sought (of_tag h) = parts_sought h
    parts_sought of_simple = All-nil Sought
    parts_sought (of_list h) = parts_sought h
    parts_sought (of_string h) = parts_sought h
    parts_sought (of_stream h) = parts_sought h
    parts_sought of_literal = All-nil Sought
    parts_sought of_ellipsis = All-nil Sought
    parts_sought (of_embedded h) = parts_sought h
    parts_sought (of_last_piece h) = parts_sought h
    parts_sought (of_pieces h k e) = both _ _ _ e (parts_sought h) (parts_sought k)
    parts_sought (of_pieces_cut h) = parts_sought h
    parts_sought of_none_inside = All-nil Sought
    parts_sought (of_all_inside h) = parts_sought h
    parts_sought (of_last h) = entry_sought h
    parts_sought (of_more h k e) = both _ _ _ e (entry_sought h) (parts_sought k)
    parts_sought (of_more_cut h) = entry_sought h
    parts_sought of_nothing = All-nil Sought
    parts_sought (of_sequence h) = parts_sought h
    parts_sought (of_standalone h) = item_sought h

    entry_sought : {k : Row} {e f : Tree (OneEntry k)} {s t : _} {cs : List SoughtCall} {r : Ending} → VisitEntry IsSought k e s cs f t r → All Sought cs
    entry_sought (of_element h) = item_sought h
    entry_sought (of_pair h k e) = both _ _ _ e (item_sought h) (item_sought k)
    entry_sought (of_pair_cut h) = item_sought h
    entry_sought (of_chunk h) = parts_sought h

  -- what follows for each call of a visit from what holds of it
  module _ (P Q : SoughtCall → Type 0) (each : (c : SoughtCall) → Sought c → P c → Q c) where
    each_sought : (cs : List SoughtCall) → All Sought cs → All P cs → All Q cs
    each_sought [] s h = All-nil Q
    each_sought (c ∷ cs) s h = All-cons Q c cs (each c (All-head Sought c cs s) (All-head P c cs h)) (each_sought cs (All-tail Sought c cs s) (All-tail P c cs h))

    pub sought_all : {k : Rule} {w v : Tree k} {cs : List SoughtCall} {r : Ending} → VisitParts IsSought k w cs v r → All P cs → All Q cs
    sought_all {cs = cs} visit h = each_sought cs (parts_sought visit) h
