-- A visit leaves direct items direct where its calls do.
use Rattle.std.proofs.Common.{List, [], All, subst}
use Rattle.std.proofs.lemmas.List.Elements.{All-head, All-tail}
use Rattle.cbor_edn_model.specs.tree.Items.{Row}
use Rattle.cbor_edn_model.specs.visit.Seeking.{CallArguments, IsTag, IsApplication, SoughtCall, VisitItem, passed, entered, stayed, refused, not_called, VisitParts, of_number, of_float, of_name, of_tag, of_simple, of_list, of_string, of_stream, of_literal, of_ellipsis, of_embedded, of_last_piece, of_pieces, of_pieces_cut, of_none_inside, of_all_inside, of_last, of_more, of_more_cut, of_nothing, of_sequence, of_standalone, VisitEntry, of_element, of_pair, of_pair_cut, of_chunk}
use Rattle.cbor_edn_model.specs.tree.Trees.{Rule, Tree, OneItem, OnePiece, OneString, OneEntry, Inside, Rest, Seq, Standalone, Of, items}
use Rattle.cbor_edn_model.specs.visit.Visits.{Ending}
use Rattle.cbor_edn_conversions.specs.Nesting.{IsDirect, StaysDirect}
use Rattle.cbor_edn_conversions.specs.NestingLaws.{VisitKeepsDirect}
use Rattle.cbor_edn_conversions.proofs.resolving.Keeping.{all_split}

abbrev DirectOf : (k : Rule) → Of k → Type 0
DirectOf (Inside k) x = IsDirect x.1
DirectOf OneItem x = IsDirect x
DirectOf OnePiece x = IsDirect x
DirectOf OneString x = IsDirect x
DirectOf (OneEntry k) x = IsDirect x
DirectOf (Rest k) x = IsDirect x
DirectOf Seq x = IsDirect x
DirectOf Standalone x = IsDirect x

module _ (Sought : Tree OneItem → CallArguments → Type 0) where
  mutual
    unfolding items

    item_stays : {w v : Tree OneItem} {s t : List _} {cs : List SoughtCall} {r : Ending} → VisitItem Sought w s cs v t r → All StaysDirect cs → IsDirect (items w) → IsDirect (items v)
    item_stays (passed n a) all d = parts_stay a all d
    item_stays (entered {c = c} {cs = cs} s f l a) all d = parts_stay a (All-tail StaysDirect c cs all) (All-head StaysDirect c cs all d)
    item_stays (stayed {c = c} s f l) all d = All-head StaysDirect c [] all d
    item_stays (refused {c = c} s f) all d = All-head StaysDirect c [] all d
    item_stays (not_called s) all d = d

    parts_stay : {k : Rule} {w v : Tree k} {cs : List SoughtCall} {r : Ending} → VisitParts Sought k w cs v r → All StaysDirect cs → DirectOf k (items w) → DirectOf k (items v)
    parts_stay of_number all d = d
    parts_stay of_float all d = d
    parts_stay of_name all d = d
    parts_stay (of_tag a) all d = parts_stay a all d
    parts_stay of_simple all d = d
    parts_stay (of_list a) all d = parts_stay a all d
    parts_stay (of_string a) all d = parts_stay a all d
    parts_stay (of_stream a) all d = parts_stay a all d
    parts_stay of_literal all d = d
    parts_stay of_ellipsis all d = d
    parts_stay (of_embedded a) all d = absurd d
    parts_stay (of_last_piece a) all d = parts_stay a all d
    parts_stay (of_pieces {cs = cs} {ds = ds} a b e) all d = let h = all_split StaysDirect cs ds (subst (All StaysDirect) e all) in (parts_stay a h.0 d.0, parts_stay b h.1 d.1)
    parts_stay (of_pieces_cut a) all d = (parts_stay a all d.0, d.1)
    parts_stay of_none_inside all d = d
    parts_stay (of_all_inside a) all d = parts_stay a all d
    parts_stay (of_last a) all d = (entry_stays a all d.0, tt)
    parts_stay (of_more {cs = cs} {ds = ds} a b e) all d = let h = all_split StaysDirect cs ds (subst (All StaysDirect) e all) in (entry_stays a h.0 d.0, parts_stay b h.1 d.1)
    parts_stay (of_more_cut a) all d = (entry_stays a all d.0, d.1)
    parts_stay of_nothing all d = d
    parts_stay (of_sequence a) all d = parts_stay a all d
    parts_stay (of_standalone a) all d = item_stays a all d

    entry_stays : {k : Row} {e f : Tree (OneEntry k)} {s t : List _} {cs : List SoughtCall} {r : Ending} → VisitEntry Sought k e s cs f t r → All StaysDirect cs → IsDirect (items e) → IsDirect (items f)
    entry_stays (of_element a) all d = item_stays a all d
    entry_stays (of_pair {cs = cs} {ds = ds} a b e) all d = let h = all_split StaysDirect cs ds (subst (All StaysDirect) e all) in (item_stays a h.0 d.0, item_stays b h.1 d.1)
    entry_stays (of_pair_cut a) all d = (item_stays a all d.0, d.1)
    entry_stays (of_chunk a) all d = parts_stay a all d

  visit_keeps_direct : VisitKeepsDirect Sought
  visit_keeps_direct cs r all = (λ w v a. parts_stay a all, λ w v a. parts_stay a all)

pub tag_visits_keep_direct : VisitKeepsDirect IsTag
tag_visits_keep_direct = visit_keeps_direct IsTag

pub literal_visits_keep_direct : VisitKeepsDirect IsApplication
literal_visits_keep_direct = visit_keeps_direct IsApplication
