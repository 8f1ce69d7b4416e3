-- A visit leaves items that nest no deeper, where its calls do.
use Rattle.std.proofs.Common.{◌≡◌, ◌≤◌, List, [], All, subst, ap, arith}
use Rattle.std.proofs.lemmas.List.Elements.{All-head, All-tail}
use Rattle.cbor_edn_model.specs.tree.Items.{Row, nesting}
use Rattle.cbor_edn_model.specs.visit.Seeking.{CallArguments, IsTag, SoughtCall, VisitItem, passed, entered, stayed, refused, not_called, VisitParts, of_number, of_float, of_name, of_tag, of_simple, of_list, of_string, of_stream, of_literal, of_ellipsis, of_embedded, of_last_piece, of_pieces, of_pieces_cut, of_none_inside, of_all_inside, of_last, of_more, of_more_cut, of_nothing, of_sequence, of_standalone, VisitEntry, of_element, of_pair, of_pair_cut, of_chunk}
use Rattle.cbor_edn_model.specs.tree.Trees.{Rule, Tree, OneItem, OneEntry, Seq, items}
use Rattle.cbor_edn_model.specs.visit.Visits.{Ending}
use Rattle.cbor_edn_model.proofs.lemmas.text.Spelled.{nesting_of}
use Rattle.cbor_edn_conversions.specs.Conversions.{Reply}
use Rattle.cbor_edn_conversions.specs.Resolving.{AnswersBy}
use Rattle.cbor_edn_conversions.proofs.resolving.Keeping.{all_split}
use Rattle.cbor_edn.proofs.TagNestings.{NoDeeper}

-- a call leaves an item that nests no deeper
abbrev pub StaysWithin : SoughtCall → Type 0
StaysWithin c = nesting (items c.after) ≤ nesting (items c.before)

pub calls_stay_within : (f : CallArguments → Tree OneItem → Reply) → ((a : CallArguments) → NoDeeper (f a)) → (c : SoughtCall) → AnswersBy f c → StaysWithin c
calls_stay_within f h c is =
    let left : items c.after ≡ items (f c.arguments c.before).1 = ap (λ (v : Tree OneItem). items v) is.1 in
    let deep = ap nesting left in let within = h c.arguments c.before in omega (arith, deep, within)

module _ (Sought : Tree OneItem → CallArguments → Type 0) where
  mutual
    unfolding items

    item_within : {w v : Tree OneItem} {s t : List _} {cs : List SoughtCall} {r : Ending} → VisitItem Sought w s cs v t r → All StaysWithin cs → nesting (items v) ≤ nesting (items w)
    item_within (passed n a) all = parts_within a all
    item_within (entered {c = c} {cs = cs} s f l a) all = let h = parts_within a (All-tail StaysWithin c cs all) in let g = All-head StaysWithin c cs all in omega (arith, h, g)
    item_within (stayed {c = c} s f l) all = All-head StaysWithin c [] all
    item_within (refused {c = c} s f) all = All-head StaysWithin c [] all
    item_within (not_called s) all = omega arith

    parts_within : {k : Rule} {w v : Tree k} {cs : List SoughtCall} {r : Ending} → VisitParts Sought k w cs v r → All StaysWithin cs → nesting_of k (items v) ≤ nesting_of k (items w)
    parts_within of_number all = omega arith
    parts_within of_float all = omega arith
    parts_within of_name all = omega arith
    parts_within (of_tag a) all = let h = parts_within a all in omega (arith, h)
    parts_within of_simple all = omega arith
    parts_within (of_list a) all = let h = parts_within a all in omega (arith, h)
    parts_within (of_string a) all = parts_within a all
    parts_within (of_stream a) all = parts_within a all
    parts_within of_literal all = omega arith
    parts_within of_ellipsis all = omega arith
    parts_within (of_embedded a) all = let h = parts_within a all in omega (arith, h)
    parts_within (of_last_piece a) all = parts_within a all
    parts_within (of_pieces {cs = cs} {ds = ds} a b e) all = let s = all_split StaysWithin cs ds (subst (All StaysWithin) e all) in let h = parts_within a s.0 in let g = parts_within b s.1 in omega (arith, h, g)
    parts_within (of_pieces_cut a) all = let h = parts_within a all in omega (arith, h)
    parts_within of_none_inside all = omega arith
    parts_within (of_all_inside a) all = parts_within a all
    parts_within (of_last a) all = let h = entry_within a all in omega (arith, h)
    parts_within (of_more {cs = cs} {ds = ds} a b e) all = let s = all_split StaysWithin cs ds (subst (All StaysWithin) e all) in let h = entry_within a s.0 in let g = parts_within b s.1 in omega (arith, h, g)
    parts_within (of_more_cut a) all = let h = entry_within a all in omega (arith, h)
    parts_within of_nothing all = omega arith
    parts_within (of_sequence a) all = parts_within a all
    parts_within (of_standalone a) all = item_within a all

    entry_within : {k : Row} {e f : Tree (OneEntry k)} {s t : List _} {cs : List SoughtCall} {r : Ending} → VisitEntry Sought k e s cs f t r → All StaysWithin cs → nesting (items f) ≤ nesting (items e)
    entry_within (of_element a) all = item_within a all
    entry_within (of_pair {cs = cs} {ds = ds} a b e) all = let s = all_split StaysWithin cs ds (subst (All StaysWithin) e all) in let h = item_within a s.0 in let g = item_within b s.1 in omega (arith, h, g)
    entry_within (of_pair_cut a) all = let h = item_within a all in omega (arith, h)
    entry_within (of_chunk a) all = parts_within a all

pub sequence_within : {w v : Tree Seq} {cs : List SoughtCall} {r : Ending} → VisitParts IsTag Seq w cs v r → All StaysWithin cs → nesting (items v) ≤ nesting (items w)
sequence_within a all = parts_within IsTag a all
