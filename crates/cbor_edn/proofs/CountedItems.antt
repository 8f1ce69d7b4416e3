-- The steps of a run leave as many items in a sequence as there were.
use Rattle.std.proofs.Common.{◌≡◌, List, Bool, true, false, suc, length, refl, ap, ◌∙◌, arith}
use Rattle.std.specs.Prelude.{not}
use Rattle.std.proofs.lemmas.List.{length-append}
use Rattle.cbor_edn_parts.specs.declared.space.policy.DelimiterPolicy.{DelimiterPolicy}
use Rattle.cbor_edn_parts.specs.declared.space.policy.DelimiterPolicy.TheVariants.{DiscardAll}
use Rattle.cbor_edn_parts.specs.space.Spacing.{indented}
use Rattle.cbor_edn_model.specs.access.Paths.{items_in}
use Rattle.cbor_edn_model.specs.tree.Items.{Elements}
use Rattle.cbor_edn_model.specs.tree.Trees.{Tree, OneItem, OneEntry, Rest, Seq, ElementTree, LastTree, MoreTree, NothingTree, SequenceTree}
use Rattle.cbor_edn_model.specs.visit.Seeking.{CallArguments, SoughtCall, IsTag, IsApplication, VisitParts, of_last, of_more, of_more_cut, of_nothing, of_sequence}
use Rattle.cbor_edn_model.specs.visit.Visits.{Ending, whole}
use Rattle.cbor_edn_model.specs.layout.Layout.{Layout, layout, laid}
use Rattle.cbor_edn_conversions.specs.Addresses.{resolve_address, pretty_address}
use Rattle.cbor_edn_conversions.specs.Annotations.{comment_lang}
use Rattle.cbor_edn_conversions.specs.Bignums.{pretty_bignum}
use Rattle.cbor_edn_conversions.specs.Claims.{with_claims}
use Rattle.cbor_edn_conversions.specs.Tag999.{to_tag999}
use Rattle.cbor_edn_conversions.specs.Times.{resolve_time, pretty_time}
use Rattle.cbor_edn_application.specs.Acts.{Act, IsVisited}
use Rattle.cbor_edn_application.specs.Sequences.{each_item, with_each}
use Rattle.cbor_edn_command.specs.declared.options.Options.{Options}
use Rattle.cbor_edn.specs.RunSteps.{Step, Where, InTurn, IsLaidOut, TagsVisited, LiteralsVisited, AnnotatesTags, ResolvesLiterals, HasClaims, StepsGive}

-- ---- visits

one_alike : (e f : Tree (OneEntry Elements)) → length (items_in f) ≡ length (items_in e)
one_alike (ElementTree w) (ElementTree v) = refl

module _ {IsSought : Tree OneItem → CallArguments → Type 0} where
  row_counted : {m n : Tree (Rest Elements)} {cs : List SoughtCall} {r : Ending} → VisitParts IsSought (Rest Elements) m cs n r → length (items_in n) ≡ length (items_in m)
  row_counted (of_last {e = e} {f = f} a) = one_alike e f
  row_counted (of_more {e = e} {f = f} {m = m} {n = n} a b is) =
      let one = one_alike e f in
      let more = row_counted b in
      omega (arith, length-append (items_in e) (items_in m), length-append (items_in f) (items_in n), one, more)
  row_counted (of_more_cut {e = e} {f = f} {m = m} a) =
      let one = one_alike e f in
      omega (arith, length-append (items_in e) (items_in m), length-append (items_in f) (items_in m), one)

  sequence_counted : {w v : Tree Seq} {cs : List SoughtCall} {r : Ending} → VisitParts IsSought Seq w cs v r → length (items_in v) ≡ length (items_in w)
  sequence_counted of_nothing = refl
  sequence_counted (of_sequence a) = row_counted a

-- ---- steps

abbrev Counts : Step → Type 0
Counts P = (w v : Tree Seq) → P w v → length (items_in v) ≡ length (items_in w)

where_counts : (asked : Bool) (P : Step) → Counts P → Counts (Where asked P)
where_counts true P counts = counts
where_counts false P counts = λ w v is. ap (λ (t : Tree Seq). length (items_in t)) is

turn_counts : (P Q : Step) → Counts P → Counts Q → Counts (InTurn P Q)
turn_counts P Q p q w v (u, first, second) = q u v second ∙ p w u first

visit_counts : (IsSought : Tree OneItem → CallArguments → Type 0) (act : Act) → Counts (λ w v. IsVisited IsSought act w whole v)
visit_counts IsSought act w v (cs, answers, visit) = sequence_counted visit

tags_count : (act : Act) → Counts (TagsVisited act)
tags_count act = visit_counts IsTag act

literals_count : (act : Act) → Counts (LiteralsVisited act)
literals_count act = visit_counts IsApplication act

row_laid : (l : Layout) (m : Tree (Rest Elements)) → length (items_in (laid l m)) ≡ length (items_in m)
unfolding laid
row_laid l (LastTree e s) = one_alike e (laid l e)
row_laid l (MoreTree e s m) =
    let one = one_alike e (laid l e) in
    let more = row_laid l m in
    omega (arith, length-append (items_in e) (items_in m), length-append (items_in (laid l e)) (items_in (laid l m)), one, more)

sequence_laid : (l : Layout) (w : Tree Seq) → length (items_in (laid l w)) ≡ length (items_in w)
unfolding laid
sequence_laid l (NothingTree s) = refl
sequence_laid l (SequenceTree s m) = row_laid l m

layout_counts : (policy : DelimiterPolicy) → Counts (IsLaidOut policy)
layout_counts policy w v is = ap (λ (t : Tree Seq). length (items_in t)) is ∙ sequence_laid (layout policy) w

module _ (f : Tree OneItem → Tree OneItem) where
  each_counted : (m : Tree (Rest Elements)) → length (items_in (each_item f m)) ≡ length (items_in m)
  each_counted (LastTree (ElementTree w) s) = refl
  each_counted (MoreTree (ElementTree w) s m) = ap (λ n. suc n) (each_counted m)

  all_counted : (w : Tree Seq) → length (items_in (with_each f w)) ≡ length (items_in w)
  all_counted (NothingTree s) = refl
  all_counted (SequenceTree s m) = each_counted m

claims_count : Counts HasClaims
claims_count w v is = ap (λ (t : Tree Seq). length (items_in t)) is ∙ all_counted (λ w. (with_claims w).1) w

annotated_count : Counts AnnotatesTags
annotated_count =
    turn_counts (TagsVisited pretty_address) (InTurn (TagsVisited pretty_time) (TagsVisited comment_lang)) (tags_count pretty_address)
    (turn_counts (TagsVisited pretty_time) (TagsVisited comment_lang) (tags_count pretty_time) (tags_count comment_lang))

resolved_count : Counts ResolvesLiterals
resolved_count = turn_counts (LiteralsVisited resolve_address) (LiteralsVisited resolve_time) (literals_count resolve_address) (literals_count resolve_time)

pub steps_count : (o : Options) → Counts (StepsGive o)
steps_count o w v h =
    where_counts (not o.preserve_space) (IsLaidOut indented) (layout_counts indented) h.tagged v h.spaces
    ∙ (where_counts o.apply_999 (LiteralsVisited to_tag999) (literals_count to_tag999) h.counted h.tagged h.others
    ∙ (where_counts o.bignum_from_tags (TagsVisited pretty_bignum) (tags_count pretty_bignum) h.claimed h.counted h.bignums
    ∙ (where_counts o.annotate_ccs HasClaims claims_count h.resolved h.claimed h.claims
    ∙ (where_counts o.aol_to_item ResolvesLiterals resolved_count h.uncommented h.resolved h.literals
    ∙ (where_counts o.remove_comments (IsLaidOut DiscardAll) (layout_counts DiscardAll) h.annotated h.uncommented h.comments
    ∙ where_counts o.annotate_tags AnnotatesTags annotated_count w h.annotated h.tags)))))
