-- The steps of `show`: that they have one result, what they keep, and that tags are visited where any stand.
use Rattle.std.proofs.Common.{◌≡◌, Bool, true, false, refl, sym, ap, ◌∙◌, subst}
use Rattle.std.specs.Prelude.{◌&&◌, ◌||◌}
use Rattle.std.proofs.Math.Bool.{and-false}
use Rattle.std.proofs.lemmas.Bool.{or_parts}
use Rattle.cbor_edn_parts.specs.space.Spacing.{indented}
use Rattle.cbor_edn_model.specs.tree.Items.{Elements, Items, Element, Then, End}
use Rattle.cbor_edn_model.specs.tree.Trees.{Tree, Rest, Seq, ElementTree, LastTree, MoreTree, NothingTree, SequenceTree, items}
use Rattle.cbor_edn_model.specs.visit.Seeking.{IsTag}
use Rattle.cbor_edn_model.specs.visit.Tagged.{has_tag}
use Rattle.cbor_edn_model.specs.visit.Visits.{whole}
use Rattle.cbor_edn_conversions.specs.Bignums.{pretty_bignum}
use Rattle.cbor_edn_conversions.specs.Cose.{comment_cose}
use Rattle.cbor_edn_conversions.specs.CoseKeys.{with_key_names}
use Rattle.cbor_edn_conversions.specs.MessageClaims.{message_claims}
use Rattle.cbor_edn_conversions.proofs.conversions.CoseKept.{cose_keeps, key_names_keep}
use Rattle.cbor_edn_application.specs.Sequences.{each_item, with_each}
use Rattle.cbor_edn_application.proofs.Unmoved.{visit_unmoved}
use Rattle.cbor_edn_command.specs.declared.file_options.ShowOptions.{ShowOptions}
use Rattle.cbor_edn.specs.RunSteps.{Step, Where, InTurn, IsLaidOut, TagsVisited, HasClaims, AnnotatesTags}
use Rattle.cbor_edn.specs.Show.{ClaimsAnnotated, EmbeddedShown, HasKeyNames, ShowGives}
use Rattle.cbor_edn.proofs.RunsOnce.{Once, annotated_once, claims_once, tags_visited_once, turn_once, where_once}
use Rattle.cbor_edn.proofs.StepsKept.{Keeps, layout_kept, not_taken, same_kept, turn_kept, where_kept}
use Rattle.cbor_edn.proofs.UntaggedSteps.{annotated_untagged, visited_untagged, where_asked}

-- ---- what follows a step

abbrev pub Named : ShowOptions → Step
Named s = Where s.names (TagsVisited comment_cose)

abbrev pub Counted : ShowOptions → Step
Counted s = Where s.bignum_from_tags (TagsVisited pretty_bignum)

abbrev pub Claimed : ShowOptions → Step
Claimed s = Where s.annotate_ccs ClaimsAnnotated

abbrev pub FromNames : ShowOptions → Step
FromNames s = InTurn (Named s) (InTurn (Counted s) (IsLaidOut indented))

abbrev pub FromTags : ShowOptions → Step
FromTags s = InTurn AnnotatesTags (InTurn (Claimed s) (FromNames s))

-- ---- one result

claims_annotated_once : Once ClaimsAnnotated
claims_annotated_once = turn_once HasClaims (InTurn HasKeyNames (TagsVisited message_claims)) claims_once (turn_once HasKeyNames (TagsVisited message_claims) (λ w v u a b. a ∙ sym b) (tags_visited_once message_claims))

from_names_once : (s : ShowOptions) → Once (FromNames s)
from_names_once s =
    turn_once (Named s) (InTurn (Counted s) (IsLaidOut indented)) (where_once s.names (TagsVisited comment_cose) (tags_visited_once comment_cose))
    (turn_once (Counted s) (IsLaidOut indented) (where_once s.bignum_from_tags (TagsVisited pretty_bignum) (tags_visited_once pretty_bignum)) (λ w v u a b. a ∙ sym b))

from_tags_once : (s : ShowOptions) → Once (FromTags s)
from_tags_once s = turn_once AnnotatesTags (InTurn (Claimed s) (FromNames s)) annotated_once (turn_once (Claimed s) (FromNames s) (where_once s.annotate_ccs ClaimsAnnotated claims_annotated_once) (from_names_once s))

pub gives_once : (s : ShowOptions) → Once (ShowGives s)
gives_once s = turn_once (EmbeddedShown s.levels s.limit) (FromTags s) (λ w v u a b. a ∙ sym b) (from_tags_once s)

-- ---- what is kept

-- the names of keys leave the items
row_left : (m : Tree (Rest Elements)) → items (each_item with_key_names m) ≡ items m
unfolding items
row_left (LastTree (ElementTree w) s) = ap (λ x. Then (Element x) End) (key_names_keep w)
row_left (MoreTree (ElementTree w) s m) = ap (λ x. Then (Element x) (items (each_item with_key_names m))) (key_names_keep w) ∙ ap (Then (Element (items w))) (row_left m)

keys_left : (w : Tree Seq) → items (with_each with_key_names w) ≡ items w
unfolding items
keys_left (NothingTree s) = refl
keys_left (SequenceTree s m) = row_left m

-- the steps of `show` that change items
pub record KeptByShow (Q : Items → Type 0) (s : ShowOptions) : Type 0 where
  pub embedded : Keeps Q (EmbeddedShown s.levels s.limit)
  pub tags : Keeps Q AnnotatesTags
  pub claims : Keeps Q HasClaims
  pub messages : Keeps Q (TagsVisited message_claims)
  pub bignums : Keeps Q (TagsVisited pretty_bignum)

module _ (Q : Items → Type 0) where
  names_kept : Keeps Q (TagsVisited comment_cose)
  names_kept w v h = same_kept Q w v (visit_unmoved IsTag comment_cose cose_keeps Seq w v whole h)

  keys_kept : Keeps Q HasKeyNames
  keys_kept w v is = same_kept Q w v (ap (λ (t : Tree Seq). items t) is ∙ keys_left w)

  module _ (s : ShowOptions) (kept : KeptByShow Q s) where
    claims_kept : Keeps Q ClaimsAnnotated
    claims_kept = turn_kept Q HasClaims (InTurn HasKeyNames (TagsVisited message_claims)) kept.claims (turn_kept Q HasKeyNames (TagsVisited message_claims) keys_kept kept.messages)

    from_names_kept : Keeps Q (FromNames s)
    from_names_kept =
        turn_kept Q (Named s) (InTurn (Counted s) (IsLaidOut indented)) (where_kept Q s.names (TagsVisited comment_cose) names_kept)
        (turn_kept Q (Counted s) (IsLaidOut indented) (where_kept Q s.bignum_from_tags (TagsVisited pretty_bignum) kept.bignums) (layout_kept Q indented))

    from_tags_kept : Keeps Q (FromTags s)
    from_tags_kept = turn_kept Q AnnotatesTags (InTurn (Claimed s) (FromNames s)) kept.tags (turn_kept Q (Claimed s) (FromNames s) (where_kept Q s.annotate_ccs ClaimsAnnotated claims_kept) from_names_kept)

    pub gives_kept : Keeps Q (ShowGives s)
    gives_kept = turn_kept Q (EmbeddedShown s.levels s.limit) (FromTags s) kept.embedded from_tags_kept

-- ---- where no tag stands

pub guarded_show_gives : (s : ShowOptions) (w shown annotated claimed named counted : Tree Seq) (tagged later : Bool)
    → tagged ≡ has_tag shown
    → later ≡ tagged || s.annotate_ccs
    → EmbeddedShown s.levels s.limit w shown
    → Where (true && tagged) AnnotatesTags shown annotated
    → Where s.annotate_ccs ClaimsAnnotated annotated claimed
    → Where (s.names && later) (TagsVisited comment_cose) claimed named
    → Where (s.bignum_from_tags && later) (TagsVisited pretty_bignum) named counted
    → (v : Tree Seq) → IsLaidOut indented counted v → ShowGives s w v
guarded_show_gives s w shown annotated claimed named counted tagged later is later_is embedded tags claims names bignums v spaces =
    -- where no step may put a tag, all of them leave the tree
    let left : later ≡ false → (claimed ≡ shown) × (has_tag shown ≡ false) = λ off.
    let parts = or_parts tagged s.annotate_ccs (sym later_is ∙ off) in (
      not_taken s.annotate_ccs ClaimsAnnotated annotated claimed parts.1 claims ∙ not_taken (true && tagged) AnnotatesTags shown annotated parts.0 tags,
      sym is ∙ parts.0,
    ) in
    let untagged : later ≡ false → has_tag claimed ≡ false = λ off. subst (λ t. has_tag t ≡ false) (sym (left off).0) (left off).1 in
    let named_too : later ≡ false → has_tag named ≡ false = λ off.
    subst (λ t. has_tag t ≡ false) (sym (not_taken (s.names && later) (TagsVisited comment_cose) claimed named (ap (λ b. s.names && b) off ∙ and-false s.names) names)) (untagged off) in (
      shown,
      embedded,
      (
        annotated,
        where_asked true tagged AnnotatesTags shown annotated (λ asked off. annotated_untagged shown (sym is ∙ off)) tags,
        (
          claimed,
          claims,
          (
            named,
            where_asked s.names later (TagsVisited comment_cose) claimed named (λ asked off. visited_untagged comment_cose claimed (untagged off)) names,
            (counted, where_asked s.bignum_from_tags later (TagsVisited pretty_bignum) named counted (λ asked off. visited_untagged pretty_bignum named (named_too off)) bignums, spaces),
          ),
        ),
      ),
    )
