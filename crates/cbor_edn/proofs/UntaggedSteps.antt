-- The steps of a run that visits no tags where none stands, or none that they change.
use Rattle.std.proofs.Common.{◌≡◌, Bool, true, false, [], refl, sym, ap, ◌∙◌, subst}
use Rattle.std.specs.Prelude.{◌&&◌, ◌||◌, not}
use Rattle.std.proofs.Math.Bool.{and-false}
use Rattle.std.proofs.lemmas.Bool.{or_parts, or_left, or_right}
use Rattle.std.proofs.lemmas.List.Elements.{All-nil}
use Rattle.cbor_edn_parts.specs.space.Spacing.{indented}
use Rattle.cbor_edn_parts.specs.declared.space.policy.DelimiterPolicy.TheVariants.{DiscardAll}
use Rattle.cbor_edn_model.specs.layout.Layout.{laid_out}
use Rattle.cbor_edn_model.specs.tree.Trees.{Tree, Seq}
use Rattle.cbor_edn_model.specs.visit.Tagged.{has_tag}
use Rattle.cbor_edn_model.specs.cbor.Value.{Values}
use Rattle.cbor_edn_model.specs.internal.Regular.{sequence_tree_of}
use Rattle.cbor_edn_model.proofs.lemmas.cbor.CborTrees.{row_tree}
use Rattle.cbor_edn_stream.specs.Tags.{values_have_tag}
use Rattle.cbor_edn.specs.ChangedTags.{tags_changed}
use Rattle.cbor_edn.proofs.KeptTags.{visit_leaves}
use Rattle.cbor_edn.proofs.TagActs.{address_acts, time_acts, language_acts, bignum_acts}
use Rattle.cbor_edn_model.proofs.lemmas.visit.Untagged.{sequence_untagged}
use Rattle.cbor_edn_conversions.specs.Addresses.{pretty_address}
use Rattle.cbor_edn_conversions.specs.Annotations.{comment_lang}
use Rattle.cbor_edn_conversions.specs.Bignums.{pretty_bignum}
use Rattle.cbor_edn_conversions.specs.Resolving.{AnswersBy}
use Rattle.cbor_edn_conversions.specs.Tag999.{to_tag999}
use Rattle.cbor_edn_conversions.specs.Times.{pretty_time}
use Rattle.cbor_edn_application.specs.Acts.{Act}
use Rattle.cbor_edn_command.specs.declared.options.Options.{Options}
use Rattle.cbor_edn.specs.RunSteps.{Step, Where, IsLaidOut, TagsVisited, LiteralsVisited, HasClaims, StepsGive, AnnotatesTags, ResolvesLiterals}
use Rattle.cbor_edn.proofs.StepsKept.{not_taken}

pub visited_untagged : (act : Act) (w : Tree Seq) → has_tag w ≡ false → TagsVisited act w w
visited_untagged act w none = ([], All-nil (AnswersBy act), sequence_untagged w none)

pub annotated_untagged : (w : Tree Seq) → has_tag w ≡ false → AnnotatesTags w w
annotated_untagged w none = (w, visited_untagged pretty_address w none, (w, visited_untagged pretty_time w none, visited_untagged comment_lang w none))

-- a step that is asked for, and taken where it does anything
pub where_asked : (asked does : Bool) (P : Step) (w v : Tree Seq) → (asked ≡ true → does ≡ false → P w w) → Where (asked && does) P w v → Where asked P w v
where_asked true true P w v stays h = h
where_asked true false P w v stays h = subst (P w) (sym h) (stays refl refl)
where_asked false does P w v stays h = h

-- no tag stands where a step asks for tags
none_tagged : (asks has tagged : Bool) → tagged ≡ asks && has → asks ≡ true → tagged ≡ false → has ≡ false
none_tagged true has tagged is asked off = sym is ∙ off
none_tagged false has tagged is asked off = absurd cc

pub guarded_steps_give : (o : Options) (w annotated uncommented resolved claimed counted given : Tree Seq) (tagged later : Bool)
    → tagged ≡ (o.annotate_tags || o.bignum_from_tags) && has_tag w
    → later ≡ tagged || (o.remove_comments || (o.aol_to_item || o.annotate_ccs))
    → Where (o.annotate_tags && tagged) AnnotatesTags w annotated
    → Where o.remove_comments (IsLaidOut DiscardAll) annotated uncommented
    → Where o.aol_to_item ResolvesLiterals uncommented resolved
    → Where o.annotate_ccs HasClaims resolved claimed
    → Where (o.bignum_from_tags && later) (TagsVisited pretty_bignum) claimed counted
    → Where o.apply_999 (LiteralsVisited to_tag999) counted given
    → (v : Tree Seq) → Where (not o.preserve_space) (IsLaidOut indented) given v → StepsGive o w v
guarded_steps_give o w annotated uncommented resolved claimed counted given tagged later is later_is tags comments literals claims bignums others v spaces =
    -- where no step is asked for that may put a tag, the first steps leave the items
    let left : later ≡ false → (claimed ≡ w) × (tagged ≡ false) = λ off.
    let first = or_parts tagged (o.remove_comments || (o.aol_to_item || o.annotate_ccs)) (sym later_is ∙ off) in
    let second = or_parts o.remove_comments (o.aol_to_item || o.annotate_ccs) first.1 in
    let third = or_parts o.aol_to_item o.annotate_ccs second.1 in (
      not_taken o.annotate_ccs HasClaims resolved claimed third.1 claims
          ∙ (not_taken o.aol_to_item ResolvesLiterals uncommented resolved third.0 literals
          ∙ (not_taken o.remove_comments (IsLaidOut DiscardAll) annotated uncommented second.0 comments
          ∙ not_taken (o.annotate_tags && tagged) AnnotatesTags w annotated (ap (λ t. o.annotate_tags && t) first.0 ∙ and-false o.annotate_tags) tags)),
      first.0,
    ) in
    let untagged : (o.annotate_tags || o.bignum_from_tags) ≡ true → tagged ≡ false → has_tag w ≡ false =
    none_tagged (o.annotate_tags || o.bignum_from_tags) (has_tag w) tagged is in
    record {
      annotated = annotated;
      uncommented = uncommented;
      resolved = resolved;
      claimed = claimed;
      counted = counted;
      tagged = given;
      tags = where_asked o.annotate_tags tagged AnnotatesTags w annotated (λ asked off. annotated_untagged w (untagged (or_left o.annotate_tags o.bignum_from_tags asked) off)) tags;
      comments = comments;
      literals = literals;
      claims = claims;
      bignums = where_asked o.bignum_from_tags later (TagsVisited pretty_bignum) claimed counted
          (λ asked off. visited_untagged pretty_bignum claimed (subst (λ t. has_tag t ≡ false) (sym (left off).0) (untagged (or_right o.annotate_tags o.bignum_from_tags asked) (left off).1))) bignums;
      others = others;
      spaces = spaces;
    }

-- ---- values that are printed while they are read

-- a step that is asked for leaves the tree, where it does so when it is taken
where_kept : (asked : Bool) (P : Step) (w : Tree Seq) → (asked ≡ true → P w w) → Where asked P w w
where_kept true P w h = h refl
where_kept false P w h = refl

where_not_asked : (asked : Bool) (P : Step) (w : Tree Seq) → asked ≡ false → Where asked P w w
where_not_asked asked P w off = rw off refl

annotated_kept : (bignum : Bool) (vs : Values) → values_have_tag (tags_changed true bignum) vs ≡ false → AnnotatesTags (sequence_tree_of (row_tree vs)) (sequence_tree_of (row_tree vs))
annotated_kept bignum vs none =
    let w = sequence_tree_of (row_tree vs) in
    let numbers = tags_changed true bignum in
    (w, visit_leaves numbers pretty_address (address_acts bignum) vs none, (w, visit_leaves numbers pretty_time (time_acts bignum) vs none, visit_leaves numbers comment_lang (language_acts bignum) vs none))

-- Where no tag stands that a step changes, and no step is asked for that may change other items, the items are laid out alone.
pub kept_steps_give : (o : Options) (vs : Values) (v : Tree Seq) → values_have_tag (tags_changed o.annotate_tags o.bignum_from_tags) vs ≡ false
    → (o.remove_comments || (o.aol_to_item || (o.annotate_ccs || (o.apply_999 || o.preserve_space)))) ≡ false
    → v ≡ laid_out indented (sequence_tree_of (row_tree vs)) → StepsGive o (sequence_tree_of (row_tree vs)) v
kept_steps_give o vs v none off is =
    let w = sequence_tree_of (row_tree vs) in
    let first = or_parts o.remove_comments (o.aol_to_item || (o.annotate_ccs || (o.apply_999 || o.preserve_space))) off in
    let second = or_parts o.aol_to_item (o.annotate_ccs || (o.apply_999 || o.preserve_space)) first.1 in
    let third = or_parts o.annotate_ccs (o.apply_999 || o.preserve_space) second.1 in
    let last = or_parts o.apply_999 o.preserve_space third.1 in
    record {
      annotated = w;
      uncommented = w;
      resolved = w;
      claimed = w;
      counted = w;
      tagged = w;
      tags = where_kept o.annotate_tags AnnotatesTags w (λ asked. annotated_kept o.bignum_from_tags vs (subst (λ (b : Bool). values_have_tag (tags_changed b o.bignum_from_tags) vs ≡ false) asked none));
      comments = where_not_asked o.remove_comments (IsLaidOut DiscardAll) w first.0;
      literals = where_not_asked o.aol_to_item ResolvesLiterals w second.0;
      claims = where_not_asked o.annotate_ccs HasClaims w third.0;
      bignums = where_kept o.bignum_from_tags (TagsVisited pretty_bignum) w
          (λ asked. visit_leaves (tags_changed o.annotate_tags true) pretty_bignum (bignum_acts o.annotate_tags) vs (subst (λ (b : Bool). values_have_tag (tags_changed o.annotate_tags b) vs ≡ false) asked none));
      others = where_not_asked o.apply_999 (LiteralsVisited to_tag999) w last.0;
      spaces = rw last.1 is;
    }
