-- What the steps of a run keep of items, and what they make of them.
use Rattle.std.proofs.Common.{◌≡◌, Bool, true, false, Some, refl, sym, ap, subst, ◌∙◌}
use Rattle.std.specs.Prelude.{not}
use Rattle.cbor_edn_parts.specs.declared.space.policy.DelimiterPolicy.{DelimiterPolicy}
use Rattle.cbor_edn_parts.specs.declared.space.policy.DelimiterPolicy.TheVariants.{DiscardAll}
use Rattle.cbor_edn_parts.specs.space.Spacing.{indented}
use Rattle.cbor_edn_model.specs.tree.Items.{Items}
use Rattle.cbor_edn_model.specs.layout.Layout.{laid_out}
use Rattle.cbor_edn_model.specs.cbor.Meaning.{means}
use Rattle.cbor_edn_model.specs.visit.Seeking.{IsApplication}
use Rattle.cbor_edn_model.specs.tree.Trees.{Tree, Seq, items}
use Rattle.cbor_edn_model.specs.cbor.Value.{Values}
use Rattle.cbor_edn_model.specs.visit.Visits.{whole}
use Rattle.cbor_edn_model.proofs.lemmas.layout.Layouts.{keeps_items}
use Rattle.cbor_edn_conversions.specs.Addresses.{resolve_address, pretty_address}
use Rattle.cbor_edn_conversions.specs.Annotations.{comment_lang}
use Rattle.cbor_edn_conversions.specs.Bignums.{pretty_bignum}
use Rattle.cbor_edn_conversions.specs.Resolvers.{literal_resolver}
use Rattle.cbor_edn_conversions.specs.ResolvingLaws.{NeverRefused}
use Rattle.cbor_edn_conversions.specs.Resolving.{means_by}
use Rattle.cbor_edn_conversions.specs.Tag999.{to_tag999}
use Rattle.cbor_edn_conversions.specs.Times.{resolve_time, pretty_time}
use Rattle.cbor_edn_conversions.proofs.conversions.AnswersGiven.{resolve_time_given, resolve_address_given}
use Rattle.cbor_edn_conversions.proofs.resolving.Existing.{literal_visits_exist}
use Rattle.cbor_edn_application.specs.Acts.{Act, IsVisited}
use Rattle.cbor_edn_application.proofs.ClaimsSetsKept.{claims_sets_keep}
use Rattle.cbor_edn_application.proofs.ResolvedAgain.{pretty_times_keep, pretty_addresses_keep, pretty_bignums_keep, resolved_times_keep, resolved_addresses_keep, languages_leave, resolved_in_turn}
use Rattle.cbor_edn_command.specs.declared.options.Options.{Options}
use Rattle.cbor_edn.specs.RunLaws.{Encodes}
use Rattle.cbor_edn.specs.RunSteps.{Step, Where, InTurn, IsLaidOut, TagsVisited, LiteralsVisited, AnnotatesTags, ResolvesLiterals, HasClaims, StepsGive}

-- ---- the steps by themselves

-- a step that is taken, and one that is not
taken : (b : Bool) (P : Step) (w v : Tree Seq) → b ≡ true → Where b P w v → P w v
taken b P w v e h = subst (λ b. Where b P w v) e h

pub not_taken : (b : Bool) (P : Step) (w v : Tree Seq) → b ≡ false → Where b P w v → v ≡ w
not_taken b P w v e h = subst (λ b. Where b P w v) e h

stays : (b : Bool) (P : Step) (w : Tree Seq) → b ≡ false → Where b P w w
stays b P w e = subst (λ b. Where b P w w) (sym e) refl

-- ---- what is kept

pub laid_items : (policy : DelimiterPolicy) (w v : Tree Seq) → IsLaidOut policy w v → items v ≡ items w
laid_items policy w v is = ap (λ (t : Tree Seq). items t) is ∙ keeps_items Seq policy w

-- What holds of the items before a step holds of those that it leaves.
abbrev pub Keeps : (Items → Type 0) → Step → Type 0
Keeps Q P = (w v : Tree Seq) → P w v → Q (items w) → Q (items v)

-- the steps that change items, but the one that puts tags in the place of other literals
pub record Kept (Q : Items → Type 0) : Type 0 where
  pub pretty_addresses : Keeps Q (TagsVisited pretty_address)
  pub pretty_times : Keeps Q (TagsVisited pretty_time)
  pub addresses : Keeps Q (LiteralsVisited resolve_address)
  pub times : Keeps Q (LiteralsVisited resolve_time)
  pub claims : Keeps Q HasClaims
  pub bignums : Keeps Q (TagsVisited pretty_bignum)

module _ (Q : Items → Type 0) where
  pub same_kept : (w v : Tree Seq) → items v ≡ items w → Q (items w) → Q (items v)
  same_kept w v same h = subst Q (sym same) h

  pub where_kept : (b : Bool) (P : Step) → Keeps Q P → Keeps Q (Where b P)
  where_kept true P keeps w v h = keeps w v h
  where_kept false P keeps w v h = same_kept w v (ap (λ (t : Tree Seq). items t) h)

  pub turn_kept : (P R : Step) → Keeps Q P → Keeps Q R → Keeps Q (InTurn P R)
  turn_kept P R p r w v h q = r h.0 v h.2 (p w h.0 h.1 q)

  pub layout_kept : (policy : DelimiterPolicy) → Keeps Q (IsLaidOut policy)
  layout_kept policy w v is = same_kept w v (laid_items policy w v is)

  pub languages_kept : Keeps Q (TagsVisited comment_lang)
  languages_kept w v h = same_kept w v (languages_leave w v whole h)

  module _ (kept : Kept Q) where
    pub tags_kept : Keeps Q AnnotatesTags
    tags_kept = turn_kept (TagsVisited pretty_address) (InTurn (TagsVisited pretty_time) (TagsVisited comment_lang)) kept.pretty_addresses (turn_kept (TagsVisited pretty_time) (TagsVisited comment_lang) kept.pretty_times languages_kept)

    literals_kept : Keeps Q ResolvesLiterals
    literals_kept = turn_kept (LiteralsVisited resolve_address) (LiteralsVisited resolve_time) kept.addresses kept.times

    -- So the steps keep it together, where that one is not taken.
    pub steps_kept : (o : Options) → o.apply_999 ≡ false → Keeps Q (StepsGive o)
    steps_kept o others w v h q =
        let annotated = where_kept o.annotate_tags AnnotatesTags tags_kept w h.annotated h.tags q in
        let uncommented = where_kept o.remove_comments (IsLaidOut DiscardAll) (layout_kept DiscardAll) h.annotated h.uncommented h.comments annotated in
        let resolved = where_kept o.aol_to_item ResolvesLiterals literals_kept h.uncommented h.resolved h.literals uncommented in
        let claimed = where_kept o.annotate_ccs HasClaims kept.claims h.resolved h.claimed h.claims resolved in
        let counted = where_kept o.bignum_from_tags (TagsVisited pretty_bignum) kept.bignums h.claimed h.counted h.bignums claimed in
        let same : h.tagged ≡ h.counted = not_taken o.apply_999 (LiteralsVisited to_tag999) h.counted h.tagged others h.others in
        where_kept (not o.preserve_space) (IsLaidOut indented) (layout_kept indented) h.tagged v h.spaces (same_kept h.counted h.tagged (ap (λ (t : Tree Seq). items t) same) counted)

-- what items mean where literals stand for values
abbrev pub Means : Values → Items → Type 0
Means xs x = means_by literal_resolver x ≡ Some xs

pub means_kept : (xs : Values) → Kept (Means xs)
means_kept xs = record {
  pretty_addresses = λ w v h. pretty_addresses_keep w v whole h xs;
  pretty_times = λ w v h. pretty_times_keep w v whole h xs;
  addresses = λ w v h. resolved_addresses_keep w v whole h xs;
  times = λ w v h. resolved_times_keep w v whole h xs;
  claims = λ w v is e. ap (λ (t : Tree Seq). means_by literal_resolver (items t)) is ∙ claims_sets_keep w xs e;
  bignums = λ w v h. pretty_bignums_keep w v whole h xs;
}

pub steps_keep : (xs : Values) (o : Options) → o.apply_999 ≡ false → Keeps (Means xs) (StepsGive o)
steps_keep xs = steps_kept (Means xs) (means_kept xs)

-- ---- what is encoded

pub where_items : (b : Bool) (policy : DelimiterPolicy) (w v : Tree Seq) → Where b (IsLaidOut policy) w v → items v ≡ items w
where_items true policy w v is = laid_items policy w v is
where_items false policy w v is = ap (λ (t : Tree Seq). items t) is

-- Where literals are resolved, items mean what they meant where these stood for values.
pub resolved_means : (xs : Values) (o : Options) → Encodes o → (w v : Tree Seq) → StepsGive o w v → Means xs (items w) → means (items v) ≡ Some xs
resolved_means xs o encodes w v h e =
    let first : items h.uncommented ≡ items w = where_items o.remove_comments DiscardAll h.annotated h.uncommented h.comments ∙ ap (λ (t : Tree Seq). items t) (not_taken o.annotate_tags AnnotatesTags w h.annotated encodes.tags_stay h.tags) in
    let visits = taken o.aol_to_item ResolvesLiterals h.uncommented h.resolved encodes.literals h.literals in
    let claimed : h.claimed ≡ h.resolved = not_taken o.annotate_ccs HasClaims h.resolved h.claimed encodes.no_claims h.claims in
    let counted : h.counted ≡ h.claimed = not_taken o.bignum_from_tags (TagsVisited pretty_bignum) h.claimed h.counted encodes.bignums_stay h.bignums in
    let tagged : h.tagged ≡ h.counted = not_taken o.apply_999 (LiteralsVisited to_tag999) h.counted h.tagged encodes.others_stay h.others in
    let last : items v ≡ items h.resolved = where_items (not o.preserve_space) indented h.tagged v h.spaces ∙ ap (λ (t : Tree Seq). items t) (tagged ∙ (counted ∙ claimed)) in
    ap means last ∙ resolved_in_turn h.uncommented visits.0 h.resolved visits.1 visits.2 xs (ap (λ x. means_by literal_resolver x) first ∙ e)

-- ---- that there is a result

laid_where : (b : Bool) (policy : DelimiterPolicy) (w : Tree Seq) → (v : Tree Seq) × Where b (IsLaidOut policy) w v
laid_where true policy w = (laid_out policy w, refl)
laid_where false policy w = (w, refl)

visited : (act : Act) → NeverRefused act → (w : Tree Seq) → (v : Tree Seq) × IsVisited IsApplication act w whole v
visited act answers w = let h = (literal_visits_exist act answers).1 w in (h.0, (h.1, h.2, h.3))

-- Where tags, claims and bignums stay, each tree has one.
pub steps_give : (o : Options) → Encodes o → (w : Tree Seq) → (v : Tree Seq) × StepsGive o w v
steps_give o encodes w =
    let first = laid_where o.remove_comments DiscardAll w in
    let addresses = visited resolve_address resolve_address_given first.0 in
    let times = visited resolve_time resolve_time_given addresses.0 in
    let last = laid_where (not o.preserve_space) indented times.0 in (
      last.0,
      record {
        annotated = w;
        uncommented = first.0;
        resolved = times.0;
        claimed = times.0;
        counted = times.0;
        tagged = times.0;
        tags = stays o.annotate_tags AnnotatesTags w encodes.tags_stay;
        comments = first.1;
        literals = subst (λ b. Where b ResolvesLiterals first.0 times.0) (sym encodes.literals) (addresses.0, addresses.1, times.1);
        claims = stays o.annotate_ccs HasClaims times.0 encodes.no_claims;
        bignums = stays o.bignum_from_tags (TagsVisited pretty_bignum) times.0 encodes.bignums_stay;
        others = stays o.apply_999 (LiteralsVisited to_tag999) times.0 encodes.others_stay;
        spaces = last.1;
      },
    )
