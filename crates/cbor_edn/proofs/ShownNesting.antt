-- What is shown nests no deeper than what was decoded.
use Rattle.std.proofs.Common.{◌≤◌, ℕ, List, sym, subst, le_trans}
use Rattle.std.proofs.lemmas.List.Elements.{All-weaker}
use Rattle.cbor_edn_model.specs.tree.Items.{Elements, Items, nesting}
use Rattle.cbor_edn_model.specs.visit.Seeking.{CallArguments, IsTag, IsApplication}
use Rattle.cbor_edn_model.specs.tree.Trees.{Tree, OneItem, Rest, Seq, ElementTree, LastTree, MoreTree, NothingTree, SequenceTree, items}
use Rattle.cbor_edn_model.specs.visit.Visits.{whole}
use Rattle.cbor_edn_conversions.specs.Addresses.{resolve_address, pretty_address}
use Rattle.cbor_edn_conversions.specs.Bignums.{pretty_bignum}
use Rattle.cbor_edn_conversions.specs.Claims.{with_claims}
use Rattle.cbor_edn_conversions.specs.Nesting.{IsDirect, StaysDirect}
use Rattle.cbor_edn_conversions.specs.NestingLaws.{VisitKeepsDirect, CallsKeepDirect}
use Rattle.cbor_edn_conversions.specs.Resolvers.{literal_resolver}
use Rattle.cbor_edn_conversions.specs.Resolving.{AnswersBy}
use Rattle.cbor_edn_conversions.specs.Times.{resolve_time, pretty_time}
use Rattle.cbor_edn_conversions.proofs.conversions.Literals.{all_no_content}
use Rattle.cbor_edn_conversions.proofs.nesting.DirectAnswers.{pretty_times_keep, pretty_addresses_keep, pretty_bignums_keep, resolved_times_keep, resolved_addresses_keep}
use Rattle.cbor_edn_conversions.proofs.nesting.DirectClaims.{claims_keep_direct}
use Rattle.cbor_edn_conversions.proofs.nesting.DirectVisits.{tag_visits_keep_direct, literal_visits_keep_direct}
use Rattle.cbor_edn_conversions.proofs.nesting.Meant.{nests_as_meant, decoded_is_direct}
use Rattle.cbor_edn_conversions.proofs.resolving.Resolved.{more_means}
use Rattle.cbor_edn_application.specs.Acts.{Act, IsVisited}
use Rattle.cbor_edn_application.specs.Sequences.{each_item, with_claims_sets}
use Rattle.cbor_edn_command.specs.declared.options.Options.{Options}
use Rattle.cbor_edn.specs.RunLaws.{Shows}
use Rattle.cbor_edn.specs.RunSteps.{HasClaims, StepsGive}
use Rattle.cbor_edn.specs.Runs.{IsDecodedAs}
use Rattle.cbor_edn.proofs.StepsKept.{Keeps, Kept, Means, steps_kept, steps_keep}

abbrev Direct : Items → Type 0
Direct x = IsDirect x

-- whole visits by a function whose calls leave direct items direct
visit_direct : (IsSought : Tree OneItem → CallArguments → Type 0) → VisitKeepsDirect IsSought → (act : Act) → CallsKeepDirect act → Keeps Direct (λ w v. IsVisited IsSought act w whole v)
visit_direct IsSought keep act calls w v h = (keep h.0 whole (All-weaker (AnswersBy act) StaysDirect calls h.0 h.1)).1 w v h.2

row_direct : (m : Tree (Rest Elements)) → IsDirect (items m) → IsDirect (items (each_item (λ w. (with_claims w).1) m))
unfolding items
row_direct (LastTree (ElementTree w) s) d = (claims_keep_direct w d.0, tt)
row_direct (MoreTree (ElementTree w) s m) d = (claims_keep_direct w d.0, row_direct m d.1)

sets_direct : (w : Tree Seq) → IsDirect (items w) → IsDirect (items (with_claims_sets w))
unfolding items
sets_direct (NothingTree s) d = d
sets_direct (SequenceTree s m) d = row_direct m d

claims_direct : Keeps Direct HasClaims
claims_direct w v is d = subst (λ (t : Tree Seq). IsDirect (items t)) (sym is) (sets_direct w d)

direct_kept : Kept Direct
direct_kept = record {
  pretty_addresses = visit_direct IsTag tag_visits_keep_direct pretty_address pretty_addresses_keep;
  pretty_times = visit_direct IsTag tag_visits_keep_direct pretty_time pretty_times_keep;
  addresses = visit_direct IsApplication literal_visits_keep_direct resolve_address resolved_addresses_keep;
  times = visit_direct IsApplication literal_visits_keep_direct resolve_time resolved_times_keep;
  claims = claims_direct;
  bignums = visit_direct IsTag tag_visits_keep_direct pretty_bignum pretty_bignums_keep;
}

-- Decoded items are direct, so those that are shown are; and these mean, where literals stand for values, what the others do.
pub shown_within : (o : Options) (w v : Tree Seq) → Shows o → (limit : ℕ) (bytes : List ℕ) → IsDecodedAs limit bytes w → StepsGive o w v → nesting (items v) ≤ limit
shown_within o w v shows limit bytes d steps =
    let values = d.0.values in
    let direct : Direct (items v) = steps_kept Direct direct_kept o shows.literals_stay w v steps (subst Direct (sym d.0.same_items) (decoded_is_direct.1 values d.0.encoded.0)) in
    let meant : Means values (items v) = steps_keep values o shows.literals_stay w v steps (more_means literal_resolver all_no_content (items w) values d.0.meant) in
    le_trans ((nests_as_meant literal_resolver).1 (items v) values direct meant) d.0.within
