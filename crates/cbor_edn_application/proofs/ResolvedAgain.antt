-- The laws of visits that convert.
use Rattle.std.proofs.Common.{◌≡◌, Some, sym, ap, ◌∙◌}
use Rattle.cbor_edn_model.specs.visit.Seeking.{CallArguments, IsTag, IsApplication}
use Rattle.cbor_edn_model.specs.cbor.Meaning.{MeaningOf, means}
use Rattle.cbor_edn_model.specs.tree.Items.{Sort, Node}
use Rattle.cbor_edn_model.specs.tree.Trees.{Rule, Tree, OneItem, Seq, Standalone, items}
use Rattle.cbor_edn_model.specs.visit.Visits.{Ending, whole}
use Rattle.cbor_edn_conversions.specs.Addresses.{resolve_address, pretty_address}
use Rattle.cbor_edn_conversions.specs.All.{resolve_all, pretty_all}
use Rattle.cbor_edn_conversions.specs.Annotations.{comment_lang}
use Rattle.cbor_edn_conversions.specs.Bignums.{pretty_bignum}
use Rattle.cbor_edn_conversions.specs.Cose.{comment_cose}
use Rattle.cbor_edn_conversions.specs.MessageClaims.{message_claims}
use Rattle.cbor_edn_conversions.specs.Resolvers.{TurnsTo, time_resolver, literal_resolver}
use Rattle.cbor_edn_conversions.specs.Resolving.{no_resolver, means_by}
use Rattle.cbor_edn_conversions.specs.Times.{resolve_time, pretty_time}
use Rattle.cbor_edn_conversions.proofs.conversions.AddressesKept.{address_turns}
use Rattle.cbor_edn_conversions.proofs.conversions.BignumsKept.{bignum_turns}
use Rattle.cbor_edn_conversions.proofs.conversions.ConversionsKept.{all_turns}
use Rattle.cbor_edn_conversions.proofs.conversions.CoseKept.{cose_keeps}
use Rattle.cbor_edn_conversions.proofs.conversions.Literals.{time_applications, all_applications, all_no_content, all_gives_times, all_gives_addresses}
use Rattle.cbor_edn_conversions.proofs.conversions.LiteralsResolved.{time_resolved_kept, time_resolved_alone, address_resolved, address_resolved_kept, all_resolved}
use Rattle.cbor_edn_conversions.proofs.conversions.MessagesKept.{message_claims_keep}
use Rattle.cbor_edn_conversions.proofs.conversions.TimesKept.{time_turns}
use Rattle.cbor_edn_conversions.proofs.nesting.DirectAnswers.{language_keeps_items}
use Rattle.cbor_edn_conversions.proofs.resolving.Resolved.{none_means, more_means}
use Rattle.cbor_edn_conversions.proofs.resolving.Turning.{resolved_again, both_differ, none_applications, tags_visited_once, literals_visited_once}
use Rattle.cbor_edn_conversions.proofs.resolving.VisitsKept as kept
use Rattle.cbor_edn_conversions.proofs.resolving.VisitsKept.{Below, visit_resolves}
use Rattle.cbor_edn_conversions.proofs.resolving.Keeping.{KeptOf}
use Rattle.cbor_edn_application.specs.Acts.{Act, IsVisited}
use Rattle.cbor_edn_application.specs.VisitLaws.{SequencesResolvedAgain, ItemsResolvedAgain, SequencesMeanAgain, ItemsMeanAgain, VisitedOnce, VisitsKeep, VisitsLeave, LiteralsResolvedInTurn}
use Rattle.cbor_edn_application.proofs.Unmoved.{visit_unmoved}
use Rattle.cbor_edn_application.proofs.VisitsTurn.{whole_calls, ended_calls, visit_keeps}

-- ---- visits that keep

-- what a function leaves of a tag
tags_keep : (act : Act) → ((a : CallArguments) (w : Tree OneItem) → TurnsTo literal_resolver literal_resolver w (act a w).1) → VisitsKeep IsTag act
tags_keep act turns = visit_keeps IsTag act literal_resolver (λ a w s. turns a w)

pub pretty_times_keep : VisitsKeep IsTag pretty_time
pretty_times_keep = tags_keep pretty_time (time_turns literal_resolver all_gives_times)

pub pretty_addresses_keep : VisitsKeep IsTag pretty_address
pretty_addresses_keep = tags_keep pretty_address (address_turns literal_resolver all_no_content all_gives_addresses)

pub pretty_bignums_keep : VisitsKeep IsTag pretty_bignum
pretty_bignums_keep = tags_keep pretty_bignum (bignum_turns literal_resolver all_no_content)

pub resolved_times_keep : VisitsKeep IsApplication resolve_time
resolved_times_keep = visit_keeps IsApplication resolve_time literal_resolver time_resolved_kept

pub resolved_addresses_keep : VisitsKeep IsApplication resolve_address
resolved_addresses_keep = visit_keeps IsApplication resolve_address literal_resolver address_resolved_kept

pub languages_leave : VisitsLeave IsTag comment_lang
languages_leave w v r h = visit_unmoved IsTag comment_lang language_keeps_items Seq w v r h

pub cose_leaves : VisitsLeave IsTag comment_cose
cose_leaves w v r h = visit_unmoved IsTag comment_cose cose_keeps Seq w v r h

pub message_claims_kept : VisitsKeep IsTag message_claims
message_claims_kept = tags_keep message_claims message_claims_keep

-- ---- visits that resolve

pub sequences_resolved_again : SequencesResolvedAgain
sequences_resolved_again vs fit a b c d r is first same second =
    (resolved_again literal_resolver all_applications first.0 second.0 r (ended_calls IsTag pretty_all literal_resolver (λ a w s. all_turns a w) r first) (whole_calls IsApplication resolve_all literal_resolver no_resolver all_resolved second)).1
    vs fit a b c d is first.2 same second.2

pub items_resolved_again : ItemsResolvedAgain
items_resolved_again v fit a b c d r is first same second =
    (resolved_again literal_resolver all_applications first.0 second.0 r (ended_calls IsTag pretty_all literal_resolver (λ a w s. all_turns a w) r first) (whole_calls IsApplication resolve_all literal_resolver no_resolver all_resolved second)).0
    v fit a b c d is first.2 same second.2

pub resolved_in_turn : LiteralsResolvedInTurn
resolved_in_turn w u v addresses times xs e =
    let rest = visit_resolves literal_resolver time_resolver (both_differ literal_resolver time_resolver all_applications time_applications) addresses.0 (whole_calls IsApplication resolve_address literal_resolver time_resolver address_resolved addresses) Seq w u addresses.2 xs e in
    sym (none_means (items v)) ∙ visit_resolves time_resolver no_resolver (both_differ time_resolver no_resolver time_applications none_applications) times.0 (whole_calls IsApplication resolve_time time_resolver no_resolver time_resolved_alone times) Seq u v times.2 xs rest

-- What was meant before is meant where literals stand for values; the visit of tags keeps that, and that of literals leaves none to stand for
-- one.
module _ (k : Rule) (a b c d : Tree k) (r : Ending) (pretty : IsVisited IsTag pretty_all a r b) (resolved : IsVisited IsApplication resolve_all c whole d) where
  pretty_keeps : KeptOf Below literal_resolver literal_resolver k (items a) (items b)
  pretty_keeps = kept.visit_keeps IsTag literal_resolver pretty.0 r (ended_calls IsTag pretty_all literal_resolver (λ a w s. all_turns a w) r pretty) k a b pretty.2

  none_left : KeptOf Below literal_resolver no_resolver k (items c) (items d)
  none_left = visit_resolves literal_resolver no_resolver (both_differ literal_resolver no_resolver all_applications none_applications) resolved.0 (whole_calls IsApplication resolve_all literal_resolver no_resolver all_resolved resolved) k c d resolved.2

-- in two steps, over what items mean before, between and behind them
meant_again : {s : Sort} (x y z w : Node s) (v : MeaningOf s) → means x ≡ Some v → Below (MeaningOf s) (means_by literal_resolver x) (means_by literal_resolver y)
    → y ≡ z → Below (MeaningOf s) (means_by literal_resolver z) (means_by no_resolver w) → means w ≡ Some v
meant_again x y z w v meant kept same resolved =
    sym (none_means w) ∙ resolved v (ap (λ u. means_by literal_resolver u) (sym same) ∙ kept v (more_means literal_resolver all_no_content x v meant))

pub sequences_mean_again : SequencesMeanAgain
sequences_mean_again a b c d r xs meant first same second =
    meant_again (items a) (items b) (items c) (items d) xs meant (pretty_keeps Seq a b c d r first second) same (none_left Seq a b c d r first second)

pub items_mean_again : ItemsMeanAgain
items_mean_again a b c d r x meant first same second =
    meant_again (items a) (items b) (items c) (items d) x meant (pretty_keeps Standalone a b c d r first second) same (none_left Standalone a b c d r first second)

-- ---- one result

pub tags_once : VisitedOnce IsTag
tags_once act = (
  λ w v u a b. ((tags_visited_once act a.0 b.0 a.1 b.1).0 w v u a.2 b.2).0,
  λ w v u a b. ((tags_visited_once act a.0 b.0 a.1 b.1).1 w v u a.2 b.2).0,
)

pub literals_once : VisitedOnce IsApplication
literals_once act = (
  λ w v u a b. ((literals_visited_once act a.0 b.0 a.1 b.1).0 w v u a.2 b.2).0,
  λ w v u a b. ((literals_visited_once act a.0 b.0 a.1 b.1).1 w v u a.2 b.2).0,
)
