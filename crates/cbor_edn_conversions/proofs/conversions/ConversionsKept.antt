-- The laws.
use Rattle.std.proofs.Common.{List, All, sym, ap, ◌∙◌, subst}
use Rattle.std.proofs.lemmas.List.Elements.{All-weaker}
use Rattle.cbor_edn_model.specs.tree.Items.{Item, Node}
use Rattle.cbor_edn_model.specs.visit.Seeking.{CallArguments, SoughtCall, VisitParts, IsApplication}
use Rattle.cbor_edn_model.specs.tree.Trees.{Rule, Tree, OneItem, Seq, Standalone}
use Rattle.cbor_edn_model.specs.visit.Visits.{Ending, whole}
use Rattle.cbor_edn_conversions.specs.Resolving.{Resolver, no_resolver, means_by, Turns, AnswersBy}
use Rattle.cbor_edn_conversions.specs.VisitedItems.{IsTagNode, IsApplicationNode, TurnsItem}
use Rattle.cbor_edn_conversions.proofs.resolving.OnItems.{application_node}
use Rattle.cbor_edn_conversions.proofs.resolving.Turning.{resolved_again, resolved_in_turn, items_back}
use Rattle.cbor_edn_conversions.specs.Conversions.{Reply, and_then}
use Rattle.cbor_edn_conversions.specs.Resolvers.{TurnsTo, time_resolver, address_resolver, literal_resolver}
use Rattle.cbor_edn_conversions.specs.Times.{resolve_time, pretty_time}
use Rattle.cbor_edn_conversions.specs.Addresses.{resolve_address, pretty_address}
use Rattle.cbor_edn_conversions.specs.Bignums.{pretty_bignum}
use Rattle.cbor_edn_conversions.specs.All.{resolve_all, pretty_all}
use Rattle.cbor_edn_conversions.specs.ConversionLaws.{IsOfApplications, LiteralsStandFor, LiteralsOfItems, PrettyKeeps, BignumsKept, ClaimsKeep, Resolves, PrettyResolvedAgain, PrettyResolvedInTurn, Made, ItemsResolvedBack}
use Rattle.cbor_edn_conversions.proofs.conversions.Calls.{turns_to, then_turns}
use Rattle.cbor_edn_conversions.proofs.conversions.Literals.{time_applications, address_applications, all_applications, time_no_content, address_no_content, all_no_content, time_gives, address_gives, all_gives_times, all_gives_addresses}
use Rattle.cbor_edn_conversions.proofs.conversions.TimesKept.{time_item_turns, time_turns}
use Rattle.cbor_edn_conversions.proofs.conversions.AddressesKept.{address_item_turns, address_turns}
use Rattle.cbor_edn_conversions.proofs.conversions.BignumsKept.{bignum_turns}
use Rattle.cbor_edn_conversions.proofs.conversions.ClaimsKept.{claims_turn}
use Rattle.cbor_edn_conversions.proofs.conversions.LiteralsResolved.{time_is, address_is, time_resolved, time_resolved_kept, time_resolved_alone, address_resolved, address_resolved_kept, address_resolved_alone, all_resolved}
use Rattle.cbor_edn_conversions.proofs.conversions.SoughtCalls.{sought_all}

-- ---- resolvers

pub time_of_applications : IsOfApplications time_resolver
time_of_applications = (time_applications, time_no_content)

pub address_of_applications : IsOfApplications address_resolver
address_of_applications = (address_applications, address_no_content)

pub literals_stand_for : LiteralsStandFor
literals_stand_for p t x i is = (time_is p t x i is, address_is p t x i is)

-- ---- items

pub literals_of_items : LiteralsOfItems
literals_of_items w v wrap = (λ e. time_item_turns literal_resolver all_gives_times wrap w v e, λ version e. address_item_turns literal_resolver all_no_content all_gives_addresses version wrap w v e)

-- ---- calls

pub time_keeps : PrettyKeeps time_resolver pretty_time
time_keeps c is = turns_to time_resolver time_resolver pretty_time c is (time_turns time_resolver time_gives c.arguments c.before)

pub address_keeps : PrettyKeeps address_resolver pretty_address
address_keeps c is = turns_to address_resolver address_resolver pretty_address c is (address_turns address_resolver address_no_content address_gives c.arguments c.before)

pub bignum_keeps : BignumsKept
bignum_keeps R no_content c is = turns_to R R pretty_bignum c is (bignum_turns R no_content c.arguments c.before)

pub time_keeps_all : PrettyKeeps literal_resolver pretty_time
time_keeps_all c is = turns_to literal_resolver literal_resolver pretty_time c is (time_turns literal_resolver all_gives_times c.arguments c.before)

pub address_keeps_all : PrettyKeeps literal_resolver pretty_address
address_keeps_all c is = turns_to literal_resolver literal_resolver pretty_address c is (address_turns literal_resolver all_no_content all_gives_addresses c.arguments c.before)

pub all_turns : (a : CallArguments) (w : Tree OneItem) → TurnsTo literal_resolver literal_resolver w (pretty_all a w).1
all_turns a w =
    then_turns literal_resolver w (and_then (pretty_time a w) (pretty_address a)) (pretty_bignum a)
    (then_turns literal_resolver w (pretty_time a w) (pretty_address a) (time_turns literal_resolver all_gives_times a w) (λ v. address_turns literal_resolver all_no_content all_gives_addresses a v))
    (λ v. bignum_turns literal_resolver all_no_content a v)

pub all_keep : PrettyKeeps literal_resolver pretty_all
all_keep c is = turns_to literal_resolver literal_resolver pretty_all c is (all_turns c.arguments c.before)

pub claims_keep : ClaimsKeep
claims_keep = claims_turn literal_resolver all_gives_times

pub time_resolves : Resolves resolve_time literal_resolver address_resolver
time_resolves c sought is = turns_to literal_resolver address_resolver resolve_time c is (time_resolved c.arguments c.before sought)

pub time_resolves_kept : Resolves resolve_time literal_resolver literal_resolver
time_resolves_kept c sought is = turns_to literal_resolver literal_resolver resolve_time c is (time_resolved_kept c.arguments c.before sought)

pub time_resolves_alone : Resolves resolve_time time_resolver no_resolver
time_resolves_alone c sought is = turns_to time_resolver no_resolver resolve_time c is (time_resolved_alone c.arguments c.before sought)

pub address_resolves : Resolves resolve_address literal_resolver time_resolver
address_resolves c sought is = turns_to literal_resolver time_resolver resolve_address c is (address_resolved c.arguments c.before sought)

pub address_resolves_kept : Resolves resolve_address literal_resolver literal_resolver
address_resolves_kept c sought is = turns_to literal_resolver literal_resolver resolve_address c is (address_resolved_kept c.arguments c.before sought)

pub address_resolves_alone : Resolves resolve_address address_resolver no_resolver
address_resolves_alone c sought is = turns_to address_resolver no_resolver resolve_address c is (address_resolved_alone c.arguments c.before sought)

pub all_resolve : Resolves resolve_all literal_resolver no_resolver
all_resolve c sought is = turns_to literal_resolver no_resolver resolve_all c is (all_resolved c.arguments c.before sought)

-- ---- visits

all_calls : (f : CallArguments → Tree OneItem → Reply) → PrettyKeeps literal_resolver f → (cs : List SoughtCall) → All (AnswersBy f) cs → All (Turns literal_resolver literal_resolver) cs
all_calls f keeps cs h = All-weaker (AnswersBy f) (Turns literal_resolver literal_resolver) keeps cs h

visit_calls : (f : CallArguments → Tree OneItem → Reply) (B A : Resolver) → Resolves f B A → (k : Rule) (w v : Tree k) (cs : List SoughtCall) (r : Ending) → VisitParts IsApplication k w cs v r → All (AnswersBy f) cs → All (Turns B A) cs
visit_calls f B A resolves k w v cs r visit h = sought_all IsApplication (AnswersBy f) (Turns B A) resolves visit h

pub pretty_resolved_again : PrettyResolvedAgain
pretty_resolved_again cs ds r pretty resolve =
    let keep = all_calls pretty_all all_keep cs pretty in (
      λ v fit a b c d is first same second. (resolved_again literal_resolver all_applications cs ds r keep (visit_calls resolve_all literal_resolver no_resolver all_resolve Standalone c d ds whole second resolve)).0 v fit a b c d is first same second,
      λ vs fit a b c d is first same second. (resolved_again literal_resolver all_applications cs ds r keep (visit_calls resolve_all literal_resolver no_resolver all_resolve Seq c d ds whole second resolve)).1 vs fit a b c d is first same second,
    )

pub pretty_resolved_in_turn : PrettyResolvedInTurn
pretty_resolved_in_turn cs ds es r pretty addresses times =
    let keep = all_calls pretty_all all_keep cs pretty in (
      λ v fit a b c d e f is first same second again third.
          (resolved_in_turn literal_resolver time_resolver all_applications time_applications cs ds es r keep (visit_calls resolve_address literal_resolver time_resolver address_resolves Standalone c d ds whole second addresses) (visit_calls resolve_time time_resolver no_resolver time_resolves_alone Standalone e f es whole third times)).0
          v fit a b c d e f is first same second again third,
      λ vs fit a b c d e f is first same second again third.
          (resolved_in_turn literal_resolver time_resolver all_applications time_applications cs ds es r keep (visit_calls resolve_address literal_resolver time_resolver address_resolves Seq c d ds whole second addresses) (visit_calls resolve_time time_resolver no_resolver time_resolves_alone Seq e f es whole third times)).1
          vs fit a b c d e f is first same second again third,
    )

-- ---- items alone

pretty_made : (a : CallArguments) (x y : Node Item) → IsTagNode x a → Made pretty_all a x y → TurnsItem literal_resolver literal_resolver a x y
pretty_made a x y s (w, before, after) u e = ap (λ y. means_by literal_resolver y) (sym after) ∙ all_turns a w u (ap (λ x. means_by literal_resolver x) before ∙ e)

resolve_made : (a : CallArguments) (x y : Node Item) → IsApplicationNode x a → Made resolve_all a x y → TurnsItem literal_resolver no_resolver a x y
resolve_made a x y s (w, before, after) u e =
    let sought : IsApplication w a = (application_node w a).1 (subst (λ x. IsApplicationNode x a) (sym before) s) in
    ap (λ y. means_by no_resolver y) (sym after) ∙ all_resolved a w sought u (ap (λ x. means_by literal_resolver x) before ∙ e)

pub items_resolved_back : ItemsResolvedBack
items_resolved_back = items_back literal_resolver all_applications (Made pretty_all) (Made resolve_all) pretty_made resolve_made
