-- `[1(42), 52(h'c0000201')]`, prettified and resolved again: the laws are not empty.
use Rattle.std.specs.Fmt.{digits}
use Rattle.std.specs.Net.Reader.{read_ipv4, read_octet, read_number}
use Rattle.std.proofs.Common.{ℕ, ◌<◌, ◌≡◌, pos, true, codes, List, [], ◌∷◌, All, Some, None, refl, arith, lit<}
use Rattle.std.proofs.lemmas.List.Elements.{All-nil, All-cons, All-from_recursion}
use Rattle.hex.specs.Hex.{encode_with}
use Rattle.cbor_edn_parts.specs.internal.NumberReading.{integer_of}
use Rattle.cbor_edn_parts.specs.internal.ContentReading.{hex_bytes}
use Rattle.cbor_edn_parts.specs.internal.LiteralTokens.{decoded, prefix_of, quoted_of}
use Rattle.cbor_edn_parts.specs.declared.string.StringKind.TheVariants.{Bytes}
use Rattle.cbor_edn_parts.specs.Written.{application_literal}
use Rattle.cbor_edn_parts.proofs.lemmas.string.WrittenLiterals.{application_is}
use Rattle.cbor_edn_model.specs.cbor.Decoded.{alone}
use Rattle.cbor_edn_model.specs.visit.Depth.{depth}
use Rattle.cbor_edn_model.specs.declared.cbor.heads.Width.TheVariants.{Immediate, One}
use Rattle.cbor_edn_model.specs.cbor.Meaning.{means}
use Rattle.cbor_edn_model.specs.visit.Seeking.{number, prefix_and_text, IsTag, IsApplication, SoughtCall, passed, entered, stayed, VisitParts, of_list, of_string, of_last_piece, of_literal, of_all_inside, of_more, of_last, of_element, of_standalone}
use Rattle.cbor_edn_model.specs.tree.Trees.{Tree, OneItem, Standalone, LiteralTree, items}
use Rattle.cbor_edn_model.specs.cbor.Value.{Value, value, no_values, array, tag, unsigned, string, head, Fits}
use Rattle.cbor_edn_model.specs.visit.Visits.{fine, whole}
use Rattle.cbor_edn_times_and_addresses.specs.internal.AddressReading.{address_of}
use Rattle.cbor_edn_times_and_addresses.specs.internal.TimeReading.{offset_length}
use Rattle.cbor_edn_times_and_addresses.specs.internal.TimeWriting.{padded}
use Rattle.cbor_edn_times_and_addresses.specs.internal.TimeComputing.{day_number_of, day_of, date_of, minutes_of, clock_of, fraction_of, offset_of, tail_of, instant_of, march_year, march_day, time_text_from, instant_number}
use Rattle.cbor_edn_conversions.specs.Resolving.{AnswersBy}
use Rattle.cbor_edn_conversions.specs.Conversions.{tag_tree, integer_tree, bytes_tree, pair_tree, literal_tree}
use Rattle.cbor_edn_conversions.specs.Times.{pretty_time, time_literal, resolve_time}
use Rattle.cbor_edn_conversions.specs.Addresses.{pretty_address, address_literal, resolve_address}
use Rattle.cbor_edn_conversions.specs.Bignums.{pretty_bignum}
use Rattle.cbor_edn_conversions.specs.All.{pretty_all, resolve_all}
use Rattle.cbor_edn_conversions.proofs.conversions.Literals.{time_prefix_is, address_prefix_is}
use Rattle.cbor_edn_conversions.proofs.conversions.ConversionsKept.{pretty_resolved_again}

abbrev time : List ℕ
time = codes "1970-01-01T00:00:42+00:00"

abbrev address : List ℕ
address = codes "192.0.2.1"

abbrev octets : List ℕ
octets = 192 ∷ 0 ∷ 2 ∷ 1 ∷ []

abbrev time_tag : Tree OneItem
time_tag = tag_tree 1 (integer_tree (pos 42))

abbrev address_tag : Tree OneItem
address_tag = tag_tree 52 (bytes_tree octets)

abbrev time_aol : Tree OneItem
time_aol = literal_tree (codes "DT") time

abbrev address_aol : Tree OneItem
address_aol = literal_tree (codes "IP") address

abbrev v : Value
v = array (Some Immediate) (value (tag Immediate 1 (unsigned One 42)) (value (tag One 52 (string Bytes Immediate octets)) no_values))

-- ---- the calls

abbrev pretty_first : SoughtCall
pretty_first = record { arguments = number 1; before = time_tag; answer = fine; after = time_aol }

abbrev pretty_second : SoughtCall
pretty_second = record { arguments = number 52; before = address_tag; answer = fine; after = address_aol }

abbrev resolve_first : SoughtCall
resolve_first = record { arguments = prefix_and_text (codes "DT") time; before = time_aol; answer = fine; after = time_tag }

abbrev resolve_second : SoughtCall
resolve_second = record { arguments = prefix_and_text (codes "IP") address; before = address_aol; answer = fine; after = address_tag }

first_pretty : AnswersBy pretty_all pretty_first
unfolding pretty_time pretty_address pretty_bignum time_literal integer_of digits padded march_year march_day time_text_from
first_pretty = (refl, refl)

second_pretty : AnswersBy pretty_all pretty_second
unfolding pretty_time pretty_address pretty_bignum address_literal items means decoded prefix_of quoted_of hex_bytes head digits address_of read_ipv4 read_octet read_number encode_with
second_pretty = (refl, refl)

first_resolved : AnswersBy resolve_all resolve_first
unfolding resolve_time resolve_address day_number_of day_of date_of minutes_of clock_of fraction_of offset_of tail_of offset_length instant_of instant_number
first_resolved = (refl, refl)

second_resolved : AnswersBy resolve_all resolve_second
unfolding resolve_time resolve_address address_of read_ipv4 read_octet read_number
second_resolved = (refl, refl)

-- ---- the visits

time_bytes : All (λ b. b < 256) time
time_bytes = All-from_recursion (λ b. b < 256) time (omega arith)

address_bytes : All (λ b. b < 256) address
address_bytes = All-from_recursion (λ b. b < 256) address (omega arith)

octet_bytes : All (λ b. b < 256) octets
octet_bytes = All-from_recursion (λ b. b < 256) octets (omega arith)

pretty_visit : VisitParts IsTag Standalone (alone (pair_tree time_tag address_tag)) (pretty_first ∷ pretty_second ∷ []) (alone (pair_tree time_aol address_aol)) whole
unfolding depth
pretty_visit =
    of_standalone (passed (λ a is. no_tag a is) (of_list (of_all_inside (of_more
    (of_element (entered {c = pretty_first} refl (λ e. cc) (omega arith) (of_string (of_last_piece of_literal))))
    (of_last (of_element (entered {c = pretty_second} refl (λ e. cc) (omega arith) (of_string (of_last_piece of_literal)))))
    refl))))
  where
    no_tag : (a : _) → IsTag (pair_tree time_tag address_tag) a → ⊥
    no_tag (number n) is = absurd cc
    no_tag (prefix_and_text p t) is = is

resolve_visit : VisitParts IsApplication Standalone (alone (pair_tree time_aol address_aol)) (resolve_first ∷ resolve_second ∷ []) (alone (pair_tree time_tag address_tag)) whole
unfolding depth
resolve_visit =
    of_standalone (passed (λ a is. no_literal a is) (of_list (of_all_inside (of_more
    (of_element (stayed {c = resolve_first} (LiteralTree (application_literal (codes "DT") time) None, refl, application_is (codes "DT") time (time_prefix_is true) time_bytes) (λ e. cc) (omega arith)))
    (of_last (of_element (stayed {c = resolve_second} (LiteralTree (application_literal (codes "IP") address) None, refl, application_is (codes "IP") address (address_prefix_is true) address_bytes) (λ e. cc) (omega arith))))
    refl))))
  where
    no_literal : (a : _) → IsApplication (pair_tree time_aol address_aol) a → ⊥
    no_literal (number n) is = is
    no_literal (prefix_and_text p t) is = let none = is.1 in absurd cc

fits : Fits v
fits = (lit< tt, ((lit< tt, lit< tt), ((lit< tt, (lit< tt, octet_bytes, refl)), tt)))

back : means (items (alone (pair_tree time_tag address_tag))) ≡ Some v
unfolding items
back =
    (pretty_resolved_again (pretty_first ∷ pretty_second ∷ []) (resolve_first ∷ resolve_second ∷ []) whole
    (All-cons (AnswersBy pretty_all) pretty_first (pretty_second ∷ []) first_pretty (All-cons (AnswersBy pretty_all) pretty_second [] second_pretty (All-nil (AnswersBy pretty_all))))
    (All-cons (AnswersBy resolve_all) resolve_first (resolve_second ∷ []) first_resolved (All-cons (AnswersBy resolve_all) resolve_second [] second_resolved (All-nil (AnswersBy resolve_all))))).0
    v
    fits
    (alone (pair_tree time_tag address_tag))
    (alone (pair_tree time_aol address_aol))
    (alone (pair_tree time_aol address_aol))
    (alone (pair_tree time_tag address_tag))
    refl
    pretty_visit
    refl
    resolve_visit
