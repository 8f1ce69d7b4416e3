-- The steps of a run have one result, and an input has one output.
use Rattle.std.proofs.Common.{◌≡◌, ℕ, List, [], ◌∷◌, ◌++◌, Bool, true, false, refl, sym, ap, subst, ◌∙◌}
use Rattle.std.specs.Prelude.{not, if◌then◌else◌, None, Result, Ok}
use Rattle.cbor_edn_parts.specs.declared.space.policy.DelimiterPolicy.TheVariants.{DiscardAll}
use Rattle.cbor_edn_parts.specs.space.Spacing.{indented}
use Rattle.cbor_edn_model.specs.cbor.Decoded.{items_of}
use Rattle.cbor_edn_model.specs.tree.Trees.{Tree, Seq}
use Rattle.cbor_edn_model.specs.cbor.Value.{Value, array, Values, encodings, break, open_head, EncAll}
use Rattle.cbor_edn_model.proofs.lemmas.cbor.CborOneValue.{one_encoding_holds}
use Rattle.cbor_edn_model.proofs.lemmas.layout.RegularTrees.{one_single_line}
use Rattle.cbor_edn_model.proofs.lemmas.cbor.MeaningSteps.{some_is}
use Rattle.cbor_edn_model.proofs.lemmas.text.GrammarLaws.{unique_spaces}
use Rattle.cbor_edn_conversions.specs.Addresses.{resolve_address, pretty_address}
use Rattle.cbor_edn_conversions.specs.Annotations.{comment_lang}
use Rattle.cbor_edn_conversions.specs.Bignums.{pretty_bignum}
use Rattle.cbor_edn_conversions.specs.Tag999.{to_tag999}
use Rattle.cbor_edn_conversions.specs.Times.{resolve_time, pretty_time}
use Rattle.cbor_edn_application.specs.Acts.{Act}
use Rattle.cbor_edn_application.proofs.ResolvedAgain.{tags_once, literals_once}
use Rattle.cbor_edn_command.specs.Hexadecimal.{hex_lines}
use Rattle.cbor_edn_command.specs.declared.options.Command.{Command}
use Rattle.cbor_edn_command.specs.declared.options.Command.TheVariants.{Diag2Cbor, Cbor2Diag, Diag2Diag}
use Rattle.cbor_edn_command.specs.declared.options.Options.{Options}
use Rattle.cbor_edn.specs.RunLaws.{StepsGiveOnce, OneOutput}
use Rattle.cbor_edn.specs.RunSteps.{Step, Where, InTurn, IsLaidOut, TagsVisited, LiteralsVisited, HasClaims, StepsGive, AnnotatesTags, ResolvesLiterals}
use Rattle.cbor_edn.specs.Runs.{IsReadAs, IsDecodedAs, Loads, IsEncodedAs, IsWrittenAs}

-- ---- steps

abbrev pub Once : Step → Type 0
Once P = (w v u : Tree Seq) → P w v → P w u → v ≡ u

pub where_once : (b : Bool) (P : Step) → Once P → Once (Where b P)
where_once true P once w v u a b = once w v u a b
where_once false P once w v u a b = a ∙ sym b

-- the same from two trees that are one
next : (P : Step) → Once P → (w x v u : Tree Seq) → w ≡ x → P w v → P x u → v ≡ u
next P once w x v u same a b = once x v u (subst (λ t. P t v) same a) b

pub turn_once : (P Q : Step) → Once P → Once Q → Once (InTurn P Q)
turn_once P Q p q w v u a b = next Q q a.0 b.0 v u (p w a.0 b.0 a.1 b.1) a.2 b.2

pub tags_visited_once : (act : Act) → Once (TagsVisited act)
tags_visited_once act w v u a b = (tags_once act).1 w v u a b

literals_visited_once : (act : Act) → Once (LiteralsVisited act)
literals_visited_once act w v u a b = (literals_once act).1 w v u a b

pub annotated_once : Once AnnotatesTags
annotated_once =
    turn_once (TagsVisited pretty_address) (InTurn (TagsVisited pretty_time) (TagsVisited comment_lang)) (tags_visited_once pretty_address)
    (turn_once (TagsVisited pretty_time) (TagsVisited comment_lang) (tags_visited_once pretty_time) (tags_visited_once comment_lang))

resolved_once : Once ResolvesLiterals
resolved_once = turn_once (LiteralsVisited resolve_address) (LiteralsVisited resolve_time) (literals_visited_once resolve_address) (literals_visited_once resolve_time)

pub claims_once : Once HasClaims
claims_once w v u a b = a ∙ sym b

pub steps_give_once : StepsGiveOnce
steps_give_once o w v u a b =
    let annotated = where_once o.annotate_tags AnnotatesTags annotated_once w a.annotated b.annotated a.tags b.tags in
    let uncommented = next (Where o.remove_comments (IsLaidOut DiscardAll)) (where_once o.remove_comments (IsLaidOut DiscardAll) (λ w v u a b. a ∙ sym b)) a.annotated b.annotated a.uncommented b.uncommented annotated a.comments b.comments in
    let resolved = next (Where o.aol_to_item ResolvesLiterals) (where_once o.aol_to_item ResolvesLiterals resolved_once) a.uncommented b.uncommented a.resolved b.resolved uncommented a.literals b.literals in
    let claimed = next (Where o.annotate_ccs HasClaims) (where_once o.annotate_ccs HasClaims claims_once) a.resolved b.resolved a.claimed b.claimed resolved a.claims b.claims in
    let counted = next (Where o.bignum_from_tags (TagsVisited pretty_bignum)) (where_once o.bignum_from_tags (TagsVisited pretty_bignum) (tags_visited_once pretty_bignum)) a.claimed b.claimed a.counted b.counted claimed a.bignums b.bignums in
    let tagged = next (Where o.apply_999 (LiteralsVisited to_tag999)) (where_once o.apply_999 (LiteralsVisited to_tag999) (literals_visited_once to_tag999)) a.counted b.counted a.tagged b.tagged counted a.others b.others in
    next (Where (not o.preserve_space) (IsLaidOut indented)) (where_once (not o.preserve_space) (IsLaidOut indented) (λ w v u a b. a ∙ sym b)) a.tagged b.tagged v u tagged a.spaces b.spaces

-- ---- what is read

pub read_once : (limit : ℕ) (input : List ℕ) (w v : Tree Seq) → IsReadAs limit input w → IsReadAs limit input v → w ≡ v
read_once limit input w v a b = unique_spaces.0 w v a.valid b.valid a.merged b.merged (a.prints ∙ sym b.prints)

-- Bytes encode one list of values: they would encode an array of indefinite length, between two bytes.
elements : Value → Values → Values
elements (array w vs) us = vs
elements _ us = us

values_once : (bytes : List ℕ) (vs us : Values) → EncAll bytes vs → EncAll bytes us → vs ≡ us
unfolding elements
values_once bytes vs us a b =
    let wrapped = λ (x : List ℕ). open_head 4 ∷ x ++ break ∷ [] in
    let same = one_encoding_holds.0 (wrapped bytes) (wrapped bytes) [] [] (array None vs) (array None us) ((tt, a.0), ap wrapped a.1) ((tt, b.0), ap wrapped b.1) refl in
    ap (λ v. elements v us) same.0

pub decoded_once : (limit : ℕ) (bytes : List ℕ) (w v : Tree Seq) → IsDecodedAs limit bytes w → IsDecodedAs limit bytes v → w ≡ v
decoded_once limit bytes w v (a, valid_w) (b, valid_v) =
    let same = values_once bytes a.values b.values a.encoded b.encoded in
    one_single_line.1 b.values w v (a.same_items ∙ ap items_of same) b.same_items a.spaced b.spaced

pub ok_same : {E : Type 0} (a b : List ℕ) → ◌≡◌ {A = Result (List ℕ) E} (Ok a) (Ok b) → a ≡ b
ok_same a b e = cc

loads_once : (c : Command) (o : Options) (input : List ℕ) (w v : Tree Seq) → Loads c o input w → Loads c o input v → w ≡ v
loads_once Diag2Cbor o input w v a b = read_once o.limit input w v a b
loads_once Cbor2Diag o input w v (x, is, d) (y, also, e) =
    let same = ok_same x y (sym is ∙ also) in
    decoded_once o.limit y w v (subst (λ z. IsDecodedAs o.limit z w) same d) e
loads_once Diag2Diag o input w v a b = read_once o.limit input w v a b

-- ---- what is written

encoded_once : (hex : Bool) (w : Tree Seq) (a b : List ℕ) → IsEncodedAs hex w a → IsEncodedAs hex w b → a ≡ b
encoded_once hex w a b (vs, x, meant, enc, is) (us, y, means_too, enc_too, also) =
    let values : vs ≡ us = some_is vs us (sym meant ∙ means_too) in
    let bytes : x ≡ y = enc.1 ∙ (ap encodings values ∙ sym enc_too.1) in
    is ∙ (ap (λ z. if hex then hex_lines z else z) bytes ∙ sym also)

written_once : (c : Command) (o : Options) (w : Tree Seq) (a b : List ℕ) → IsWrittenAs c o w a → IsWrittenAs c o w b → a ≡ b
written_once Diag2Cbor o w a b x y = encoded_once o.hex w a b x y
written_once Cbor2Diag o w a b x y = x.2 ∙ sym y.2
written_once Diag2Diag o w a b x y = x.2 ∙ sym y.2

pub one_output : OneOutput
one_output o input a b (w, v, loads, steps, written) (x, u, also, give, is) =
    let read : w ≡ x = loads_once o.command o input w x loads also in
    let made : v ≡ u = next (StepsGive o) (steps_give_once o) w x v u read steps give in
    written_once o.command o u a b (subst (λ t. IsWrittenAs o.command o t a) made written) is
