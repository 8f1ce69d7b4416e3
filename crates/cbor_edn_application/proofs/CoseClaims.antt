-- What functions make of claims sets that are payloads of COSE messages.
use Rattle.std.proofs.Common.{ℕ, List, [], ◌∷◌, ◌≡◌, Bool, true, false, cond, None, Some, Option, refl, sym, ap, subst, ◌∙◌}
use Rattle.std.specs.Prelude.{is_some, slice_get}
use Rattle.cbor_edn_model.specs.declared.text.opener.OpenerKind.TheVariants as opener
use Rattle.cbor_edn_model.specs.access.Accessed.{tag_content, array_items, inner_item}
use Rattle.cbor_edn_model.specs.access.Paths.{at_standalone, with_at, with_at_standalone}
use Rattle.cbor_edn_model.specs.tree.Items.{Array, Map}
use Rattle.cbor_edn_model.specs.visit.Seeking.{CallArguments}
use Rattle.cbor_edn_model.specs.tree.Trees.{Tree, OneItem, Standalone, NumberTree, FloatTree, NamedTree, EnclosedTree, ListTree, StringTree, StreamTree, StandaloneTree}
use Rattle.cbor_edn_model.specs.visit.Visits.{Answer, fine, no_memory}
use Rattle.cbor_edn_core.specs.access.Lent.{with_tag_content}
use Rattle.cbor_edn_conversions.specs.declared.tables.Structure.{Structure}
use Rattle.cbor_edn_conversions.specs.Cose.{called_message, in_item, in_string}
use Rattle.cbor_edn_conversions.specs.CoseTables.{parts}
use Rattle.cbor_edn_conversions.specs.MessageClaims.{claims_and_keys, is_payload, in_payload, in_message, message_claims}
use Rattle.cbor_edn_application.specs.Acts.{ActsBy}
use Rattle.cbor_edn_application.specs.Comments.{inside}
use Rattle.cbor_edn_application.proofs.CoseParts.{item_done, item_same, no_item_done}

-- ---- the payload of an array

pub in_no_array : (f : Tree OneItem → Tree OneItem) (w : Tree OneItem) → is_some (array_items w) ≡ false → w ≡ in_payload f w
in_no_array f (ListTree Array w) none = absurd cc
in_no_array f (ListTree Map w) none = refl
in_no_array f (NumberTree x i) none = refl
in_no_array f (FloatTree g i) none = refl
in_no_array f (NamedTree b) none = refl
in_no_array f (EnclosedTree l w) none = refl
in_no_array f (StringTree w) none = refl
in_no_array f (StreamTree s m) none = refl

pub in_array : (f : Tree OneItem → Tree OneItem) (w : Tree OneItem) → is_some (array_items w) ≡ true → in_item 2 (in_string f) w ≡ in_payload f w
in_array f (ListTree Array w) some = refl
in_array f (ListTree Map w) some = absurd cc
in_array f (NumberTree x i) some = absurd cc
in_array f (FloatTree g i) some = absurd cc
in_array f (NamedTree b) some = absurd cc
in_array f (EnclosedTree l w) some = absurd cc
in_array f (StringTree w) some = absurd cc
in_array f (StreamTree s m) some = absurd cc

-- ---- between spaces, once the loan of the payload is over

pub payload_done : (f : Tree OneItem → Tree OneItem) (s t : Tree Standalone) (c x : Tree OneItem) → is_some (array_items (inner_item s)) ≡ true → Some c ≡ at_standalone (2 ∷ []) s
    → t ≡ with_at_standalone (2 ∷ []) x s → x ≡ in_string f c → t ≡ inside (in_payload f) s
payload_done f (StandaloneTree a z b) t c x some stood lent is =
    lent ∙ ap (λ v. StandaloneTree a v b) (item_done 2 z (in_string f) c x (with_at (2 ∷ []) x z) stood refl is ∙ in_array f z some)

pub payload_same : (s t : Tree Standalone) (c x : Tree OneItem) → Some c ≡ at_standalone (2 ∷ []) s → t ≡ with_at_standalone (2 ∷ []) x s → x ≡ c → t ≡ s
payload_same (StandaloneTree a z b) t c x stood lent same = lent ∙ ap (λ v. StandaloneTree a v b) (item_same 2 z c x (with_at (2 ∷ []) x z) stood refl same)

pub without_payload : (f : Tree OneItem → Tree OneItem) (s : Tree Standalone) → is_some (array_items (inner_item s)) ≡ true → None ≡ at_standalone (2 ∷ []) s → s ≡ inside (in_payload f) s
without_payload f (StandaloneTree a z b) some none = ap (λ v. StandaloneTree a v b) (no_item_done 2 z (in_string f) none ∙ in_array f z some)

pub inside_no_array : (f : Tree OneItem → Tree OneItem) (s : Tree Standalone) → is_some (array_items (inner_item s)) ≡ false → s ≡ inside (in_payload f) s
inside_no_array f (StandaloneTree a z b) none = ap (λ v. StandaloneTree a v b) (in_no_array f z none)

-- ---- tags, once the loan of the content is over

tag_done : (f : Tree OneItem → Tree OneItem) (w v : Tree OneItem) (s t : Tree Standalone) → Some s ≡ tag_content w → v ≡ with_tag_content t w → t ≡ inside f s → v ≡ in_item 0 f w
tag_done f (EnclosedTree (opener.Tag i n) (StandaloneTree a z b)) v s t holds lent done =
    let is : s ≡ StandaloneTree a z b = cc in lent ∙ ap (λ c. EnclosedTree (opener.Tag i n) c) (done ∙ ap (inside f) is)
tag_done f (NumberTree p i) v s t holds lent done = absurd cc
tag_done f (FloatTree p i) v s t holds lent done = absurd cc
tag_done f (NamedTree b) v s t holds lent done = absurd cc
tag_done f (EnclosedTree opener.Simple w) v s t holds lent done = absurd cc
tag_done f (ListTree k w) v s t holds lent done = absurd cc
tag_done f (StringTree w) v s t holds lent done = absurd cc
tag_done f (StreamTree p m) v s t holds lent done = absurd cc

tag_same : (w v : Tree OneItem) (s t : Tree Standalone) → Some s ≡ tag_content w → v ≡ with_tag_content t w → t ≡ s → v ≡ w
tag_same (EnclosedTree (opener.Tag i n) c) v s t holds lent same = let is : s ≡ c = cc in lent ∙ ap (λ c. EnclosedTree (opener.Tag i n) c) (same ∙ is)
tag_same (NumberTree p i) v s t holds lent same = absurd cc
tag_same (FloatTree p i) v s t holds lent same = absurd cc
tag_same (NamedTree b) v s t holds lent same = absurd cc
tag_same (EnclosedTree opener.Simple w) v s t holds lent same = absurd cc
tag_same (ListTree k w) v s t holds lent same = absurd cc
tag_same (StringTree w) v s t holds lent same = absurd cc
tag_same (StreamTree p m) v s t holds lent same = absurd cc

-- ---- calls

by_payload : (b : Bool) (u w : Tree OneItem) → b ≡ true → u ≡ cond b u w
by_payload true u w is = refl
by_payload false u w is = absurd cc

by_none : (b : Bool) (u w : Tree OneItem) → b ≡ false → w ≡ cond b u w
by_none true u w is = absurd cc
by_none false u w is = refl

module _ (a : CallArguments) (w : Tree OneItem) where
  by_message : (o : Option (List ℕ × Structure)) (v : Tree OneItem) → called_message a w ≡ o → v ≡ in_message w o → ActsBy message_claims a w fine v
  unfolding message_claims
  by_message o v is done = (refl, done ∙ ap (in_message w) (sym is))

  pub no_claims : called_message a w ≡ None → ActsBy message_claims a w fine w
  no_claims is = by_message None w is refl

  pub no_payload : (m : List ℕ × Structure) → called_message a w ≡ Some m → is_payload (slice_get (parts m.1) 2) ≡ false → ActsBy message_claims a w fine w
  no_payload m is none = by_message (Some m) w is (by_none _ _ w none)

  pub claims_done : (m : List ℕ × Structure) (v : Tree OneItem) (s t : Tree Standalone) → called_message a w ≡ Some m → is_payload (slice_get (parts m.1) 2) ≡ true
      → Some s ≡ tag_content w → v ≡ with_tag_content t w → t ≡ inside (in_payload claims_and_keys) s → ActsBy message_claims a w fine v
  claims_done m v s t is payload holds lent done = by_message (Some m) v is (tag_done (in_payload claims_and_keys) w v s t holds lent done ∙ by_payload _ _ w payload)

  pub claims_refused : (v : Tree OneItem) (s t : Tree Standalone) (r : Answer) → r ≡ no_memory → Some s ≡ tag_content w → v ≡ with_tag_content t w → t ≡ s → ActsBy message_claims a w r v
  claims_refused v s t r is holds lent same = subst (λ q. ActsBy message_claims a w q v) (sym is) (tag_same w v s t holds lent same)
