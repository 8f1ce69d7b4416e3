use Rattle.std.proofs.Common.{◌≡◌, ◌++◌, true, sym, subst, rules}
use Rattle.cbor_edn_parts.specs.base.LeafTexts.{leaf_bytes}
use Rattle.cbor_edn_parts.specs.Leaves.{space_bytes, mandatory_bytes}
use Rattle.cbor_edn_parts.specs.internal.SpaceTokens.{is_space}
use Rattle.cbor_edn_parts.proofs.lemmas.space.CommentTexts.{spaces_append}
use Rattle.cbor_edn_parts.proofs.lemmas.space.SpaceTexts.{optional_texts, mandatory_texts}
use Rattle.cbor_edn_parts.proofs.space.MandatorySpace.with_space.Goals as goal

pub invariant_of-result-2 : goal.invariant_of-result-2
invariant_of-result-2 c =
    let ms = mandatory_bytes c.args.self.now in
    let s = space_bytes c.args.space.now in
    let bytes : leaf_bytes c.in_ok-text-2.text ≡ ms ++ s = search (rules) in
    record { spelled = subst (λ t. is_space t ≡ true) (sym bytes) ((optional_texts (ms ++ s)).0 (spaces_append ((mandatory_texts ms).1 c.args.self.now.spelled).0 ((optional_texts s).1 c.args.space.now.spelled))) }
