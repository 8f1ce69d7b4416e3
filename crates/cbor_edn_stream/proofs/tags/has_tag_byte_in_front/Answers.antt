use Rattle.std.proofs.Common.{◌≡◌, refl, subst, rules}
use Rattle.std.proofs.lemmas.Fn.{fold_over, slice_gives, fronts}
use Rattle.cbor_edn_stream.proofs.lemmas.TagBytes.{shows_tag, shows_more}
use Rattle.cbor_edn_stream.proofs.tags.has_tag_byte_in_front.Goals as goal

pub returns : goal.returns
returns c =
    subst (λ l. c.fold.result ≡ shows_tag l) c.iter.ensures.rest
    (fold_over fronts (λ y. y.now) _ (λ bytes found. found ≡ shows_tag bytes) _ (λ bytes found x more f' is k. let one = shows_more bytes x.now found is in search rules)
    _ _ _ _ (slice_gives c.iter.result) refl c.fold.ensures.ran)
