-- The table of kinds has the kind of each byte.
use Rattle.std.proofs.Common.{◌≡◌, ℕ, ◌<◌, List, map, get_or, refl, sym, subst, arith}
use Rattle.std.proofs.lemmas.List.FromFn.{get_or-map-range_with_len}
use Rattle.std.specs.List.{range_with_len}
use Rattle.cbor_edn_parts.specs.declared.base.bytes.kinds.TheConstants.{KINDS}
use Rattle.cbor_edn_parts.specs.base.Bytes.{Kind, kind}

kinds : KINDS ≡ map kind (range_with_len 0 256)
unfolding kind
kinds = refl

pub kind_at : (b : ℕ) (d : Kind) → b < 256 → get_or KINDS b d ≡ kind b
kind_at b d lt = subst (λ (ks : List Kind). get_or ks b d ≡ kind b) (sym kinds) (get_or-map-range_with_len kind 0 256 b b d lt (omega arith))
