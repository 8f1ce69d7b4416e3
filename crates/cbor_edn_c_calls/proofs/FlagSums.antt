-- Flags of `show`, taken apart from the lowest on.
use Rattle.std.proofs.Common.{◌≡◌, ℕ, Bool, [], ◌∷◌, arith}
use Rattle.std.specs.Prelude.{◌+◌, ◌*◌}
use Rattle.cbor_edn_c_calls.specs.Flags.{bit, bits}

module _ (flags a b c d e f g h levels : ℕ) (hex tags comments literals claims bignums others spaces names : Bool)
    (first : flags ≡ bit hex + 2 * a) (second : a ≡ bit tags + 2 * b) (third : b ≡ bit comments + 2 * c) (fourth : c ≡ bit literals + 2 * d) (fifth : d ≡ bit claims + 2 * e)
    (sixth : e ≡ bit bignums + 2 * f) (seventh : f ≡ bit others + 2 * g) (eighth : g ≡ bit spaces + 2 * h) (ninth : h ≡ bit names + 2 * levels) where
  pub summed : flags ≡ bits (hex ∷ tags ∷ comments ∷ literals ∷ claims ∷ bignums ∷ others ∷ spaces ∷ names ∷ []) + 512 * levels
  summed = omega (arith, first, second, third, fourth, fifth, sixth, seventh, eighth, ninth)
