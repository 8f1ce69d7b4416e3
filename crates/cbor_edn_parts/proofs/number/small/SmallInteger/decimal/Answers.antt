use Rattle.std.proofs.Common.{◌≡◌, ◌≤◌, ◌<◌, ◌^◌, ◌+◌, ◌∷◌, ℕ, suc, refl, arith}
use Rattle.std.specs.Prelude.{codes}
use Rattle.std.specs.Fmt.{digits, decimal}
use Rattle.cbor_edn_parts.proofs.number.small.SmallInteger.decimal.Goals as goal

least : (n : ℕ) → n < 2 ^ 64 → 2 ^ 64 ≤ n + 1 → codes "-18446744073709551616" ≡ 45 ∷ decimal (suc n)
unfolding digits
least n low high = let e : suc n ≡ 18446744073709551616 = omega arith in rw e refl

pub returns-in-None-clause-text : goal.returns-in-None-clause-text
returns-in-None-clause-text c = rw c.in-Negative.is (least c.in-Negative.n (omega arith) (omega (arith, c.in-None.ensures)))
