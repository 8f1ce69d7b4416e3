-- Visits of tags and of literals, put together from those of parts.
use Rattle.std.proofs.Common.{ℕ, ◌+◌, ◌*◌, ◌<◌, ◌≤◌, ◌≡◌, ◌≢◌, Bool, true, false, Result, Ok, Err, List, [], ◌∷◌, ◌++◌, arith, refl}
use Rattle.std.specs.Result.{IsErr}
use Rattle.cbor_edn_model.specs.visit.Depth.{depth}
use Rattle.cbor_edn_model.specs.visit.Seeking.{CallArguments, SoughtCall, VisitItem, passed, entered, stayed, refused, not_called}
use Rattle.cbor_edn_model.specs.tree.Trees.{OneItem, Tree}
use Rattle.cbor_edn_model.specs.visit.Visits.{Answer, Ending, cut, fine, no_memory, answered, Chain, no_calls, one_call}
use Rattle.cbor_edn_model.specs.internal.Reaching.{Ends, enters, stays, fails, Reaches, passes, calls, fails_before, VisitIf}

-- the measure of a visit of what a reached item left
abbrev pub measure_if : Bool → Tree OneItem → ℕ
measure_if true w = 16 * depth w + 6
measure_if false w = 0

module _ {IsSought : Tree OneItem → CallArguments → Type 0} where
  pub then_if : {E : Type 0} {w v : Tree OneItem} {s t : List ℕ} {cs : List SoughtCall} (b : Bool) (x : Tree OneItem) (ds : List SoughtCall) (r : Ending)
      → Reaches {E = E} IsSought w s cs v t (Ok b) → VisitIf IsSought b v ds x r → VisitItem IsSought w s (cs ++ ds) x t r
  then_if true x ds r (passes n) v = passed n v
  then_if true x ds r (calls is (enters a d)) v = entered is a d v
  then_if false x ds r (calls is (stays a d)) v = rw (v.0, v.1, v.2) (stayed is a d)

  pub failed : {E : Type 0} {w v : Tree OneItem} {s t : List ℕ} {cs : List SoughtCall} {e : E} → Reaches IsSought w s cs v t (Err e) → VisitItem IsSought w s cs v t cut
  failed (fails_before is) = not_called is
  failed (calls is (fails a)) = refused is a

  pub measure_if-le : {E : Type 0} {w v : Tree OneItem} {s t : List ℕ} {cs : List SoughtCall} (b : Bool) → Reaches {E = E} IsSought w s cs v t (Ok b) → measure_if b v ≤ 16 * depth w + 6
  measure_if-le true (passes n) = omega arith
  measure_if-le true (calls is (enters a d)) = omega (arith, d)
  measure_if-le false r = omega arith

  -- the one call at an item, and what it came to
  pub reached_not : {E F : Type 0} {Step : F → SoughtCall → F → Type 0} {f : F} {w : Tree OneItem} {s : List ℕ} → ((a : CallArguments) → IsSought w a → ⊥)
      → (cs : List SoughtCall) × Chain Step f cs f × Reaches {E = E} IsSought w s cs w s (Ok true)
  reached_not n = ([], no_calls, passes n)

  pub reached_never : {E F : Type 0} {Step : F → SoughtCall → F → Type 0} {f : F} {w : Tree OneItem} {s : List ℕ} (r : Result Bool E) → IsErr r → (a : CallArguments) → IsSought w a
      → (cs : List SoughtCall) × Chain Step f cs f × Reaches IsSought w s cs w s r
  reached_never (Ok b) h a is = cc
  reached_never (Err e) h a is = ([], no_calls, fails_before {a = a} is)

  pub reached : {E F : Type 0} {Step : F → SoughtCall → F → Type 0} {f g : F} {s t : List ℕ} {n : ℕ} {r : Result Bool E} (c : SoughtCall) → IsSought c.before c.arguments → Step f c g → n ≡ depth c.before → Ends n c.answer c.after s t r
      → (cs : List SoughtCall) × Chain Step f cs g × Reaches IsSought c.before s cs c.after t r
  reached c is k n e = (c ∷ [], one_call k no_calls, calls is (rw (← n) e))

-- how a call ends whose comment was refused memory
pub ends_err : {E : Type 0} {n : ℕ} {a : Answer} {v : Tree OneItem} {s t : List ℕ} (r : Result Bool E) → IsErr r → a ≢ fine → t ≡ s → Ends n a v s t r
ends_err (Ok b) h f e = cc
ends_err (Err x) h f e = rw e (fails f)

-- and how one ends whose comment was put
pub ends_in : {E : Type 0} {n : ℕ} {a : Answer} {v : Tree OneItem} {s t : List ℕ} → a ≢ no_memory → t ≡ answered a s → depth v ≤ n → Ends {E = E} n a v s t (Ok true)
ends_in m e d = rw e (enters m d)

pub ends_ok : {E : Type 0} {n : ℕ} {a : Answer} {v : Tree OneItem} {s t : List ℕ} (b : Bool) → a ≢ no_memory → t ≡ answered a s → (b ≡ true → depth v ≤ n) → (b ≡ false → n < depth v) → Ends {E = E} n a v s t (Ok b)
ends_ok true m e le lt = ends_in m e (le refl)
ends_ok false m e le lt = rw e (stays m (lt refl))
