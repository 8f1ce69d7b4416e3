-- The calls of a visit: what a callback and a handler are, what they answer, and that they may be called.
use Rattle.std.specs.Prelude.{List, ◌≡◌, All, Option, None, Some, Result, Ok, Err, string_bytes}
use Rattle.std.specs.List.{Contains}
use Rattle.std.specs.Borrow.{MutBor}
use Rattle.std.specs.Fn.{Mut, CalledAtMut}
use Rattle.std.specs.declared.string.String.{String}
use Rattle.std.specs.declared.alloc.Global.{Global}
use Rattle.cbor_edn_parts.specs.declared.base.error.Fault.{Fault}
use Rattle.cbor_edn_parts.specs.declared.base.error.Fault.TheVariants as fault
use Rattle.cbor_edn_parts.specs.declared.base.error.CallbackError.{CallbackError}
use Rattle.cbor_edn_parts.specs.declared.base.error.CallbackError.TheVariants as error
use Rattle.cbor_edn_model.specs.tree.Trees.{Tree, OneItem}
use Rattle.cbor_edn_model.specs.visit.Visits.{Answer, fine, comment, no_memory, Call, Ending, whole, cut, Handler, no_handler, dropped, spent, KeyCall, Chain}

-- the text of a comment, or none
abbrev pub noted_answer : Option (String Global) → Answer
noted_answer None = fine
noted_answer (Some s) = comment (string_bytes s)

abbrev pub error_answer : CallbackError → Answer
error_answer (error.Comment s) = comment (string_bytes s)
error_answer (error.Memory e) = no_memory

-- what is answered at an element, or by a handler
abbrev pub answer_of : Result (Option (String Global)) CallbackError → Answer
answer_of (Ok o) = noted_answer o
answer_of (Err e) = error_answer e

-- what is answered at a key
abbrev pub key_answer : {H : Type 0} → Result (Option (String Global) × Option H) CallbackError → Answer
key_answer (Ok p) = noted_answer p.0
key_answer (Err e) = error_answer e

-- an answer that is an error has no handler
abbrev pub handler_of : {H : Type 0} → Result (Option (String Global) × Option H) CallbackError → Option H
handler_of (Ok p) = p.1
handler_of (Err e) = None

-- how a visit of a part ended that gave such a result
abbrev pub ending : {X E : Type 0} → Result X E → Ending
ending (Ok x) = whole
ending (Err e) = cut

-- what holds of the ending of a visit that made calls
abbrev pub IfVisited : {X E : Type 0} → Result X (Fault E) → (Ending → Type 0) → Type 0
IfVisited (Ok x) P = P whole
IfVisited (Err (fault.Memory e)) P = P cut
IfVisited (Err (fault.Told e)) P = Unit {0}

-- The closures that are called at a `&mut` to an item T and answer R.
abbrev pub Callback : Type 0 → Type 0 → Type 0 → Type 1
Callback T R F = Mut F (MutBor T × Unit {0}) (R × (MutBor T × Unit {0}))

-- what a handler of its own contract may answer at an item, and leave of it
abbrev pub Handles : Type 0 → Type 0 → Type 1
Handles T H = H → T → Result (Option (String Global)) CallbackError → T → Type 0

module _ {T : Type 0} (look : T → Tree OneItem) where
  -- f may be called at any `&mut` to the item
  abbrev pub MayCall : {R F : Type 0} → Callback T R F → F → Tree OneItem → Type 0
  MayCall g f w = (x : MutBor T) → look x.now ≡ w → g.pre f (x, tt)

  -- The call c of f, which leaves g.
  pub record IsCall {F : Type 0} (callback : Callback T (Result (Option (String Global)) CallbackError) F) (f : F) (c : Call) (g : F) : Type 0 where
    pub shown : T
    pub begins : look shown ≡ c.before
    pub answer : Result (Option (String Global)) CallbackError
    pub answers : answer_of answer ≡ c.answer
    pub left : T
    pub leaves : look left ≡ c.after
    pub called : CalledAtMut callback f shown answer g left

  -- What became of a handler: it was spent by a call of its own contract, or dropped.
  pub data Spends {H : Type 0} (handles : Handles T H) : Option H → Handler → Type 0 where
    none : Spends handles None no_handler
    drops : {h : H} → Spends handles (Some h) dropped
    spends : {h : H} {x y : T} {r : Result (Option (String Global)) CallbackError} {c : Call}
        → handles h x r y → look x ≡ c.before → answer_of r ≡ c.answer → look y ≡ c.after → Spends handles (Some h) (spent c)

  -- The call c of f at a key, which leaves g, and what became of the handler in its answer.
  pub record IsKeyCall {H F : Type 0} (callback : Callback T (Result (Option (String Global) × Option H) CallbackError) F) (handles : Handles T H) (f : F) (c : KeyCall) (g : F) : Type 0 where
    pub shown : T
    pub begins : look shown ≡ c.at_key.before
    pub answer : Result (Option (String Global) × Option H) CallbackError
    pub answers : key_answer answer ≡ c.at_key.answer
    pub left : T
    pub leaves : look left ≡ c.at_key.after
    pub called : CalledAtMut callback f shown answer g left
    pub spending : Spends handles (handler_of answer) c.handler

  -- f may be called at each of the items, in each state that calls at them leave
  pub record MayVisit {R F C : Type 0} (callback : Callback T R F) (Step : F → C → F → Type 0) (before : C → Tree OneItem) (items : List (Tree OneItem)) (f : F) : Type 0 where
    pub at : (calls : List C) (g : F) → Chain Step f calls g → All (λ c. Contains items (before c)) calls → (w : Tree OneItem) → Contains items w → MayCall callback g w
