-- The calls of the visits of tags and of application literals: what a callback is, what it answers, and that it may be called.
use Rattle.std.specs.Prelude.{ℕ, List, ◌≡◌, ◌≤◌, ◌<◌, ◌^◌, Result, Ok, Err, Some, string_bytes}
use Rattle.std.specs.Borrow.{MutBor}
use Rattle.std.specs.Fn.{Mut, Called}
use Rattle.std.specs.declared.string.String.{String}
use Rattle.std.specs.declared.alloc.Global.{Global}
use Rattle.cbor_edn_parts.specs.declared.base.error.CallbackError.{CallbackError}
use Rattle.cbor_edn_model.specs.access.Accessed.{tag_number, IsApplicationItem}
use Rattle.cbor_edn_model.specs.visit.Depth.{depth}
use Rattle.cbor_edn_model.specs.visit.Seeking.{CallArguments, SoughtCall, IsApplication, number, prefix_and_text}
use Rattle.cbor_edn_model.specs.tree.Trees.{Tree, OneItem}
use Rattle.cbor_edn_model.specs.visit.Visits.{Answer, fine, Chain}
use Rattle.cbor_edn_core.specs.visit.Callbacks.{Callback, error_answer}

-- the text of a comment, want of memory, or nothing
abbrev pub sought_answer : Result (Unit {0}) CallbackError → Answer
sought_answer (Ok u) = fine
sought_answer (Err e) = error_answer e

-- The closures that are called at a `&mut` to an item T, with the number of a tag.
abbrev pub TagCallback : Type 0 → Type 0 → Type 1
TagCallback T F = Mut F (ℕ × (MutBor T × Unit {0})) (Result (Unit {0}) CallbackError × (MutBor T × Unit {0}))

-- those that are called with the prefix and the text of a literal
abbrev pub LiteralCallback : Type 0 → Type 0 → Type 1
LiteralCallback T F = Mut F (String Global × (String Global × (MutBor T × Unit {0}))) (Result (Unit {0}) CallbackError × (MutBor T × Unit {0}))

-- those that are called with the item alone
abbrev pub ItemCallback : Type 0 → Type 0 → Type 1
ItemCallback T F = Callback T (Result (Unit {0}) CallbackError) F

module _ {T : Type 0} (look : T → Tree OneItem) where
  -- The call c of f, which leaves g.
  pub record IsTagCall {F : Type 0} (callback : TagCallback T F) (f : F) (c : SoughtCall) (g : F) : Type 0 where
    pub tag : ℕ
    pub arguments : c.arguments ≡ number tag
    pub sought : tag_number c.before ≡ Some tag
    pub fits : tag < 2 ^ 64
    pub shown : MutBor T
    pub begins : look shown.now ≡ c.before
    pub answer : Result (Unit {0}) CallbackError
    pub answers : sought_answer answer ≡ c.answer
    pub left : MutBor T
    pub leaves : look left.now ≡ c.after
    pub called : Called callback f (tag, (shown, tt)) (answer, (left, tt)) g

  pub record IsLiteralCall {F : Type 0} (callback : LiteralCallback T F) (f : F) (c : SoughtCall) (g : F) : Type 0 where
    pub prefix : String Global
    pub text : String Global
    pub arguments : c.arguments ≡ prefix_and_text (string_bytes prefix) (string_bytes text)
    pub sought : IsApplicationItem c.before (string_bytes prefix) (string_bytes text)
    pub shown : MutBor T
    pub begins : look shown.now ≡ c.before
    pub answer : Result (Unit {0}) CallbackError
    pub answers : sought_answer answer ≡ c.answer
    pub left : MutBor T
    pub leaves : look left.now ≡ c.after
    pub called : Called callback f (prefix, (text, (shown, tt))) (answer, (left, tt)) g

  -- The same at a literal whose prefix and text f is not told: they are those of the item.
  pub record IsItemCall {F : Type 0} (callback : ItemCallback T F) (f : F) (c : SoughtCall) (g : F) : Type 0 where
    pub sought : IsApplication c.before c.arguments
    pub shown : MutBor T
    pub begins : look shown.now ≡ c.before
    pub answer : Result (Unit {0}) CallbackError
    pub answers : sought_answer answer ≡ c.answer
    pub left : MutBor T
    pub leaves : look left.now ≡ c.after
    pub called : Called callback f (shown, tt) (answer, (left, tt)) g

  -- f may be called at any tag, in each state that such calls leave
  pub record MayVisitTags {F : Type 0} (callback : TagCallback T F) (f : F) : Type 0 where
    pub at : (cs : List SoughtCall) (g : F) → Chain (IsTagCall callback) f cs g → (n : ℕ) (x : MutBor T) → tag_number (look x.now) ≡ Some n → n < 2 ^ 64 → callback.pre g (n, (x, tt))

  -- f may be called at any literal with a prefix, in each state that such calls leave
  pub record MayVisitLiterals {F : Type 0} (callback : LiteralCallback T F) (f : F) : Type 0 where
    pub at : (cs : List SoughtCall) (g : F) → Chain (IsLiteralCall callback) f cs g → (p s : String Global) (x : MutBor T)
        → IsApplicationItem (look x.now) (string_bytes p) (string_bytes s) → callback.pre g (p, (s, (x, tt)))

  pub record MayVisitItems {F : Type 0} (callback : ItemCallback T F) (f : F) : Type 0 where
    pub at : (cs : List SoughtCall) (g : F) → Chain (IsItemCall callback) f cs g → (a : CallArguments) (x : MutBor T) → IsApplication (look x.now) a → callback.pre g (x, tt)

  -- No call at a tag leaves an item that nests deeper than the tag did: none puts `[[]]` in the place of `1([])`.
  abbrev pub LeavesNoneDeeper : {F : Type 0} → TagCallback T F → Type 0
  LeavesNoneDeeper {F} callback = (f g : F) (c : SoughtCall) → IsTagCall callback f c g → depth c.after ≤ depth c.before
