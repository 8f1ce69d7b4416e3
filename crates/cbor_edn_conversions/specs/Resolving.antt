-- What items mean where some literals stand for values, and calls that keep this meaning.
use Rattle.std.specs.Prelude.{◌≡◌, ℕ, List, Option, Some, None, ◌&&◌, not, if◌then◌else◌}
use Rattle.cbor_edn_parts.specs.declared.base.indicator.Indicator.{Indicator}
use Rattle.cbor_edn_parts.specs.declared.string.StringKind.TheVariants.{Bytes}
use Rattle.cbor_edn_parts.specs.internal.NumberReading.{integer_of}
use Rattle.cbor_edn_parts.specs.internal.ContentReading.{literal_content, is_supported, behind_quote}
use Rattle.cbor_edn_parts.specs.internal.LiteralTokens.{is_literal, prefix_of, decoded}
use Rattle.cbor_edn_parts.specs.declared.string.Quote.TheVariants as quotes
use Rattle.cbor_edn_parts.specs.declared.string.QuotedState.TheVariants as part
use Rattle.cbor_edn_parts.specs.string.Contents.{h}
use Rattle.cbor_edn_parts.specs.string.Literal.{Prefixed, IsLiteral}
use Rattle.cbor_edn_model.specs.tree.Items.{Sort, Item, Pieces, Node, Number, Float, Listed, Tagged, Named, Simple, String, Stream, Literal, Ellipsis, Embedded, LastPiece, Plus, Element, Pair, Chunk, End, Then}
use Rattle.cbor_edn_model.specs.cbor.Value.{Value, tag, simple, encodings}
use Rattle.cbor_edn_model.specs.cbor.Meaning.{◌>>=◌, MeaningOf, width_of, means_integer, means_float, means_simple, named_number, listed, pieces_indicator, string_of, chunk_of, stream_of, joined, no_entries, one_more}
use Rattle.cbor_edn_model.specs.visit.Seeking.{CallArguments, SoughtCall}
use Rattle.cbor_edn_model.specs.tree.Trees.{Tree, OneItem, items}
use Rattle.cbor_edn_model.specs.visit.Visits.{Answer}

-- The value that a literal stands for, by its text and its encoding indicator, if it stands for one: 42, say, for `dt'1970-01-01T00:00:42Z'`.
abbrev pub Resolver : Type 0
Resolver = List ℕ → Option Indicator → Option Value

abbrev pub or_else : {A : Type 0} → Option A → Option A → Option A
or_else None p = p
or_else (Some x) p = Some x

-- the resolver of no literal
abbrev pub no_resolver : Resolver
no_resolver x i = None

-- the first of two resolvers, and where it gives nothing the second
abbrev pub either : Resolver → Resolver → Resolver
either Q R x i = or_else (Q x i) (R x i)

-- the value of a string that is one literal: of `x'a'`, not of `x'a' + x'b'`
abbrev pub resolved : Resolver → Node Pieces → Option Value
resolved R (LastPiece (Literal x i)) = R x i
resolved R _ = None

-- the same of an item
abbrev pub resolved_item : Resolver → Node Item → Option Value
resolved_item R (String w) = resolved R w
resolved_item R _ = None

-- What an item means where each item that is one literal has the value that the resolver gives, if it gives one: where `x'a'` stands for
-- true, `[x'a', 1]` means the array of true and 1. All other items mean what they mean anyway. Literals that stand beside others, in a
-- stream or behind a plus sign, stand for nothing.
module _ (R : Resolver) where
  unfoldable pub means_by : {s : Sort} → Node s → Option (MeaningOf s)
  means_by (Number x i) = integer_of x >>= means_integer i
  means_by (Float f i) = means_float i f
  means_by (Tagged n i w) = width_of i n >>= λ d. means_by w >>= λ v. Some (tag d n v)
  means_by (Named b) = Some (simple (named_number b))
  means_by (Simple w) = means_simple w
  means_by (Listed k i m) = means_by m >>= listed k i
  means_by (String w) = or_else (resolved R w) (means_by w >>= λ c. pieces_indicator w >>= string_of c)
  means_by (Stream m) = means_by m >>= stream_of
  means_by (Literal x i) = literal_content x
  means_by (Ellipsis x) = None
  means_by (Embedded m i) = means_by m >>= λ vs. Some (Bytes, encodings vs)
  means_by (LastPiece p) = means_by p
  means_by (Plus p w) = means_by p >>= λ c. means_by w >>= λ d. Some (joined c d)
  means_by (Element w) = means_by w
  means_by (Pair v w) = means_by v >>= λ x. means_by w >>= λ y. Some (x, y)
  means_by (Chunk w) = means_by w >>= λ c. pieces_indicator w >>= chunk_of c
  means_by (End {k}) = Some (no_entries k)
  means_by (Then {k} e m) = means_by e >>= λ x. means_by m >>= λ r. Some (one_more k x r)

-- ---- resolvers

-- The text is no literal with a prefix: `'a'`, `"h"`.
abbrev pub IsUnprefixed : List ℕ → Type 0
IsUnprefixed x = (p t : List ℕ) → IsLiteral (Prefixed p) t x → ⊥

-- Two resolvers differ at literals with a prefix alone.
abbrev pub DifferAtPrefixes : Resolver → Resolver → Type 0
DifferAtPrefixes B A = (x : List ℕ) (i : Option Indicator) → IsUnprefixed x → B x i ≡ A x i

-- The resolver gives values to literals with a prefix other than `h` alone: decoded byte strings have that one, as `h'01'`.
abbrev pub ResolvesApplications : Resolver → Type 0
ResolvesApplications R = (x : List ℕ) (i : Option Indicator) → ((p t : List ℕ) → IsLiteral (Prefixed p) t x → p ≡ h) → R x i ≡ None

-- It gives values to literals without a content alone: `dt'..'` has none, `b64'AQ=='` has one.
abbrev pub ResolvesNoContent : Resolver → Type 0
ResolvesNoContent R = (x : List ℕ) (i : Option Indicator) (v : Value) → R x i ≡ Some v → literal_content x ≡ None

-- ---- calls

-- Where the item before meant a value by the first resolver, the item after means it by the second. A call keeps what is meant by R where
-- it turns R into R, as one that makes `DT'1970-01-01T00:00:42Z'` of `1(42)`; one that makes `1(42)` of that literal turns R into none.
abbrev pub Turns : Resolver → Resolver → SoughtCall → Type 0
Turns B A c = (v : Value) → means_by B (items c.before) ≡ Some v → means_by A (items c.after) ≡ Some v

-- The same, and where the one means nothing the other does not either.
abbrev pub TurnsExactly : Resolver → Resolver → SoughtCall → Type 0
TurnsExactly B A c = means_by B (items c.before) ≡ means_by A (items c.after)

-- The call answers and leaves what the function says of the arguments and of the item before.
abbrev pub AnswersBy : (CallArguments → Tree OneItem → Answer × Tree OneItem) → SoughtCall → Type 0
AnswersBy f c = (c.answer ≡ (f c.arguments c.before).0) × (c.after ≡ (f c.arguments c.before).1)

-- ---- resolvers by prefix and text

-- The resolver that gives what F gives of the prefix and of the text of a literal, where this has a prefix that says no content.
abbrev pub by_prefix : (List ℕ → List ℕ → Option Value) → Resolver
by_prefix F x i = if is_literal x && not (is_supported x) then F (prefix_of x) (decoded quotes.Single part.Between (behind_quote x)) else None
