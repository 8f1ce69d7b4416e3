-- What `show` writes of some CBOR.
use Rattle.std.specs.Prelude.{◌≡◌, ℕ, ◌-◌, List, Ok}
use Rattle.std.specs.Str.{IsUtf8}
use Rattle.cbor_edn_parts.specs.space.Spacing.{indented}
use Rattle.cbor_edn_model.specs.tree.Items.{nesting}
use Rattle.cbor_edn_model.specs.tree.Trees.{Tree, Seq, Valid, items, text}
use Rattle.cbor_edn_conversions.specs.Bignums.{pretty_bignum}
use Rattle.cbor_edn_conversions.specs.Cose.{comment_cose}
use Rattle.cbor_edn_conversions.specs.CoseKeys.{with_key_names}
use Rattle.cbor_edn_conversions.specs.EmbeddedItems.{shown, with_literals}
use Rattle.cbor_edn_conversions.specs.MessageClaims.{message_claims}
use Rattle.cbor_edn_application.specs.Sequences.{with_each}
use Rattle.cbor_edn_command.specs.FileOptions.{show_steps}
use Rattle.cbor_edn_command.specs.Hexadecimal.{input_bytes}
use Rattle.cbor_edn_command.specs.declared.file_options.ShowOptions.{ShowOptions}
use Rattle.cbor_edn_harmless.specs.Harmless.{harmless}
use Rattle.cbor_edn.specs.Format.{ended}
use Rattle.cbor_edn.specs.RunSteps.{Step, Where, InTurn, IsLaidOut, TagsVisited, HasClaims, AnnotatesTags}
use Rattle.cbor_edn.specs.Runs.{IsDecodedAs, IsRefused}
use Rattle.cbor_edn.specs.declared.engine.RunError.{RunError}

-- ---- the steps

-- Byte strings that hold CBOR become embedded sequences, to so many levels, as deep as the deepest item leaves room within the limit.
abbrev pub EmbeddedShown : ℕ → ℕ → Step
EmbeddedShown levels limit w v = v ≡ with_literals (shown levels (limit - nesting (items w))) w

-- names of the COSE keys in each item that is a claims set
abbrev pub HasKeyNames : Step
HasKeyNames w v = v ≡ with_each with_key_names w

-- Each item that is a map has the comments of a claims set, with the names of the keys in it, and so has each payload of a COSE message that
-- is shown as a map.
abbrev pub ClaimsAnnotated : Step
ClaimsAnnotated = InTurn HasClaims (InTurn HasKeyNames (TagsVisited message_claims))

-- What is made of the tree that is decoded, in this order: embedded CBOR is shown, so that the other steps find what is in it, tags and claims
-- are annotated, messages are named, bignums become integers, and the spaces are set.
abbrev pub ShowGives : ShowOptions → Step
ShowGives s =
    InTurn (EmbeddedShown s.levels s.limit)
    (InTurn AnnotatesTags
    (InTurn (Where s.annotate_ccs ClaimsAnnotated)
    (InTurn (Where s.names (TagsVisited comment_cose))
    (InTurn (Where s.bignum_from_tags (TagsVisited pretty_bignum))
    (IsLaidOut indented)))))

-- ---- what is written

-- the text of a tree without what acts on a terminal
abbrev pub IsHarmlessOf : Tree Seq → List ℕ → Type 0
IsHarmlessOf v out = Valid v × IsUtf8 (text v) × (out ≡ text (harmless v))

-- the same with a line feed at its end
abbrev pub IsWritten : Tree Seq → List ℕ → Type 0
IsWritten v out = (shown : List ℕ) × IsHarmlessOf v shown × (out ≡ ended shown)

-- the text that is written of some bytes
abbrev pub AreShown : ShowOptions → List ℕ → List ℕ → Type 0
AreShown s bytes out = (w v : Tree Seq) × IsDecodedAs s.limit bytes w × ShowGives s w v × IsWritten v out

-- What is written of an input: `18([<<{1/ alg /: -7/ ES256 /}>>/ protected /, {}/ unprotected /, h''/ payload /, null/ signature /])/ COSE_Sign1 /`
-- with the spaces of the indented layout, of `84 43 a1 01 26 a0 40 f6` behind `d2`.
abbrev pub IsShown : ShowOptions → List ℕ → List ℕ → Type 0
IsShown s input out = (bytes : List ℕ) × (input_bytes s.hex input ≡ Ok bytes) × AreShown s bytes out

-- Why nothing is written of it: for what `cbor2diag` refuses, and nothing else.
abbrev pub IsUnshown : ShowOptions → List ℕ → RunError → Type 0
IsUnshown s = IsRefused (show_steps s)
