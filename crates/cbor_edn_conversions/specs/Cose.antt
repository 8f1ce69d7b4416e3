-- Messages of COSE (RFC 9052) with their names, those of their parts and of their header parameters:
-- `18([<<{1/ alg /: -7/ ES256 /}>>/ protected /, {}/ unprotected /, h'00'/ payload /, h'00'/ signature /])/ COSE_Sign1 /`.
use Rattle.std.specs.Prelude.{ℕ, zero, suc, pos, ◌^◌, ◌-◌, List, Option, None, Some, if◌then◌else◌, slice_get}
use Rattle.cbor_edn_model.specs.declared.text.opener.OpenerKind.TheVariants as opener
use Rattle.cbor_edn_model.specs.access.Paths.{items_in, with_item}
use Rattle.cbor_edn_model.specs.tree.Items.{Elements, Array}
use Rattle.cbor_edn_model.specs.tree.Trees.{Tree, OneItem, EnclosedTree, ListTree, FullTree, ElementTree}
use Rattle.cbor_edn_model.specs.visit.Seeking.{CallArguments}
use Rattle.cbor_edn_model.specs.visit.Visits.{fine, comment, answered}
use Rattle.cbor_edn_conversions.specs.declared.tables.Part.{Part}
use Rattle.cbor_edn_conversions.specs.declared.tables.Part.TheVariants.{Protected, Unprotected, Signatures, Recipients}
use Rattle.cbor_edn_conversions.specs.declared.tables.Structure.{Structure}
use Rattle.cbor_edn_conversions.specs.declared.tables.Structure.TheVariants.{Signer, Recipient}
use Rattle.cbor_edn_conversions.specs.Annotations.{Turn, turned}
use Rattle.cbor_edn_conversions.specs.Claims.{KeyReply, key_of}
use Rattle.cbor_edn_conversions.specs.Conversions.{Reply, tells}
use Rattle.cbor_edn_conversions.specs.CoseKeys.{with_names, with_name}
use Rattle.cbor_edn_conversions.specs.CoseTables.{messages, headers, parts, part_name}
use Rattle.cbor_edn_conversions.specs.EmbeddedItems.{is_structure}
use Rattle.cbor_edn_conversions.specs.Tables.{found}

-- ---- items in items

-- an item in which f is done to the item that stands at i in it, if one does
abbrev pub with_other : ℕ → (Tree OneItem → Tree OneItem) → Tree OneItem → Option (Tree OneItem) → Tree OneItem
with_other i f w None = w
with_other i f w (Some c) = with_item i (f c) w

abbrev pub in_item : ℕ → (Tree OneItem → Tree OneItem) → Tree OneItem → Tree OneItem
in_item i f w = with_other i f w (slice_get (items_in w) i)

-- a string in which f is done to the first item that is embedded in it
abbrev pub in_string : (Tree OneItem → Tree OneItem) → Tree OneItem → Tree OneItem
in_string f w = if is_structure w then w else in_item 0 f w

-- an element by its number, with what is answered of it behind it
abbrev pub replied : (ℕ → Tree OneItem → Reply) → Turn Elements
replied f i (ElementTree w) s = (ElementTree (f i w).1, answered (f i w).0 s)

-- an array element by element; anything else stays
abbrev pub with_elements : (ℕ → Tree OneItem → Reply) → Tree OneItem → Tree OneItem
with_elements f (ListTree Array (FullTree h s m)) = ListTree Array (FullTree h s (turned (replied f) 0 m))
with_elements f w = w

-- ---- headers

abbrev pub header_key : Tree OneItem → KeyReply
header_key = key_of with_name (found headers)

-- a header with the names of its parameters
unfoldable pub with_headers : Tree OneItem → Tree OneItem
with_headers = with_names header_key

-- ---- parts

-- What becomes of a part, by what becomes of the structures in it. The protected header has its comments where it is shown as an embedded
-- sequence.
abbrev pub in_part : (Structure → Tree OneItem → Tree OneItem) → Part → Tree OneItem → Tree OneItem
in_part inner Protected w = in_string with_headers w
in_part inner Unprotected w = with_headers w
in_part inner Signatures w = with_elements (λ i x. (fine, inner Signer x)) w
in_part inner Recipients w = with_elements (λ i x. (fine, inner Recipient x)) w
in_part inner _ w = w

-- elements behind the last part stay, without a comment
abbrev pub part_reply : (Part → Tree OneItem → Tree OneItem) → Option Part → Tree OneItem → Reply
part_reply f None w = (fine, w)
part_reply f (Some p) w = (comment (part_name p), f p w)

-- A structure with the names of its parts, and of what stands in them, to so many levels of signers and recipients.
unfoldable pub with_parts : ℕ → Structure → Tree OneItem → Tree OneItem
with_parts zero x w = w
with_parts (suc n) x w = with_elements (λ i. part_reply (in_part (with_parts n)) (slice_get (parts x) i)) w

-- ---- messages

-- the name and the structure of the message whose tag is the tag of the call
abbrev pub called_message : CallArguments → Tree OneItem → Option (List ℕ × Structure)
called_message a (EnclosedTree (opener.Tag i n) w) = if tells a n then found messages (pos n) else None
called_message a w = None

-- Recipients nest in one another no deeper than that, since no item in memory does.
abbrev pub all_levels : ℕ
all_levels = 2 ^ 64 - 1

abbrev pub named_message : Tree OneItem → Option (List ℕ × Structure) → Reply
named_message w None = (fine, w)
named_message w (Some r) = (comment r.0, in_item 0 (with_parts all_levels r.1) w)

-- `comment_cose`: the name of the message is answered, and its parts have their comments.
unfoldable pub comment_cose : CallArguments → Tree OneItem → Reply
comment_cose a w = named_message w (called_message a w)
