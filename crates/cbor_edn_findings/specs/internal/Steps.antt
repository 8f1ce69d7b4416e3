-- A walk over heads, with what is open.
use Rattle.std.specs.Prelude.{ℕ, zero, suc, ◌-◌, ◌*◌, nat_lt, nat_le, ◌==◌, ◌&&◌, ◌||◌, not, Bool, true, false, if◌then◌else◌, List, [], ◌∷◌, length, take, drop, Option, Some, None, Result, Ok, Err, option_map, option_and_then}
use Rattle.std.specs.Option.{is_some}
use Rattle.cbor_edn_parts.specs.declared.string.StringKind.{StringKind}
use Rattle.cbor_edn_parts.specs.declared.string.StringKind.TheVariants.{Bytes, Text}
use Rattle.cbor_edn_model.specs.declared.cbor.heads.Width.{Width}
use Rattle.cbor_edn_model.specs.declared.cbor.heads.Width.TheVariants.{Immediate, One, Two, Four, Eight}
use Rattle.cbor_edn_model.specs.declared.cbor.decode.CborError.{CborError}
use Rattle.cbor_edn_model.specs.cbor.Value.{is_content, string_major}
use Rattle.cbor_edn_model.specs.internal.CborReading.{Argument, DecoderResult, Head, head_at, float_of}
use Rattle.cbor_edn_findings.specs.declared.bytes.Open.{Open}
use Rattle.cbor_edn_findings.specs.declared.bytes.Open.TheVariants.{Counted, Items, Pairs, Chunks}

-- the innermost first
abbrev pub Opened : Type 0
Opened = List Open

-- what stands behind a head and belongs to it alone
abbrev pub Content : Type 0
Content = Option (StringKind × ℕ)

abbrev pub is_ended : Open → Bool
is_ended (Counted zero) = true
is_ended (Counted (suc n)) = false
is_ended Items = false
is_ended (Pairs b) = false
is_ended (Chunks k) = false

-- without what has ended
abbrev pub closed : Opened → Opened
closed [] = []
closed (o ∷ s) = if is_ended o then closed s else o ∷ s

-- what has to come behind an item
abbrev pub behind_item : Open → Open
behind_item (Counted n) = Counted (n - 1)
behind_item Items = Items
behind_item (Pairs b) = Pairs (not b)
behind_item (Chunks k) = Chunks k

abbrev pub ends_by_break : Option Open → Bool
ends_by_break None = false
ends_by_break (Some (Counted n)) = false
ends_by_break (Some Items) = true
ends_by_break (Some (Pairs b)) = not b
ends_by_break (Some (Chunks k)) = true

abbrev pub opened_by : ℕ → Argument → Option Open
opened_by major None =
    if major == 2 then Some (Chunks Bytes)
    else if major == 3 then Some (Chunks Text)
    else if major == 4 then Some Items
    else if major == 5 then Some (Pairs false)
    else None
opened_by major (Some (w, n)) =
    if major == 4 then Some (Counted n)
    else if major == 5 then Some (Counted (2 * n))
    else if major == 6 then Some (Counted 1)
    else None

abbrev pub nests : Open → Bool
nests (Counted n) = true
nests Items = true
nests (Pairs b) = true
nests (Chunks k) = false

abbrev pub is_simple : ℕ → ℕ → Bool
is_simple room n = (nat_le 20 n && nat_lt n 24) || nat_lt 0 room

abbrev pub is_special : ℕ → Width → ℕ → Bool
is_special room Immediate n = is_simple room n
is_special room One n = nat_le 32 n && is_simple room n
is_special room Two n = is_some (float_of Two n)
is_special room Four n = is_some (float_of Four n)
is_special room Eight n = is_some (float_of Eight n)

abbrev pub nothing_if : Bool → Option Content
nothing_if b = if b then Some None else None

abbrev pub content_of_break : Option Open → Option Content
content_of_break top = nothing_if (ends_by_break top)

abbrev pub content_of : ℕ → ℕ → Argument → Option Content
content_of room major None = None
content_of room major (Some (w, n)) =
    if major == 0 then Some None
    else if major == 1 then Some None
    else if major == 2 then Some (Some (Bytes, n))
    else if major == 3 then Some (Some (Text, n))
    else if major == 7 then nothing_if (is_special room w n)
    else None

abbrev pub content_of_chunk : StringKind → ℕ → Argument → Option Content
content_of_chunk k major None = None
content_of_chunk k major (Some (w, n)) = if major == string_major k then Some (Some (k, n)) else None

abbrev pub entered : Bool → Open → Opened → Option (Opened × Content)
entered deep o s = if deep then None else Some (o ∷ s, None)

abbrev pub item_begun_by : ℕ → Opened → ℕ → Argument → Option Open → Option (Opened × Content)
item_begun_by limit s major argument None = option_map (λ c. (s, c)) (content_of (limit - length s) major argument)
item_begun_by limit s major argument (Some o) = entered (nests o && nat_le limit (length s)) o s

abbrev pub item_begun : ℕ → Opened → ℕ → Argument → Option (Opened × Content)
item_begun limit s major argument = item_begun_by limit s major argument (opened_by major argument)

abbrev pub is_break : ℕ → Argument → Bool
is_break major None = major == 7
is_break major (Some a) = false

-- behind a head that is no break
abbrev pub gone_further : ℕ → Opened → ℕ → Argument → Option (Opened × Content)
gone_further limit [] major argument = item_begun limit [] major argument
gone_further limit (Counted n ∷ s) major argument = item_begun limit (behind_item (Counted n) ∷ s) major argument
gone_further limit (Items ∷ s) major argument = item_begun limit (Items ∷ s) major argument
gone_further limit (Pairs b ∷ s) major argument = item_begun limit (Pairs (not b) ∷ s) major argument
gone_further limit (Chunks k ∷ s) major argument = option_map (λ c. (Chunks k ∷ s, c)) (content_of_chunk k major argument)

abbrev pub ended : Bool → Opened → Option (Opened × Content)
ended ends s = if ends then Some (s, None) else None

abbrev pub broken : Opened → Option (Opened × Content)
broken [] = None
broken (o ∷ s) = ended (ends_by_break (Some o)) s

abbrev pub gone_closed : ℕ → Opened → ℕ → Argument → Option (Opened × Content)
gone_closed limit s major argument = if is_break major argument then broken s else gone_further limit s major argument

abbrev pub gone_behind : ℕ → Opened → ℕ → Argument → Option (Opened × Content)
gone_behind limit s major argument = gone_closed limit (closed s) major argument

abbrev pub behind_content : Content → List ℕ → Option (List ℕ)
behind_content None rest = Some rest
behind_content (Some (k, n)) rest = if nat_lt (length rest) n then None else if is_content k (take n rest) then Some (drop n rest) else None

abbrev pub step_behind : List ℕ → Option (Opened × Content) → Option (Opened × List ℕ)
step_behind rest None = None
step_behind rest (Some p) = option_map (λ r. (p.0, r)) (behind_content p.1 rest)

abbrev pub step_by : ℕ → Opened → DecoderResult Head → Option (Opened × List ℕ)
step_by limit s (Err e) = None
step_by limit s (Ok (h, rest)) = step_behind rest (gone_behind limit s h.0 h.1)

-- Behind the head that bytes begin with and its content: what is open then, and the bytes behind; none where it is refused.
abbrev pub step : ℕ → Opened → List ℕ → Option (Opened × List ℕ)
step limit s bytes = step_by limit s (head_at bytes)
