-- Bytes, head by head.
use Rattle.std.specs.Prelude.{◌≡◌, ◌≢◌, ℕ, zero, suc, ◌+◌, ◌-◌, ◌*◌, ◌/◌, ◌%◌, nat_lt, Bool, false, ◌||◌, ◌&&◌, ◌==◌, if◌then◌else◌, List, length, take, drop, ◌≤◌, Option, Some, None, MatchOption, Ok}
use Rattle.std.specs.Fmt.{decimal}
use Rattle.cbor_edn_parts.specs.base.Indicator.{indicator_text}
use Rattle.cbor_edn_parts.specs.string.Contents.{all_escaped, kind_literal}
use Rattle.cbor_edn_parts.specs.declared.string.StringKind.{StringKind}
use Rattle.cbor_edn_model.specs.declared.cbor.heads.Width.{Width}
use Rattle.cbor_edn_model.specs.cbor.Value.{Chunk}
use Rattle.cbor_edn_model.specs.cbor.Decoded.{indicator_of}
use Rattle.cbor_edn_model.specs.internal.CborReading.{Argument, head_at}
use Rattle.cbor_edn_stream.specs.Tags.{among}

-- The number is one that the first byte of a tag's head tells from most others: up to 3 it is in it, from 24 on it is behind it.
abbrev pub is_sought : ℕ → Bool
is_sought n = nat_lt n 4 || nat_lt 23 n

-- the byte begins the head of a tag of such a number
abbrev pub begins_tag : ℕ → Bool
begins_tag byte = ((byte / 32) == 6) && (nat_lt (byte % 32) 4 || (nat_lt 23 (byte % 32) && nat_lt (byte % 32) 28))

-- the head is that of a tag, of one of the numbers
abbrev pub is_head_of : List ℕ → ℕ → Argument → Bool
is_head_of numbers major None = false
is_head_of numbers major (Some (w, n)) = (major == 6) && among numbers n

-- what stands behind the head, and behind the bytes of a string of definite length
abbrev pub behind_content : ℕ → Argument → List ℕ → List ℕ
behind_content major None rest = rest
behind_content major (Some (w, n)) rest = if (major == 2) || (major == 3) then drop n rest else rest

-- what stands behind a head in front that is no tag's, and behind its content
abbrev pub IsBehindOther : List ℕ → List ℕ → Type 0
IsBehindOther bytes behind =
    (major : ℕ) × (argument : Argument) × (rest : List ℕ) × (head_at bytes ≡ Ok ((major, argument), rest)) × (major ≢ 6) × (behind ≡ behind_content major argument rest)

-- the head is a break, which ends what has indefinite length
abbrev pub is_break : ℕ → Argument → Bool
is_break major None = major == 7
is_break major (Some (w, n)) = false

-- how many items a head announces
abbrev pub parts_of : ℕ → Argument → ℕ
parts_of major None = 0
parts_of major (Some (w, n)) = if major == 4 then n else if major == 5 then 2 * n else if major == 6 then 1 else 0

-- how many lists and strings of indefinite length are open behind a head
abbrev pub opened : Argument → ℕ → ℕ
opened None depth = depth + 1
opened (Some (w, n)) depth = depth

-- How many items are due behind a head that announces so many. Where something is open, they stand in it, and are not counted.
abbrev pub owed : ℕ → ℕ → ℕ → ℕ
owed zero due parts = due - 1 + parts
owed (suc depth) due parts = due

-- so many columns with an indicator, and two more
abbrev pub indicated : Width → ℕ → ℕ → ℕ
indicated w n columns = columns + length (indicator_text (indicator_of w n)) + 2

-- How many columns an integer, a string, a list or a tag of definite length shows at the most, without the items in it: with brackets, and with
-- the separator behind it, which a tag has from its content. What stands behind its head is given. Of others nothing is said.
abbrev pub most_columns : ℕ → Argument → List ℕ → Option ℕ
most_columns major None rest = None
most_columns major (Some (w, n)) rest =
    if major == 0 then Some (indicated w n (length (decimal n)))
    else if major == 1 then Some (indicated w n (length (decimal (n + 1)) + 1))
    else if major == 2 then Some (indicated w n (2 * n + 3))
    else if major == 3 then Some (indicated w n (length (all_escaped (take n rest)) + 2))
    else if (major == 4) || (major == 5) then Some (indicated w n 3)
    else if major == 6 then Some (indicated w n (length (decimal n)))
    else None

-- It shows no more than so many.
abbrev pub ShowsWithin : ℕ → Argument → List ℕ → ℕ → Type 0
ShowsWithin major argument rest columns = MatchOption (most_columns major argument rest) ⊥ (λ most. most ≤ columns)

-- How many columns a string of definite length shows with its indicator, and with the separator behind it.
abbrev pub chunk_columns : StringKind → Chunk → ℕ
chunk_columns k c = length (kind_literal k c.1) + length (indicator_text (indicator_of c.0 (length c.1))) + 2
