use Rattle.std.proofs.Common.{◌+◌, ◌≤◌, length, arith}
use Rattle.cbor_edn_parts.proofs.lemmas.string.LiteralPrefixes.{quoted_within}
use Rattle.cbor_edn_parts.proofs.string.Literal.quoted.Goals as goal

within : (c : goal.After-as_bytes) → length c.prefix.result.now + 1 ≤ length c.as_bytes.result.now
within c = rw (c.prefix.ensures, c.as_bytes.ensures.value, c.as_str.ensures) (quoted_within _ c.args.self.now.spelled)

pub slice_bounds-result-count : goal.slice_bounds-result-count
slice_bounds-result-count c = within c

pub slice_bounds-result-start : goal.slice_bounds-result-start
slice_bounds-result-start c = let h = within c in omega arith
