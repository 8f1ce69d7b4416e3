use Rattle.std.proofs.Common.{rules, ◌≡◌, ◌≢◌, None, Some, ap, sym, ◌∙◌}
use Rattle.std.specs.Prelude.{string_bytes}
use Rattle.cbor_edn_files.specs.Moments.{newest}
use Rattle.cbor_edn_files_tests.specs.Changes.{moments_of, with_file}
use Rattle.cbor_edn_files_tests.specs.declared.memory.Change.TheVariants.{Made, Renamed, Removed}
use Rattle.cbor_edn_files_tests.proofs.Moments.{behind, in_place, beside}
use Rattle.cbor_edn_files_tests.proofs.memory.+bytes_behind.Goals as goal

pub returns-then-eq : goal.returns-then-eq
returns-then-eq t c =
    let e : string_bytes c.in-Made.made ≡ c.args.name.now = search rules in
    let s = newest (moments_of c.in-Some.earlier.now) in
    ap Some c.as_slice.ensures.value ∙ sym (behind c.args.changes.now c.in-Some.earlier.now c.in-Some.last.now (Made c.in-Made.made c.in-Made.bytes) c.args.name.now c.in-Some.ensures.cases.0 c.in-Made.is
    ∙ in_place (string_bytes c.in-Made.made) c.args.name.now (Some c.in-Made.bytes.items) s e)

pub returns-else-eq : goal.returns-else-eq
returns-else-eq t c =
    let e : string_bytes c.in-Made.made ≢ c.args.name.now = search rules in
    let s = newest (moments_of c.in-Some.earlier.now) in
    c.bytes_behind.ensures ∙ sym (behind c.args.changes.now c.in-Some.earlier.now c.in-Some.last.now (Made c.in-Made.made c.in-Made.bytes) c.args.name.now c.in-Some.ensures.cases.0 c.in-Made.is
    ∙ beside (string_bytes c.in-Made.made) c.args.name.now (Some c.in-Made.bytes.items) s e)

pub returns-then-eq-2 : goal.returns-then-eq-2
returns-then-eq-2 t c =
    let e : string_bytes c.in-Renamed.to ≡ c.args.name.now = search rules in
    let s = newest (moments_of c.in-Some.earlier.now) in
    c.bytes_behind-then-eq-2.ensures ∙ ap s c.as_str-then-eq-2.ensures.value
    ∙ sym (behind c.args.changes.now c.in-Some.earlier.now c.in-Some.last.now (Renamed c.in-Renamed.from c.in-Renamed.to) c.args.name.now c.in-Some.ensures.cases.0 c.in-Renamed.is
    ∙ in_place (string_bytes c.in-Renamed.to) c.args.name.now (s (string_bytes c.in-Renamed.from)) (with_file (string_bytes c.in-Renamed.from) None s) e)

pub returns-then-eq-3 : goal.returns-then-eq-3
returns-then-eq-3 t c =
    let d : string_bytes c.in-Renamed.to ≢ c.args.name.now = search rules in
    let e : string_bytes c.in-Renamed.from ≡ c.args.name.now = search rules in
    let s = newest (moments_of c.in-Some.earlier.now) in
    sym (behind c.args.changes.now c.in-Some.earlier.now c.in-Some.last.now (Renamed c.in-Renamed.from c.in-Renamed.to) c.args.name.now c.in-Some.ensures.cases.0 c.in-Renamed.is
    ∙ beside (string_bytes c.in-Renamed.to) c.args.name.now (s (string_bytes c.in-Renamed.from)) (with_file (string_bytes c.in-Renamed.from) None s) d
    ∙ in_place (string_bytes c.in-Renamed.from) c.args.name.now None s e)

pub returns-else-eq-3 : goal.returns-else-eq-3
returns-else-eq-3 t c =
    let d : string_bytes c.in-Renamed.to ≢ c.args.name.now = search rules in
    let e : string_bytes c.in-Renamed.from ≢ c.args.name.now = search rules in
    let s = newest (moments_of c.in-Some.earlier.now) in
    c.bytes_behind-else-eq-3.ensures
    ∙ sym (behind c.args.changes.now c.in-Some.earlier.now c.in-Some.last.now (Renamed c.in-Renamed.from c.in-Renamed.to) c.args.name.now c.in-Some.ensures.cases.0 c.in-Renamed.is
    ∙ beside (string_bytes c.in-Renamed.to) c.args.name.now (s (string_bytes c.in-Renamed.from)) (with_file (string_bytes c.in-Renamed.from) None s) d
    ∙ beside (string_bytes c.in-Renamed.from) c.args.name.now None s e)

pub returns-then-eq-4 : goal.returns-then-eq-4
returns-then-eq-4 t c =
    let e : string_bytes c.in-Removed.removed ≡ c.args.name.now = search rules in
    let s = newest (moments_of c.in-Some.earlier.now) in
    sym (behind c.args.changes.now c.in-Some.earlier.now c.in-Some.last.now (Removed c.in-Removed.removed) c.args.name.now c.in-Some.ensures.cases.0 c.in-Removed.is
    ∙ in_place (string_bytes c.in-Removed.removed) c.args.name.now None s e)

pub returns-else-eq-4 : goal.returns-else-eq-4
returns-else-eq-4 t c =
    let e : string_bytes c.in-Removed.removed ≢ c.args.name.now = search rules in
    let s = newest (moments_of c.in-Some.earlier.now) in
    c.bytes_behind-else-eq-4.ensures
    ∙ sym (behind c.args.changes.now c.in-Some.earlier.now c.in-Some.last.now (Removed c.in-Removed.removed) c.args.name.now c.in-Some.ensures.cases.0 c.in-Removed.is
    ∙ beside (string_bytes c.in-Removed.removed) c.args.name.now None s e)
