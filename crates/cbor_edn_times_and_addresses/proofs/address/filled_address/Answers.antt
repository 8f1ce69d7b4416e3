use Rattle.std.proofs.Common.{◌∙◌, ◌++◌, ap, length, drop, replicate}
use Rattle.std.proofs.lemmas.List.{drop-replicate}
use Rattle.std.specs.Net.Addr.{segments_of}
use Rattle.std.specs.declared.net.ip_addr.IpAddr.TheVariants.{V6}
use Rattle.cbor_edn_times_and_addresses.proofs.address.filled_address.Goals as goal

pub returns-in-V6-clause-value : goal.returns-in-V6-clause-value
returns-in-V6-clause-value c =
    let bytes = c.args.bytes.now in
    let zeros = drop-replicate (length bytes) 16 0 in
    let e = c.from_octets-in-V6.ensures
    ∙ ap (λ x. segments_of (x ++ drop (length bytes) (replicate 16 0))) c.copy_from_slice-in-V6.ensures.after
    ∙ ap (λ x. segments_of (bytes ++ x)) zeros in
    rw c.in-V6.is (λ i. V6 (record { segments = e i }))
