-- Maps whose keys get names.
use Rattle.std.proofs.Common.{◌≡◌, Option, None, Some, sym, ap, ◌∙◌}
use Rattle.cbor_edn_model.specs.access.Accessed.{map_items}
use Rattle.cbor_edn_model.specs.tree.Trees.{Tree, OneItem}
use Rattle.cbor_edn_conversions.specs.Claims.{KeyReply}
use Rattle.cbor_edn_conversions.specs.Conversions.{Reply}
use Rattle.cbor_edn_conversions.specs.Cose.{header_key}
use Rattle.cbor_edn_conversions.specs.CoseKeys.{with_names, key_label, method_key, cnf_key}
use Rattle.cbor_edn_conversions.specs.CoseTables.{headers}
use Rattle.cbor_edn_conversions.specs.Tables.{found}
use Rattle.cbor_edn_conversions.specs.declared.tables.KeyType.{KeyType}
use Rattle.cbor_edn_conversions.proofs.conversions.CoseKept.{opener_leaves, method_key_leaves, cnf_key_leaves}
use Rattle.cbor_edn_conversions.proofs.conversions.KeysLeft.{Leaves}
use Rattle.cbor_edn_application.proofs.MapVisits.{Keeps, no_map}

-- what is no map stays
pub no_names : (at_key : Tree OneItem → KeyReply) (w v : Tree OneItem) → map_items w ≡ None → v ≡ w → v ≡ with_names at_key w
no_names at_key w v none same = same ∙ sym (ap (λ p. p.1) (no_map at_key w none))

keeps : (o : Option (Tree OneItem → Reply)) → Leaves o → Keeps o
keeps None h = tt
keeps (Some f) h = h

pub headers_kept : (k : Tree OneItem) → Keeps (header_key k).1
headers_kept k = keeps (header_key k).1 (opener_leaves (found headers) k)

pub openers_kept : (t : Option KeyType) (k : Tree OneItem) → Keeps (key_label t k).1
openers_kept t k = keeps (key_label t k).1 (opener_leaves _ k)

pub methods_kept : (k : Tree OneItem) → Keeps (method_key k).1
methods_kept k = keeps (method_key k).1 (method_key_leaves k)

pub cnf_kept : (k : Tree OneItem) → Keeps (cnf_key k).1
cnf_kept k = keeps (cnf_key k).1 (cnf_key_leaves k)
