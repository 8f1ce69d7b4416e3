-- Tags of addresses have a literal by their version, and tags of another number none.
use Rattle.std.proofs.Common.{◌≡◌, ◌==◌, ℕ, Bool, true, false, Option, Some, None, refl, sym, ap, ◌∙◌, subst, eqb-true}
use Rattle.std.specs.Prelude.{if◌then◌else◌}
use Rattle.cbor_edn_parts.specs.declared.base.indicator.Indicator.{Indicator}
use Rattle.cbor_edn_model.specs.declared.text.opener.OpenerKind.TheVariants as opener
use Rattle.cbor_edn_model.specs.access.Accessed.{inner_item}
use Rattle.cbor_edn_model.specs.visit.Seeking.{number}
use Rattle.cbor_edn_model.specs.tree.Trees.{Tree, OneItem, NumberTree, FloatTree, NamedTree, EnclosedTree, ListTree, StringTree, StreamTree}
use Rattle.cbor_edn_times_and_addresses.specs.declared.address.IpVersion.{IpVersion}
use Rattle.cbor_edn_times_and_addresses.specs.declared.address.IpVersion.TheVariants.{V4, V6}
use Rattle.cbor_edn_conversions.specs.Conversions.{called_tag, without_tag}
use Rattle.cbor_edn_conversions.specs.Addresses.{address_tag, address_literal, address_of_tag}
use Rattle.cbor_edn_application.proofs.TagParts.{parts}

module _ (n : ℕ) (none : (i : Option Indicator) (x : Tree OneItem) → address_of_tag (Some (n, i, x)) ≡ None) where
  other_number : (m : ℕ) (i : Option Indicator) (x : Tree OneItem) (b : Bool) → (n == m) ≡ b → address_of_tag (if b then Some (m, i, x) else None) ≡ None
  other_number m i x true e = subst (λ k. address_of_tag (Some (k, i, x)) ≡ None) (eqb-true n m e) (none i x)
  other_number m i x false e = refl

  pub no_literal : (w : Tree OneItem) → address_of_tag (called_tag (number n) w) ≡ None
  no_literal (EnclosedTree (opener.Tag i m) c) = other_number m i (inner_item c) (n == m) refl
  no_literal (EnclosedTree opener.Simple c) = refl
  no_literal (NumberTree x i) = refl
  no_literal (FloatTree f i) = refl
  no_literal (NamedTree b) = refl
  no_literal (ListTree k c) = refl
  no_literal (StringTree c) = refl
  no_literal (StreamTree s m) = refl

-- the tag of a version
pub literal_of : (version : IpVersion) (i : Option Indicator) (w : Tree OneItem) → address_of_tag (Some (address_tag version, i, w)) ≡ Some (without_tag i (address_tag version) (address_literal w version true))
literal_of V4 i w = refl
literal_of V6 i w = refl

-- an item, by the parts of the tag of a version
module _ (version : IpVersion) (n : ℕ) (w : Tree OneItem) (is : n ≡ address_tag version) where
  pub no_parts : None ≡ called_tag (number n) w → address_of_tag (called_tag (number (address_tag version)) w) ≡ None
  no_parts none = ap address_of_tag (sym (subst (λ n. None ≡ called_tag (number n) w) is none))

  pub parts_are : (i : Option Indicator) (x : Tree OneItem) → Some (parts n i x) ≡ called_tag (number n) w → called_tag (number (address_tag version)) w ≡ Some (parts (address_tag version) i x)
  parts_are i x are = sym (subst (λ n. Some (parts n i x) ≡ called_tag (number n) w) is are)

  pub literal_is : (i : Option Indicator) (x : Tree OneItem) → Some (parts n i x) ≡ called_tag (number n) w → address_of_tag (called_tag (number (address_tag version)) w) ≡ Some (without_tag i (address_tag version) (address_literal x version true))
  literal_is i x are = ap address_of_tag (parts_are i x are) ∙ literal_of version i x
