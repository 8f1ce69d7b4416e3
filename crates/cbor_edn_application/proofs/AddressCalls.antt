-- Conversions of addresses, by the texts that they take.
use Rattle.std.proofs.Common.{◌≡◌, ℕ, ℤ, Bool, true, false, cond, codes, List, [], ◌∷◌, Option, Some, None, Result, Ok, Err, refl, sym, ap, ◌∙◌, subst}
use Rattle.std.specs.Prelude.{option_map, is_some}
use Rattle.cbor_edn_model.specs.access.Accessed.{item_bytes, array_items}
use Rattle.cbor_edn_model.specs.tree.Trees.{Tree, OneItem}
use Rattle.cbor_edn_model.specs.visit.Visits.{Answer}
use Rattle.cbor_edn_times_and_addresses.specs.declared.address.IpVersion.{IpVersion}
use Rattle.cbor_edn_conversions.specs.Integers.{item_integer}
use Rattle.cbor_edn_conversions.specs.Conversions.{Message, Conversion, reply, converted, changed_encoding, item_encoding, mean_the_same, literal_tree}
use Rattle.cbor_edn_conversions.specs.Addresses.{whole_text, prefix_text, address_prefix, if_same, as_literal, with_first, as_first, by_length, by_others, by_first, by_elements}
use Rattle.cbor_edn_conversions.proofs.conversions.FirstElements.{first_literal_is}
use Rattle.std.specs.declared.net.ip_addr.IpAddr.{IpAddr}
use Rattle.cbor_edn_parts.specs.internal.ContentReading.{same}
use Rattle.cbor_edn_times_and_addresses.specs.declared.address.AddressError.{AddressError}
use Rattle.cbor_edn_times_and_addresses.specs.Address.{Reads}
use Rattle.cbor_edn_times_and_addresses.proofs.ReadAddresses.{computed}
use Rattle.cbor_edn_conversions.specs.Addresses.{address_item, read_item, address_of_literal}
use Rattle.cbor_edn_application.specs.Acts.{ActsSo}

abbrev pub refused : Message → Conversion
refused e = Err e

abbrev pub becomes : Tree OneItem → Conversion
becomes w = Ok w

pub other_prefix : (p t : List ℕ) → same p (codes "ip") ≡ false → same p (codes "IP") ≡ false → address_of_literal p t ≡ None
other_prefix p t e f = rw (e, f) refl

-- what a literal stands for, by the answer of its reader
pub address_read : (wrap : Bool) (t : List ℕ) (r : Result (IpAddr × Option ℕ) AddressError) → Reads t r → address_item wrap t ≡ read_item wrap r
address_read wrap t r h = ap (read_item wrap) (computed t r h)

-- an item is answered by what is one conversion and the same as another
pub acts_so : (o p : Option Conversion) (w v : Tree OneItem) (r : Answer) → o ≡ p → ActsSo (λ x. reply x o) w r v → ActsSo (λ x. reply x p) w r v
acts_so o p w v r e h = subst (λ o. ActsSo (λ x. reply x o) w r v) e h

abbrev text : List ℕ → Result (List ℕ) Message
text t = Ok t

text_is : (t u : Result (List ℕ) Message) → Some t ≡ Some u → t ≡ u
text_is t u e = cc

module _ (version : IpVersion) (wrap : Bool) (w : Tree OneItem) where
  -- two elements
  pub two_elements : (e s : Tree OneItem) (es : List (Tree OneItem)) → es ≡ s ∷ [] → by_others version wrap w e es ≡ by_length version wrap w (item_integer e) (item_bytes s)
  two_elements e s es is = ap (by_others version wrap w e) is

  pub no_length : (o : Option ℤ) (p : Option (List ℕ)) → None ≡ o → by_length version wrap w o p ≡ refused (codes "Address with prefix is inexpressible in IP'' literal")
  no_length o p is = ap (λ o. by_length version wrap w o p) (sym is)

  pub no_second : (o : Option ℤ) (p : Option (List ℕ)) (z : ℤ) → Some z ≡ o → None ≡ p → by_length version wrap w o p ≡ refused (codes "Second element after an integer must be a byte string")
  no_second o p z is none = ap (λ o. by_length version wrap w o p) (sym is) ∙ ap (λ p. by_length version wrap w (Some z) p) (sym none)

  pub length_text_is : (o : Option ℤ) (p : Option (List ℕ)) (z : ℤ) (bs : List ℕ) (t : Result (List ℕ) Message) → Some z ≡ o → Some bs ≡ p → prefix_text version z bs ≡ t → by_length version wrap w o p ≡ as_literal version wrap w t
  length_text_is o p z bs t is are text =
      ap (λ o. by_length version wrap w o p) (sym is) ∙ (ap (λ p. by_length version wrap w (Some z) p) (sym are) ∙ ap (as_literal version wrap w) text)

-- the text of bytes
pub text_of_bytes : (version : IpVersion) (o : Option (List ℕ)) (bs : List ℕ) (t : Result (List ℕ) Message) → Some bs ≡ o → whole_text version bs ≡ t → option_map (whole_text version) o ≡ Some t
text_of_bytes version o bs t are is = ap (option_map (whole_text version)) (sym are) ∙ ap (λ (x : Result (List ℕ) Message). Some x) is

pub resolved : (p q t u : List ℕ) (wrap : Bool) → p ≡ q → t ≡ u → ((t : List ℕ) → address_of_literal p t ≡ Some (address_item wrap t)) → Some (address_item wrap t) ≡ address_of_literal q u
resolved p q t u wrap e f is = ap (λ t. Some (address_item wrap t)) f ∙ sym (subst (λ p. address_of_literal p u ≡ Some (address_item wrap u)) e (is u))

pub unresolved : (p q u : List ℕ) → p ≡ q → ((t : List ℕ) → address_of_literal p t ≡ None) → None ≡ address_of_literal q u
unresolved p q u e is = sym (subst (λ p. address_of_literal p u ≡ None) e (is u))

-- the literal of a first element that is bytes
module _ (version : IpVersion) (wrap : Bool) (w e : Tree OneItem) (es : List (Tree OneItem)) (t : List ℕ) (are : array_items w ≡ Some (e ∷ es)) where
  first_is : as_first version wrap w (Ok t) ≡ cond (is_some (item_encoding w)) (converted (as_literal version false e (Ok t)) (λ l. Ok (with_first version wrap w l))) (Err changed_encoding)
  first_is = first_literal_is version wrap w e es are t

  pub first_put : (l : Tree OneItem) (bs : List ℕ) → as_literal version false e (Ok t) ≡ Ok l → Some bs ≡ item_encoding w → as_first version wrap w (Ok t) ≡ becomes (with_first version wrap w l)
  first_put l bs is means = first_is ∙ (ap (λ o. cond (is_some o) (converted (as_literal version false e (Ok t)) (λ l. becomes (with_first version wrap w l))) (Err changed_encoding)) (sym means) ∙ ap (λ c. converted c (λ l. becomes (with_first version wrap w l))) is)

  pub first_meaningless : None ≡ item_encoding w → as_first version wrap w (Ok t) ≡ refused changed_encoding
  first_meaningless none = first_is ∙ ap (λ o. cond (is_some o) (converted (as_literal version false e (Ok t)) (λ l. becomes (with_first version wrap w l))) (refused changed_encoding)) (sym none)

  -- the only refusal
  same_message : (new : Tree OneItem) (c : Conversion) (x : Message) → if_same version false e new c ≡ refused x → changed_encoding ≡ x
  same_message new (Err y) x is = cc
  same_message new (Ok back) x is = by (mean_the_same e back) is
    where
      by : (b : Bool) → cond b (becomes new) (refused changed_encoding) ≡ refused x → changed_encoding ≡ x
      by true f = absurd cc
      by false f = cc

  pub first_refused : (x : Message) → as_literal version false e (Ok t) ≡ refused x → as_first version wrap w (Ok t) ≡ refused x
  first_refused x is = first_is ∙ by (is_some (item_encoding w))
    where
      by : (b : Bool) → cond b (converted (as_literal version false e (Ok t)) (λ l. becomes (with_first version wrap w l))) (refused changed_encoding) ≡ refused x
      by true = ap (λ c. converted c (λ l. becomes (with_first version wrap w l))) is
      by false = ap refused (same_message (literal_tree (address_prefix false) t) (address_item false t) x is)

  by_text : (o : Option (List ℕ)) → option_map (whole_text version) o ≡ Some (text t) → by_first version wrap w o e es ≡ as_first version wrap w (text t)
  by_text (Some bs) is = ap (as_first version wrap w) (text_is (whole_text version bs) (text t) is)
  by_text None is = absurd cc

  -- what stands for an array with such an element
  pub by_first_text : option_map (whole_text version) (item_bytes e) ≡ Some (text t) → by_elements version wrap w (array_items w) ≡ as_first version wrap w (text t)
  by_first_text is = ap (by_elements version wrap w) are ∙ by_text (item_bytes e) is
