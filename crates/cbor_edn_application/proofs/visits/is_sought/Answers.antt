use Rattle.std.proofs.Common.{ℕ, ◌≡◌, ◌∙◌, List, Bool, true, false, refl, sym, ap, None}
use mathlib.Core.Bool.{not, true≢false}
use Rattle.cbor_edn_model.specs.visit.Seeking.{prefix_and_text}
use Rattle.cbor_edn_model.specs.tree.Trees.{Tree, OneItem}
use Rattle.cbor_edn_model.specs.visit.Visits.{fine}
use Rattle.cbor_edn_conversions.specs.Addresses.{address_of_literal, resolve_address}
use Rattle.cbor_edn_conversions.specs.All.{resolve_all}
use Rattle.cbor_edn_conversions.specs.Conversions.{and_then, reply}
use Rattle.cbor_edn_conversions.specs.Tag999.{is_built_in, to_tag999}
use Rattle.cbor_edn_conversions.specs.Times.{resolve_time, time_of_literal}
use Rattle.cbor_edn_application.proofs.visits.is_sought.Goals as goal

-- At a literal of prefix p that stands for nothing nothing is done.
module _ (p t : List ℕ) (w : Tree OneItem) where
  time_idle : time_of_literal p t ≡ None → resolve_time (prefix_and_text p t) w ≡ (fine, w)
  unfolding resolve_time
  time_idle none = ap (reply w) none

  address_idle : address_of_literal p t ≡ None → resolve_address (prefix_and_text p t) w ≡ (fine, w)
  unfolding resolve_address
  address_idle none = ap (reply w) none

  all_idle : time_of_literal p t ≡ None → address_of_literal p t ≡ None → resolve_all (prefix_and_text p t) w ≡ (fine, w)
  all_idle no_time no_address = ap (λ r. and_then r (resolve_address (prefix_and_text p t))) (time_idle no_time) ∙ address_idle no_address

  tag999_idle : is_built_in p ≡ true → to_tag999 (prefix_and_text p t) w ≡ (fine, w)
  unfolding to_tag999
  tag999_idle is = rw is refl

was_true : (b : Bool) → not b ≡ false → b ≡ true
was_true true e = refl
was_true false e = absurd (true≢false e)

pub returns-else-is_time : goal.returns-else-is_time
returns-else-is_time c e t w = rw c.in-Resolve.is (all_idle c.args.prefix.now t w (c.is_time.ensures c.if-is_time.false t) (c.is_address.ensures e t))

pub returns-in-Addresses : goal.returns-in-Addresses
returns-in-Addresses c e t w = rw c.in-Addresses.is (address_idle c.args.prefix.now t w (c.is_address-in-Addresses.ensures e t))

pub returns-in-Times : goal.returns-in-Times
returns-in-Times c e t w = rw c.in-Times.is (time_idle c.args.prefix.now t w (c.is_time-in-Times.ensures e t))

pub returns-in-To999 : goal.returns-in-To999
returns-in-To999 c e t w = rw c.in-To999.is (tag999_idle c.args.prefix.now t w (sym c.is_built_in.ensures ∙ was_true c.is_built_in.result e))
