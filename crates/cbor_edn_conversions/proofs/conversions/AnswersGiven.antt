-- Calls of conversions and of comments take no memory.
use Rattle.std.proofs.Common.{◌≢◌, Bool, true, false, cond, Option, Some, None, Ok, Err}
use Rattle.cbor_edn_model.specs.tree.Items.{Array, Map}
use Rattle.cbor_edn_model.specs.tree.Trees.{Tree, OneItem, NumberTree, FloatTree, NamedTree, EnclosedTree, ListTree, StringTree, StreamTree, EmptyTree, FullTree, StandaloneTree}
use Rattle.cbor_edn_model.specs.visit.Visits.{fine, comment, no_memory}
use Rattle.cbor_edn_conversions.specs.Addresses.{resolve_address, pretty_address}
use Rattle.cbor_edn_conversions.specs.All.{resolve_all, pretty_all}
use Rattle.cbor_edn_conversions.specs.Annotations.{with_direction, at_content, is_called_tag, comment_lang}
use Rattle.cbor_edn_conversions.specs.Bignums.{pretty_bignum}
use Rattle.cbor_edn_conversions.specs.Conversions.{Conversion, Reply, reply, and_then}
use Rattle.cbor_edn_conversions.specs.ResolvingLaws.{NeverRefused}
use Rattle.cbor_edn_conversions.specs.Tag999.{to_tag999}
use Rattle.cbor_edn_conversions.specs.Times.{resolve_time, pretty_time}

reply_given : (w : Tree OneItem) (o : Option Conversion) → (reply w o).0 ≢ no_memory
reply_given w None e = absurd cc
reply_given w (Some (Err t)) e = absurd cc
reply_given w (Some (Ok v)) e = absurd cc

then_given : (a : Reply) (f : Tree OneItem → Reply) → a.0 ≢ no_memory → ((v : Tree OneItem) → (f v).0 ≢ no_memory) → (and_then a f).0 ≢ no_memory
then_given (fine, w) f given h = h w
then_given (comment t, w) f given h = given
then_given (no_memory, w) f given h = given

pub pretty_time_given : NeverRefused pretty_time
unfolding pretty_time
pretty_time_given a w = reply_given w _

pub pretty_address_given : NeverRefused pretty_address
unfolding pretty_address
pretty_address_given a w = reply_given w _

pub pretty_bignum_given : NeverRefused pretty_bignum
unfolding pretty_bignum
pretty_bignum_given a w = reply_given w _

pub resolve_time_given : NeverRefused resolve_time
unfolding resolve_time
resolve_time_given a w = reply_given w _

pub resolve_address_given : NeverRefused resolve_address
unfolding resolve_address
resolve_address_given a w = reply_given w _

pub tag999_given : NeverRefused to_tag999
unfolding to_tag999
tag999_given a w = reply_given w _

pub pretty_all_given : NeverRefused pretty_all
pretty_all_given a w = then_given (and_then (pretty_time a w) (pretty_address a)) (pretty_bignum a) (then_given (pretty_time a w) (pretty_address a) (pretty_time_given a w) (pretty_address_given a)) (pretty_bignum_given a)

pub resolve_all_given : NeverRefused resolve_all
resolve_all_given a w = then_given (resolve_time a w) (resolve_address a) (resolve_time_given a w) (resolve_address_given a)

-- ---- comments in a tag 38

direction_given : (w : Tree OneItem) → (with_direction w).0 ≢ no_memory
direction_given (ListTree Array (FullTree h s m)) e = absurd cc
direction_given (ListTree Array (EmptyTree i s)) e = absurd cc
direction_given (ListTree Map w) e = absurd cc
direction_given (StringTree w) e = absurd cc
direction_given (StreamTree s m) e = absurd cc
direction_given (NumberTree z i) e = absurd cc
direction_given (FloatTree f i) e = absurd cc
direction_given (NamedTree b) e = absurd cc
direction_given (EnclosedTree l w) e = absurd cc

content_given : (w : Tree OneItem) → (at_content with_direction w).0 ≢ no_memory
content_given (EnclosedTree l (StandaloneTree s w t)) = direction_given w
content_given (ListTree k w) = λ e. absurd cc
content_given (StringTree w) = λ e. absurd cc
content_given (StreamTree s m) = λ e. absurd cc
content_given (NumberTree z i) = λ e. absurd cc
content_given (FloatTree f i) = λ e. absurd cc
content_given (NamedTree b) = λ e. absurd cc

called_given : (b : Bool) (w : Tree OneItem) → (cond b (at_content with_direction w) (fine, w)).0 ≢ no_memory
called_given true w = content_given w
called_given false w = λ e. absurd cc

pub language_given : NeverRefused comment_lang
unfolding comment_lang
language_given a w = called_given (is_called_tag a 38 w) w
