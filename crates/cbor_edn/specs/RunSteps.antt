-- What the options of a run make of the tree that it reads.
use Rattle.std.specs.Prelude.{◌≡◌, Bool, true, false, not}
use Rattle.cbor_edn_parts.specs.declared.space.policy.DelimiterPolicy.{DelimiterPolicy}
use Rattle.cbor_edn_parts.specs.declared.space.policy.DelimiterPolicy.TheVariants.{DiscardAll}
use Rattle.cbor_edn_parts.specs.space.Spacing.{indented}
use Rattle.cbor_edn_model.specs.layout.Layout.{laid_out}
use Rattle.cbor_edn_model.specs.visit.Seeking.{IsTag, IsApplication}
use Rattle.cbor_edn_model.specs.tree.Trees.{Tree, Seq}
use Rattle.cbor_edn_model.specs.visit.Visits.{whole}
use Rattle.cbor_edn_conversions.specs.Addresses.{resolve_address, pretty_address}
use Rattle.cbor_edn_conversions.specs.Annotations.{comment_lang}
use Rattle.cbor_edn_conversions.specs.Bignums.{pretty_bignum}
use Rattle.cbor_edn_conversions.specs.Tag999.{to_tag999}
use Rattle.cbor_edn_conversions.specs.Times.{resolve_time, pretty_time}
use Rattle.cbor_edn_application.specs.Acts.{Act, IsVisited}
use Rattle.cbor_edn_application.specs.Sequences.{with_claims_sets}
use Rattle.cbor_edn_command.specs.declared.options.Options.{Options}

-- what a step makes of a tree
abbrev pub Step : Type 1
Step = Tree Seq → Tree Seq → Type 0

-- A step that is taken where it is asked for; else the tree stays.
abbrev pub Where : Bool → Step → Step
Where true Makes w v = Makes w v
Where false Makes w v = v ≡ w

-- one step, and then another
abbrev pub InTurn : Step → Step → Step
InTurn P Q w v = (u : Tree Seq) × P w u × Q u v

-- the spaces of a policy
abbrev pub IsLaidOut : DelimiterPolicy → Step
IsLaidOut policy w v = v ≡ laid_out policy w

-- whole visits of tags and of literals
abbrev pub TagsVisited : Act → Step
TagsVisited act w v = IsVisited IsTag act w whole v

abbrev pub LiteralsVisited : Act → Step
LiteralsVisited act w v = IsVisited IsApplication act w whole v

-- `IP'192.0.2.1'` for `52(h'c0000201')`, `DT'1970-01-01T00:00:42+00:00'` for `1(42)`, and comments in tags 38
abbrev pub AnnotatesTags : Step
AnnotatesTags = InTurn (TagsVisited pretty_address) (InTurn (TagsVisited pretty_time) (TagsVisited comment_lang))

-- `h'c0000201'` for `ip'192.0.2.1'`, and 42 for `dt'1970-01-01T00:00:42Z'`
abbrev pub ResolvesLiterals : Step
ResolvesLiterals = InTurn (LiteralsVisited resolve_address) (LiteralsVisited resolve_time)

-- comments at the keys of each item that is a map
abbrev pub HasClaims : Step
HasClaims w v = v ≡ with_claims_sets w

-- What the options make of the tree that is read. Each step goes on with what the one before left, and each has one result.
pub record StepsGive (o : Options) (w v : Tree Seq) : Type 0 where
  pub annotated : Tree Seq
  pub uncommented : Tree Seq
  pub resolved : Tree Seq
  pub claimed : Tree Seq
  pub counted : Tree Seq
  pub tagged : Tree Seq
  pub tags : Where o.annotate_tags AnnotatesTags w annotated
  pub comments : Where o.remove_comments (IsLaidOut DiscardAll) annotated uncommented
  pub literals : Where o.aol_to_item ResolvesLiterals uncommented resolved
  pub claims : Where o.annotate_ccs HasClaims resolved claimed
  -- 18446744073709551616 for `2(h'010000000000000000')`
  pub bignums : Where o.bignum_from_tags (TagsVisited pretty_bignum) claimed counted
  -- `999(["foo", "bar"])` for `foo'bar'`
  pub others : Where o.apply_999 (LiteralsVisited to_tag999) counted tagged
  pub spaces : Where (not o.preserve_space) (IsLaidOut indented) tagged v
