mod ClaimNestings
pub mod CountedItems
pub mod Faults
mod Formatted
mod KeptTags
mod LineFeeds
pub mod Loading
mod MessageNestings
mod RecodedTexts
mod Returns
pub mod RunsOnce
mod ShowNesting
mod ShowSteps
mod Shown
mod ShownNesting
pub mod StepsKept
mod TagActs
mod TagNestings
mod UntaggedSteps
mod VisitNestings
mod WrittenOutput
mod ElementTexts
mod SplitSteps
mod NestedSteps
mod EntriesRead
mod LongArrayTexts
mod LongArrays
-- What callers' proofs take: what a visit leaves, by the calls that it makes.
pub use Rattle.cbor_edn_application.proofs.ElementVisits
pub use Rattle.cbor_edn_application.proofs.KnownResults
pub use Rattle.cbor_edn_application.proofs.Lists
pub use Rattle.cbor_edn_application.proofs.MapVisits
pub use Rattle.cbor_edn_application.proofs.Told
pub use Rattle.cbor_edn_application.proofs.VisitChains
pub use Rattle.cbor_edn_conversions.proofs.nesting.TagDepths
pub use Rattle.cbor_edn_core.proofs.lemmas.visit.SoughtChains
