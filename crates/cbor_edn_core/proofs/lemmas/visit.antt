-- Visits, from the calls to the whole.
pub mod ElementVisits
pub mod SoughtChains
pub mod Walks
