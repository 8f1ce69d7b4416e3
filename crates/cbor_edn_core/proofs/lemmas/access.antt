-- Parts of items, paths and loans.
pub mod IteratedEntries
pub mod Loans
pub mod ItemNumbers
pub mod Replaced
