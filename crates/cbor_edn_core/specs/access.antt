-- Parts of items: what is answered, what iterators have left, and the tree once a loan is over.
pub mod Iterated
pub mod IteratedMut
pub mod Mismatch
pub mod Lent
