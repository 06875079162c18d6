pub mod Trees
pub mod Locks
pub mod Searches
pub mod Work
pub mod InOrder
pub mod OrderLaws
