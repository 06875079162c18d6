pub mod BoxLaws
pub mod Pruning
pub mod SignedReads
