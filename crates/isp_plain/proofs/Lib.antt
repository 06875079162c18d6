pub mod DoesLaws
pub mod EntriesBack
pub mod EntriesChanged
pub mod LinedLaws
pub mod SetLaws
pub mod SignedReads
pub mod TextLaws
