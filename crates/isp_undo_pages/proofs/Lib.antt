pub mod DirectoryLaws
pub mod EntryLaws
