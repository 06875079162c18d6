pub mod KeepLaws
pub mod TableLaws
pub mod RootLaws
pub mod CreateLaws
pub mod LoadLaws
