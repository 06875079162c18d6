pub mod LanguageLaws
pub mod WorkedRows
pub mod FurtherLaws
pub mod StaleLaws
pub mod RightLaws
pub mod WrongLaws
