pub mod CountParts
pub mod NumberedLaws
pub mod RowParts
pub mod EnteredLaws
pub mod RestorableLaws
