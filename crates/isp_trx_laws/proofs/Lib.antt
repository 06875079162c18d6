pub mod MarkLaws
pub mod StageLaws
