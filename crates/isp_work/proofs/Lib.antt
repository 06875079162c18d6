pub mod StageLaws
pub mod ReadLaws
