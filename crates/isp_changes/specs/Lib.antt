pub mod Rows
pub mod Changes
pub mod Stages
pub mod RowLaws
pub mod ChangeLaws
pub mod TableLaws
pub mod StageLaws
pub mod Worked
