pub mod ChoiceLaws
pub mod NodeLaws
pub mod PutLaws
