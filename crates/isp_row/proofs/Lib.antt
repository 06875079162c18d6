mod Worked
pub mod FieldLaws
pub mod ReadLaws
pub mod LoopLaws
