pub mod StandLaws
pub mod FrameLaws
pub mod KeptLaws
pub mod AnswerLaws
pub mod EventLaws
