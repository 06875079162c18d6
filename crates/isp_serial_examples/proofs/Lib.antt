pub mod ServedLaws
pub mod NeededLaws
pub mod OutgrownLaws
pub mod LeftOutLaws
pub mod FreshLaws
