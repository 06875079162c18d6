pub mod BadLaws
pub mod LimitLaws
pub mod LineLaws
pub mod ReadingLaws
