pub mod AmongLaws
pub mod DividingLaws
mod DividingWorked
mod InnerLaws
pub mod LevelLaws
pub mod PageLaws
pub mod RangeLaws
pub mod StandLaws
pub mod WayLaws
